-- How a number is read, digit by digit. Assumes nothing.
use Rattle.std.proofs.Common.{◌≡◌, ℕ, zero, suc, ◌^◌, ◌<◌, ◌≤◌, min, Bool, true, false, cond, List, [], ◌∷◌, length, get_or, drop, pos, negsuc, neg_ℤ, Some, None, decimal, Option, refl, ap, ◌∙◌, arith, rules, eq-eqb, ne_eqb, le-leb}
use Rattle.std.proofs.Math.Nat.{pow-le-pow_right}
use Rattle.std.specs.Option.{option_map}
use Rattle.std.specs.Str.{all_ascii_digits}
use Rattle.std.proofs.lemmas.Str.Parse.{IsNumeralModel, numerals_by_fold}
use Rattle.std.proofs.lemmas.Fmt.{digits_decimal, digits_value-decimal, length-decimal-le, decimal_nonempty, first_decimal, decimal_digit}
use Rattle.numerals.specs.Reads.{digit_limit, numeral, natural, integer, ReadsBack}

-- the bytes that are left to read, behind digits that write n
abbrev pub reading : ℕ → List ℕ → Option ℕ
reading n bs = cond (all_ascii_digits bs) (Some (numeral n bs)) None

-- so far the number is small enough for one more digit
pub room : (n i : ℕ) → n < 10 ^ i → i ≤ 8 → n < 100000000
room n i h k = let p : 10 ^ i ≤ 10 ^ 8 = pow-le-pow_right (omega arith) k in omega (arith, p)

-- within the limits the digits decide
pub natural_is : (most : ℕ) (bs : List ℕ) → 1 ≤ length bs → length bs ≤ min most digit_limit → natural most bs ≡ reading 0 bs
natural_is most bs some few = simp (le-leb 1 (length bs) some, le-leb (length bs) (min most digit_limit) few)

-- with a minus in front, or none
pub minus : (m : Bool) (most : ℕ) (bs : List ℕ) → m ≡ true → 0 < length bs → get_or bs 0 0 ≡ 45 → integer m most bs ≡ option_map (λ n. neg_ℤ (pos n)) (natural most (drop 1 bs))
minus m most [] t h e = absurd (omega arith)
minus m most (b ∷ bs) t h e = simp (t, eq-eqb b 45 e)

own : IsNumeralModel (λ ds. all_ascii_digits ds ≡ true) (numeral 0)
own = numerals_by_fold _ (search rules) numeral (search rules)

-- the digits of a number say it
natural_decimal : (n : ℕ) → n < 10 ^ digit_limit → natural digit_limit (decimal n) ≡ Some n
natural_decimal n h =
    let f : n < 2 ^ 64 = omega arith in
    let d : all_ascii_digits (decimal n) ≡ true = digits_decimal own n f in
    let v : numeral 0 (decimal n) ≡ n = digits_value-decimal own n f in
    natural_is digit_limit (decimal n) (omega (arith, decimal_nonempty n f)) (length-decimal-le digit_limit n (omega arith) h f) ∙ simp (d, v)

-- no minus in front
pub plain_empty : (m : Bool) (most : ℕ) (bs : List ℕ) → length bs < 1 → integer m most bs ≡ option_map pos (natural most bs)
plain_empty m most [] h = refl
plain_empty m most (b ∷ bs) h = absurd (omega arith)

pub plain_no_minus : (m : Bool) (most : ℕ) (bs : List ℕ) → m ≡ false → integer m most bs ≡ option_map pos (natural most bs)
plain_no_minus m most [] h = refl
plain_no_minus m most (b ∷ bs) h = simp h

pub plain_other : (m : Bool) (most : ℕ) (bs : List ℕ) → (get_or bs 0 0 ≡ 45 → ⊥) → integer m most bs ≡ option_map pos (natural most bs)
plain_other m most [] h = refl
plain_other true most (b ∷ bs) h = simp (ne_eqb b 45 h)
plain_other false most (b ∷ bs) h = refl

-- the first byte of a number's digits is a digit
no_minus : (n : ℕ) → n < 2 ^ 64 → get_or (decimal n) 0 0 ≡ 45 → ⊥
no_minus zero f e = omega (arith, e, ap (λ l. get_or l 0 0) (decimal_digit 0 (omega arith)))
no_minus (suc n) f e = omega (arith, first_decimal (suc n) (omega arith) f, e)

pub reads_back : ReadsBack
reads_back (pos n) h =
    let f : n < 2 ^ 64 = omega arith in
    plain_other true digit_limit (decimal n) (no_minus n f) ∙ ap (option_map pos) (natural_decimal n h)
reads_back (negsuc n) h = ap (option_map (λ n. neg_ℤ (pos n))) (natural_decimal (suc n) h)
