-- What a decimal argument says. Assumes nothing.
use Rattle.std.specs.Prelude.{◌≡◌, ℕ, ◌+◌, ◌-◌, ◌*◌, ◌^◌, ◌<◌, min, Bool, true, cond, ◌&&◌, List, [], ◌∷◌, length, ℤ, pos, neg_ℤ, Some, None, Option, ◌==◌, nat_le, unsigned_abs}
use Rattle.std.specs.Option.{option_map}
use Rattle.std.specs.Fmt.{signed_decimal}
use Rattle.std.specs.Str.{all_ascii_digits}

-- however many digits an argument may have, more than nine are never taken
abbrev pub digit_limit : ℕ
digit_limit = 9

-- the number that digits write, behind others that write n
abbrev pub numeral : ℕ → List ℕ → ℕ
numeral n [] = n
numeral n (b ∷ bs) = numeral (n * 10 + (b - 48)) bs

-- one digit or more, at most `most`, and nothing else; zeros in front count as digits
abbrev pub natural : ℕ → List ℕ → Option ℕ
natural most bs = cond (nat_le 1 (length bs) && (nat_le (length bs) (min most digit_limit) && all_ascii_digits bs)) (Some (numeral 0 bs)) None

-- the same, behind a minus where one is allowed
abbrev pub integer : Bool → ℕ → List ℕ → Option ℤ
integer minus most [] = None
integer minus most (b ∷ bs) = cond (minus && b == 45) (option_map (λ n. neg_ℤ (pos n)) (natural most bs)) (option_map pos (natural most (b ∷ bs)))

-- a number's own decimal digits, with its minus, say that number
abbrev pub ReadsBack : Type 0
ReadsBack = (z : ℤ) → unsigned_abs z < 10 ^ digit_limit → integer true digit_limit (signed_decimal z) ≡ Some z
