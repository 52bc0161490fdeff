-- A number at the right end of its field. Assumes nothing.
use Rattle.std.proofs.Common.{◌≡◌, ℕ, ◌+◌, ◌-◌, ◌≤◌, List, ◌++◌, length, take, drop, replicate, set, get_or, ℤ, pos, negsuc, ◌<ℤ◌, sym, ap, ◌∙◌, arith}
use borrow.Rule.Slice.PartMut.{put_mid}
use Rattle.std.specs.Fmt.{signed_decimal}
use Rattle.std.proofs.lemmas.List.{length-append, length-replicate, drop-append-le, drop-replicate, length-drop, drop-drop, append_assoc, take-append-le, take-take, length-take-le, drop_at, get_or-drop, set-get_or}
use Rattle.std.proofs.lemmas.Int.{ints}
use Rattle.std.proofs.lemmas.Slice.{take-put_mid, drop-put_mid}
use Rattle.numerals.specs.Fields.{field, placed, FieldLaw}

-- a field that its number fits into
pub holds : (width : ℕ) (z : ℤ) → length (signed_decimal z) ≤ width → field width z ≡ replicate (width - length (signed_decimal z)) 32 ++ signed_decimal z
holds width z h =
    let n = length-replicate {A = ℕ} width 32 in
    drop-append-le (length (signed_decimal z)) (replicate width 32) (signed_decimal z) (omega arith) ∙ ap (λ l. l ++ signed_decimal z) (drop-replicate (length (signed_decimal z)) width 32)

pub law : FieldLaw
law = record {
  wide = λ width z. simp (length-drop, length-append, length-replicate) (omega arith);
  holds = holds;
}

-- by the place where the number begins: so many spaces, and the number
spaced : (at width from : ℕ) (z : ℤ) → from + length (signed_decimal z) ≡ at + width → at ≤ from → field width z ≡ replicate (from - at) 32 ++ signed_decimal z
spaced at width from z n h =
    let k : from - at ≡ width - length (signed_decimal z) = omega arith in
    holds width z (omega arith) ∙ ap (λ n. replicate n 32 ++ signed_decimal z) (sym k)

-- spaces up to a place, and the number from there on, put over a field that the number fits into
pub set_field : (row spaces digits : List ℕ) (at width from : ℕ) (z : ℤ) → at + width ≤ length row → from + length (signed_decimal z) ≡ at + width → at ≤ from → spaces ≡ replicate (from - at) 32 → digits ≡ signed_decimal z → put_mid from (at + width - from) (put_mid at (from - at) row spaces) digits ≡ placed row at width z
set_field row spaces digits at width from z room n h p d =
    let pad : List ℕ = replicate (from - at) 32 in
    let m : length pad ≡ from - at = length-replicate (from - at) 32 in
    let front : take from (put_mid at (from - at) row pad) ≡ take at row ++ pad = take-put_mid at (from - at) row pad from (omega arith) (omega arith) in
    let back : drop (at + width) (put_mid at (from - at) row pad) ≡ drop (at + width) row = drop-put_mid at (from - at) row pad (at + width) (omega arith) (omega arith) m in
    let j : from + (at + width - from) ≡ at + width = omega arith in
    rw (p, d, front, drop-drop (at + width - from) from (put_mid at (from - at) row pad), j, back, spaced at width from z n h) (simp append_assoc)

-- the number up to the end of its field, and then spaces from the front of the field up to the number
pub set_digits_first : (row spaces digits : List ℕ) (at width from : ℕ) (z : ℤ) → at + width ≤ length row → from + length (signed_decimal z) ≡ at + width → at ≤ from → spaces ≡ replicate (from - at) 32 → digits ≡ signed_decimal z → put_mid at (from - at) (put_mid from (at + width - from) row digits) spaces ≡ placed row at width z
set_digits_first row spaces digits at width from z room n h p d =
    let pad : List ℕ = replicate (from - at) 32 in
    let number : List ℕ = signed_decimal z in
    let l : length (take from row) ≡ from = length-take-le from row (omega arith) in
    let rest : drop (at + width - from) (drop from row) ≡ drop (at + width) row = drop-drop (at + width - from) from row ∙ ap (λ m. drop m row) (let j : from + (at + width - from) ≡ at + width = omega arith in j) in
    let inner : List ℕ = take from row ++ (number ++ drop (at + width - from) (drop from row)) in
    let front : take at inner ≡ take at row = take-append-le at (take from row) (number ++ drop (at + width - from) (drop from row)) (omega (arith, l)) ∙ take-take at from row h in
    let back : drop (from - at) (drop at inner) ≡ number ++ drop (at + width) row = drop-drop (from - at) at inner ∙ ap (λ m. drop m inner) (let j : at + (from - at) ≡ from = omega arith in j) ∙ drop_at (take from row) (number ++ drop (at + width - from) (drop from row)) from l ∙ ap (λ xs. number ++ xs) rest in
    rw (p, d, front, back, spaced at width from z n h) (sym (ap (λ xs. take at row ++ xs) (append_assoc pad number (drop (at + width) row))))

-- the number of a value below 0 begins with its minus, so that one put there changes nothing
pub set_minus_again : (row spaces digits : List ℕ) (at width from : ℕ) (z : ℤ) → z <ℤ pos 0 → at + width ≤ length row → from + length (signed_decimal z) ≡ at + width → at ≤ from → spaces ≡ replicate (from - at) 32 → digits ≡ signed_decimal z → put_mid at (from - at) (set (put_mid from (at + width - from) row digits) from 45) spaces ≡ placed row at width z
set_minus_again row spaces digits at width from (pos a) low room n h p d = absurd (omega (arith, ints, low))
set_minus_again row spaces digits at width from (negsuc a) low room n h p d =
    let l : length (take from row) ≡ from = length-take-le from row (omega arith) in
    let inner : List ℕ = put_mid from (at + width - from) row digits in
    let there : drop from inner ≡ digits ++ drop (at + width - from) (drop from row) = drop_at (take from row) (digits ++ drop (at + width - from) (drop from row)) from l in
    let minus : get_or inner from 0 ≡ 45 = ap (λ i. get_or inner i 0) (let j : from ≡ from + 0 = omega arith in j) ∙ sym (get_or-drop from inner 0 0) ∙ ap (λ xs. get_or xs 0 0) there ∙ ap (λ xs. get_or (xs ++ drop (at + width - from) (drop from row)) 0 0) d in
    let same : set inner from 45 ≡ inner = ap (set inner from) (sym minus) ∙ set-get_or inner from 0 in
    ap (λ xs. put_mid at (from - at) xs spaces) same ∙ set_digits_first row spaces digits at width from (negsuc a) room n h p d
