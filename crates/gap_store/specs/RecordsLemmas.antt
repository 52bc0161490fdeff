-- Packed lines: where each starts, what stands there, and that they can be read back. Assumes nothing.
use Rattle.std.specs.Prelude.{◌≡◌, ℕ, zero, suc, ◌+◌, ◌<◌, ◌≤◌, List, [], ◌∷◌, ◌++◌, length, get_or, take, drop, slice_index, slice_index_or, refl}
use Rattle.std.proofs.Common.{sym, ap, ◌∙◌, add-zero, arith}
use Rattle.std.proofs.Math.Seq.{take-append_seam, drop-append_seam, drop-append-add, split_at}
use Rattle.std.proofs.lemmas.List.{append_assoc, length-append, get_or-append-add, get_or_at, take_more, take-append-drop}
use Rattle.line.specs.Lines.{Line}
use Rattle.line.specs.Stores.{charges}
use Rattle.gap_store.specs.Records.{record_of, packed, unpacked, taken}

pub length_record : (l : Line) → length (record_of l) ≡ length l + 2
length_record l = let h = length-append l (length l ∷ []) in omega arith

pub length_packed : (ls : List Line) → length (packed ls) ≡ charges taken ls
length_packed [] = refl
length_packed (l ∷ ls) =
    let a = length-append (record_of l) (packed ls) in
    let b = length_record l in
    let h = length_packed ls in
    omega arith

pub packed_append : (xs ys : List Line) → packed (xs ++ ys) ≡ packed xs ++ packed ys
packed_append [] ys = refl
packed_append (x ∷ xs) ys =
    ap (λ (r : List ℕ). record_of x ++ r) (packed_append xs ys) ∙ sym (append_assoc (record_of x) (packed xs) (packed ys))

pub length_unpacked : (n : ℕ) (bytes : List ℕ) → length (unpacked n bytes) ≡ n
length_unpacked zero bytes = refl
length_unpacked (suc n) bytes = ap suc (length_unpacked n (drop (slice_index bytes 0 + 2) bytes))

pub unpacked_take : (n m : ℕ) (bytes : List ℕ) → n ≤ m → take n (unpacked m bytes) ≡ unpacked n bytes
unpacked_take zero m bytes h = refl
unpacked_take (suc n) zero bytes h = absurd (omega arith)
unpacked_take (suc n) (suc m) bytes h =
    ap (λ (r : List Line). take (slice_index bytes 0) (drop 1 bytes) ∷ r)
    (unpacked_take n m (drop (slice_index bytes 0 + 2) bytes) (omega arith))

-- packed lines are read back
pub unpacked_packed : (ls : List Line) → unpacked (length ls) (packed ls) ≡ ls
unpacked_packed [] = refl
unpacked_packed (l ∷ ls) =
    let n : ℕ = length l in
    let bytes : List ℕ = packed (l ∷ ls) in
    let tail : List ℕ = (l ++ n ∷ []) ++ packed ls in
    let a : take n tail ≡ l = rw append_assoc (take-append_seam l (n ∷ packed ls)) in
    let s : length (record_of l) + 0 ≡ n + 2 = omega (arith, length_record l) in
    let b : drop (n + 2) bytes ≡ packed ls = ap (λ (k : ℕ). drop k bytes) (sym s) ∙ drop-append-add (record_of l) (packed ls) 0 in
    ap (λ (r : List ℕ). take n tail ∷ unpacked (length ls) r) b ∙ ap (λ (x : Line). x ∷ unpacked (length ls) (packed ls)) a ∙ ap (λ (r : List Line). l ∷ r) (unpacked_packed ls)

pub packed_here : (ls : List Line) (n : ℕ) (bytes : List ℕ) → bytes ≡ packed ls → length ls ≡ n → unpacked n bytes ≡ ls
packed_here ls n bytes e l = rw (e, ← l) (unpacked_packed ls)

module _ (ls : List Line) (i : ℕ) (h : i < length ls) where
  abbrev before : List ℕ
  before = packed (take i ls)

  abbrev here : Line
  here = slice_index_or ls i []

  -- the lines before a line, the line, and those behind it
  pub parts : packed ls ≡ before ++ (record_of here ++ packed (drop (suc i) ls))
  parts = ap packed (split_at ls i [] h) ∙ packed_append (take i ls) (here ∷ drop (suc i) ls)

  abbrev behind : List ℕ
  behind = packed (drop (suc i) ls)

  pub start_more : length (packed (take (i + 1) ls)) ≡ length before + (length here + 2)
  start_more =
      let a = ap (λ (r : List Line). length (packed r)) (take_more ls i [] h) in
      let b = ap length (packed_append (take i ls) (here ∷ [])) in
      let d = length-append before (packed (here ∷ [])) in
      let e = length_packed (here ∷ []) in
      omega arith

  pub start_in : length before + (length here + 2) ≤ length (packed ls)
  start_in =
      let a = ap length parts in
      let b = length-append before (record_of here ++ behind) in
      let d = length-append (record_of here) behind in
      let r = length_record here in
      omega arith

  -- the length that stands where a line starts
  pub first_length : get_or (packed ls) (length before) 0 ≡ length here
  first_length =
      ap (λ (r : List ℕ). slice_index r (length before)) parts
      ∙ ap (λ (k : ℕ). slice_index (before ++ (record_of here ++ behind)) k) (sym (add-zero (length before)))
      ∙ get_or-append-add before (record_of here ++ behind) 0 0

  -- the length that stands before the next line
  pub last_length : get_or (packed ls) (length before + suc (length here)) 0 ≡ length here
  last_length =
      ap (λ (r : List ℕ). slice_index r (length before + suc (length here))) parts
      ∙ get_or-append-add before (record_of here ++ behind) (suc (length here)) 0
      ∙ ap (λ (r : List ℕ). slice_index r (length here)) (append_assoc here (length here ∷ []) behind)
      ∙ get_or_at here (length here) behind 0 (length here) refl

  -- the bytes between the two
  pub between_lengths : take (length here) (drop (length before + 1) (packed ls)) ≡ here
  between_lengths =
      ap (λ (r : List ℕ). take (length here) (drop (length before + 1) r)) parts
      ∙ ap (take (length here)) (drop-append-add before (record_of here ++ behind) 1 ∙ append_assoc here (length here ∷ []) behind)
      ∙ take-append_seam here (length here ∷ behind)

-- packed lines, cut where one starts
pub take_packed : (ls : List Line) (i : ℕ) → take (length (packed (take i ls))) (packed ls) ≡ packed (take i ls)
take_packed ls i =
    ap (λ (r : List Line). take (length (packed (take i ls))) (packed r)) (sym (take-append-drop i ls))
    ∙ ap (take (length (packed (take i ls)))) (packed_append (take i ls) (drop i ls))
    ∙ take-append_seam (packed (take i ls)) (packed (drop i ls))

pub drop_packed : (ls : List Line) (i : ℕ) → drop (length (packed (take i ls))) (packed ls) ≡ packed (drop i ls)
drop_packed ls i =
    ap (λ (r : List Line). drop (length (packed (take i ls))) (packed r)) (sym (take-append-drop i ls))
    ∙ ap (drop (length (packed (take i ls)))) (packed_append (take i ls) (drop i ls))
    ∙ drop-append_seam (packed (take i ls)) (packed (drop i ls))

-- there are no more lines than bytes
pub few_lines : (ls : List Line) → length ls ≤ charges taken ls
few_lines [] = omega arith
few_lines (l ∷ ls) = let h = few_lines ls in omega arith
