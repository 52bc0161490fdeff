-- Steps from line to line of bytes that hold so many. Assumes nothing.
use Rattle.std.proofs.Common.{◌≡◌, ℕ, suc, ◌+◌, ◌-◌, ◌<◌, ◌≤◌, List, [], length, get_or, take, drop, sym, ap, ◌∙◌, arith}
use Rattle.line.specs.Lines.{Line}
use Rattle.gap_store.specs.Records.{packed, unpacked, Packed}
use Rattle.gap_store.specs.RecordsLemmas.{length_unpacked, unpacked_take, start_more, start_in, first_length, last_length, between_lengths}

-- where line k starts
abbrev pub start_of : ℕ → List ℕ → ℕ
start_of k bytes = length (packed (unpacked k bytes))

module _ (n : ℕ) (bytes : List ℕ) (p : Packed n bytes) (i : ℕ) (h : i < n) where
  abbrev ls : List Line
  ls = unpacked n bytes

  among : i < length ls
  among = omega (arith, length_unpacked n bytes)

  starts : (k : ℕ) → k ≤ n → start_of k bytes ≡ length (packed (take k ls))
  starts k l = ap (λ (r : List Line). length (packed r)) (sym (unpacked_take k n bytes l))

  -- the length that stands at the start of a line
  pub length_is : get_or bytes (start_of i bytes) 0 ≡ length (get_or ls i [])
  length_is =
      ap (λ (k : ℕ). get_or bytes k 0) (starts i (omega arith))
      ∙ ap (λ (r : List ℕ). get_or r (length (packed (take i ls))) 0) (sym p)
      ∙ first_length ls i among

  pub next_start : start_of (i + 1) bytes ≡ start_of i bytes + (length (get_or ls i []) + 2)
  next_start =
      let a = starts (i + 1) (omega arith) in
      let b = starts i (omega arith) in
      let m = start_more ls i among in
      omega arith

  pub next_in : start_of i bytes + (length (get_or ls i []) + 2) ≤ length bytes
  next_in =
      let b = starts i (omega arith) in
      let m = start_in ls i among in
      let e = ap length p in
      omega arith

  -- the length that stands at the end of a line
  pub last_is : get_or bytes (start_of (i + 1) bytes - 1) 0 ≡ length (get_or ls i [])
  last_is =
      let b = starts i (omega arith) in
      let m = next_start in
      let e : start_of (i + 1) bytes - 1 ≡ length (packed (take i ls)) + suc (length (get_or ls i [])) = omega arith in
      ap (λ (k : ℕ). get_or bytes k 0) e
      ∙ ap (λ (r : List ℕ). get_or r (length (packed (take i ls)) + suc (length (get_or ls i []))) 0) (sym p)
      ∙ last_length ls i among

  -- the bytes of a line
  pub line_is : take (length (get_or ls i [])) (drop (start_of i bytes + 1) bytes) ≡ get_or ls i []
  line_is =
      ap (λ (k : ℕ). take (length (get_or ls i [])) (drop (k + 1) bytes)) (starts i (omega arith))
      ∙ ap (λ (r : List ℕ). take (length (get_or ls i [])) (drop (length (packed (take i ls)) + 1) r)) (sym p)
      ∙ between_lengths ls i among

  -- one line forward
  pub forward_step : (start : ℕ) → start ≡ start_of i bytes → (start + (get_or bytes start 0 + 2) ≤ length bytes) × (start + (get_or bytes start 0 + 2) ≡ start_of (i + 1) bytes)
  forward_step start e =
      let a : get_or bytes start 0 ≡ length (get_or ls i []) = rw e length_is in
      let s = next_start in
      let l = next_in in
      (omega arith, omega arith)

  -- one line back
  pub back_step : (end : ℕ) → end ≡ start_of (i + 1) bytes → (end ≤ length bytes) × (get_or bytes (end - 1) 0 + 2 ≤ end) × (end - (get_or bytes (end - 1) 0 + 2) ≡ start_of i bytes)
  back_step end e =
      let a : get_or bytes (end - 1) 0 ≡ length (get_or ls i []) = rw e last_is in
      let s = next_start in
      let l = next_in in
      (omega arith, omega arith, omega arith)

  -- the line at a start
  pub line_found : (start : ℕ) → start ≡ start_of i bytes → (start + (get_or bytes ((start + 1) - 1) 0 + 2) ≤ length bytes) × (take (get_or bytes ((start + 1) - 1) 0) (drop (start + 1) bytes) ≡ get_or ls i [])
  line_found start e =
      let z : (start + 1) - 1 ≡ start = omega arith in
      let a : get_or bytes ((start + 1) - 1) 0 ≡ length (get_or ls i []) = rw z (rw e length_is) in
      let l = next_in in
      (omega arith, ap (λ (k : ℕ). take k (drop (start + 1) bytes)) a ∙ rw e line_is)
