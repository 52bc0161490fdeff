-- The lines in slots, one by one. Assumes nothing.
use Rattle.std.specs.Prelude.{◌≡◌, ℕ, zero, suc, ◌+◌, ◌*◌, ◌<◌, ◌≤◌, true, List, [], length, get_or, take, drop, slice_index, slice_index_or, refl}
use Rattle.std.proofs.Common.{ap, ◌∙◌, arith}
use Rattle.std.specs.List.{AllByRecursion}
use Rattle.std.proofs.lemmas.List.{drop-drop, drop-take, take-take, length-take, length-drop, get_or-take, get_or-drop}
use Rattle.std.proofs.ByRecursion.{All-get_or, All-from_get_or}
use Rattle.line.specs.Lines.{Line, line_limit, is_line}
use Rattle.line.proofs.Edits.{line_short}
use Rattle.slot_store.specs.Slots.{slot_size, slot_at, slot_line, slots_of, Held}

pub length_slots : (n : ℕ) (bytes : List ℕ) → length (slots_of n bytes) ≡ n
length_slots zero bytes = refl
length_slots (suc n) bytes = ap suc (length_slots n (drop slot_size bytes))

-- line i is the line in slot i
pub get_or_slots : (n : ℕ) (bytes : List ℕ) (i : ℕ) → i < n → slice_index_or (slots_of n bytes) i [] ≡ slot_line (slot_at bytes i)
get_or_slots zero bytes i h = absurd (omega arith)
get_or_slots (suc n) bytes zero h = refl
get_or_slots (suc n) bytes (suc i) h =
    let e : slot_size + slot_size * i ≡ slot_size * suc i = omega arith in
    get_or_slots n (drop slot_size bytes) i (omega arith)
    ∙ ap (λ (xs : List ℕ). slot_line (take slot_size xs)) (drop-drop (slot_size * i) slot_size bytes ∙ ap (λ (k : ℕ). drop k bytes) e)

pub held_all : (n : ℕ) (bytes : List ℕ) → Held n bytes → AllByRecursion (λ (l : Line). is_line l ≡ true) (slots_of n bytes)
held_all n bytes h =
    All-from_get_or _ (slots_of n bytes) []
    (λ i l. let k : i < n = omega (arith, length_slots n bytes) in rw (get_or_slots n bytes i k) (h i k))

pub all_held : (n : ℕ) (bytes : List ℕ) → AllByRecursion (λ (l : Line). is_line l ≡ true) (slots_of n bytes) → Held n bytes
all_held n bytes all i h =
    rw (get_or_slots n bytes i h) at (All-get_or (λ (l : Line). is_line l ≡ true) (slots_of n bytes) i [] (omega (arith, length_slots n bytes)) all)

module _ (bytes : List ℕ) (i : ℕ) (whole : slot_size * i + slot_size ≤ length bytes) where
  pub length_byte : get_or (slot_at bytes i) 0 0 ≡ slice_index bytes (slot_size * i)
  length_byte =
      let e : slot_size * i + 0 ≡ slot_size * i = omega arith in
      get_or-take slot_size (drop (slot_size * i) bytes) 0 0 (omega arith)
      ∙ get_or-drop (slot_size * i) bytes 0 0
      ∙ ap (λ (k : ℕ). slice_index bytes k) e

  -- bytes behind the length, as the memory has them
  pub slot_part : (n : ℕ) → n ≤ line_limit → take n (drop 1 (slot_at bytes i)) ≡ take n (drop (slot_size * i + 1) bytes)
  slot_part n h =
      ap (take n) (drop-take 1 127 (drop (slot_size * i) bytes))
      ∙ take-take n 127 (drop 1 (drop (slot_size * i) bytes)) (omega arith)
      ∙ ap (take n) (drop-drop 1 (slot_size * i) bytes)

  -- the length byte of a slot that holds a line
  pub held_length : is_line (slot_line (slot_at bytes i)) ≡ true → slice_index bytes (slot_size * i) ≤ line_limit
  held_length h =
      let n : ℕ = get_or (slot_at bytes i) 0 0 in
      let s = line_short (slot_line (slot_at bytes i)) h in
      let a = length-take n (drop 1 (slot_at bytes i)) in
      let b = length-drop 1 (slot_at bytes i) in
      let d = length-take slot_size (drop (slot_size * i) bytes) in
      let e = length-drop (slot_size * i) bytes in
      let f = length_byte in
      omega arith
