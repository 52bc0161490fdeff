-- What writing a line and moving slots makes of the lines. Assumes nothing.
use Rattle.std.specs.Prelude.{◌≡◌, ℕ, suc, ◌+◌, ◌-◌, ◌*◌, ◌<◌, ◌≤◌, ◌≢◌, List, [], ◌∷◌, length, get_or, take, drop, slice_index, slice_index_or, slice_set}
use Rattle.std.proofs.Common.{sym, ap, ◌∙◌, ⊎_elim, arith}
use Rattle.std.proofs.Math.Seq.{take-length}
use Rattle.std.specs.List.{insert, remove}
use Rattle.std.proofs.lemmas.List.{ext_get_or, length-set, length-drop, get_or-set_same, get_or-set_other, get_or-take, drop-drop}
use Rattle.std.proofs.lemmas.List.Edits.{length-insert, length-remove, get_or-insert_below, get_or-insert_at, get_or-insert_above, get_or-remove_below, get_or-remove_above, length-paste}
use Rattle.std.proofs.lemmas.Bool.{cases_order, cases_lt, cases_eq}
use Rattle.line.specs.Lines.{Line, line_limit}
use Rattle.line.proofs.Pastes.{part_below, part_above, part_inside}
use Rattle.slot_store.specs.Slots.{slot_size, slot_at, slot_line, slots_of, with_line, with_slots}
use Rattle.slot_store.specs.SlotsLemmas.{length_slots, get_or_slots, slot_part}

-- two stores whose slots hold the same lines
same_slots : (n : ℕ) (bytes : List ℕ) (ls : List Line) → length ls ≡ n → ((i : ℕ) → i < n → slot_line (slot_at bytes i) ≡ slice_index_or ls i []) → slots_of n bytes ≡ ls
same_slots n bytes ls l each =
    ext_get_or [] (slots_of n bytes) ls (length_slots n bytes ∙ sym l)
    (λ i h. let k : i < n = omega (arith, length_slots n bytes) in get_or_slots n bytes i k ∙ each i k)

module _ (bytes : List ℕ) (at : ℕ) (line : List ℕ) (whole : slot_size * at + slot_size ≤ length bytes) (short : length line ≤ line_limit) where
  abbrev now : List ℕ
  now = with_line bytes at line

  fits : slot_size * at ≤ length bytes
  fits = omega arith

  all : suc (length line) ≤ length (length line ∷ line)
  all = omega arith

  pub length_with : length now ≡ length bytes
  length_with = length-paste bytes (slot_size * at) (length line ∷ line) (suc (length line)) (omega arith) all

  pub other_slot : (i : ℕ) → i ≢ at → slot_at now i ≡ slot_at bytes i
  other_slot i ne =
      ⊎_elim
      (λ (e : i ≡ at). absurd (ne e))
      (⊎_elim
      (λ (h : i < at). part_below bytes (length line ∷ line) (slot_size * at) (suc (length line)) fits all (slot_size * i) slot_size (omega arith))
      (λ (h : at < i). ap (take slot_size) (part_above bytes (length line ∷ line) (slot_size * at) (suc (length line)) fits all (slot_size * i) (omega arith))))
      (cases_order i at)

  whole_now : slot_size * at + slot_size ≤ length now
  whole_now = rw length_with whole

  pub this_slot : slot_line (slot_at now at) ≡ line
  this_slot =
      let n : ℕ = length line in
      let z : slot_size * at + 0 ≡ slot_size * at = omega arith in
      let p : take 1 (drop (slot_size * at) now) ≡ n ∷ [] =
      ap (λ (k : ℕ). take 1 (drop k now)) (sym z) ∙ part_inside bytes (n ∷ line) (slot_size * at) (suc n) fits all 0 1 (omega arith)
      in
      let a : get_or (slot_at now at) 0 0 ≡ n =
      get_or-take slot_size (drop (slot_size * at) now) 0 0 (omega arith)
      ∙ sym (get_or-take 1 (drop (slot_size * at) now) 0 0 (omega arith))
      ∙ ap (λ (xs : List ℕ). slice_index xs 0) p
      in
      let b : take n (drop (slot_size * at + 1) now) ≡ take n line =
      part_inside bytes (n ∷ line) (slot_size * at) (suc n) fits all 1 n (omega arith)
      in
      ap (λ (k : ℕ). take k (drop 1 (slot_at now at))) a ∙ slot_part now at whole_now n short ∙ b ∙ take-length line

  pub replaced : (n : ℕ) → at < n → slots_of n now ≡ slice_set (slots_of n bytes) at line
  replaced n h =
      let ls : List Line = slots_of n bytes in
      let l = length_slots n bytes in
      same_slots n now (slice_set ls at line) (length-set ls at line ∙ l)
      (λ i k. ⊎_elim
      (λ (e : i ≡ at). rw e (this_slot ∙ sym (get_or-set_same ls at line [] (omega arith))))
      (λ (ne : i ≢ at).
      ap slot_line (other_slot i ne) ∙ sym (get_or_slots n bytes i k) ∙ sym (get_or-set_other ls at i line [] ne))
      (cases_eq i at))

module _ (bytes : List ℕ) (from end to : ℕ) (forward : from ≤ end) (whole : slot_size * end ≤ length bytes) (room : slot_size * (to + (end - from)) ≤ length bytes) where
  abbrev moved : List ℕ
  moved = with_slots bytes from end to

  begins : slot_size * to ≤ length bytes
  begins = omega arith

  enough : slot_size * end - slot_size * from ≤ length (drop (slot_size * from) bytes)
  enough = simp length-drop (omega arith)

  pub length_moved : length moved ≡ length bytes
  length_moved =
      length-paste bytes (slot_size * to) (drop (slot_size * from) bytes) (slot_size * end - slot_size * from) (omega arith) enough

  pub moved_slot : (i : ℕ) → i < end - from → slot_at moved (to + i) ≡ slot_at bytes (from + i)
  moved_slot i h =
      let a : slot_size * (to + i) ≡ slot_size * to + slot_size * i = omega arith in
      let b : slot_size * from + slot_size * i ≡ slot_size * (from + i) = omega arith in
      ap (λ (k : ℕ). take slot_size (drop k moved)) a
      ∙ part_inside bytes (drop (slot_size * from) bytes) (slot_size * to) (slot_size * end - slot_size * from) begins enough (slot_size * i) slot_size (omega arith)
      ∙ ap (take slot_size) (drop-drop (slot_size * i) (slot_size * from) bytes ∙ ap (λ (k : ℕ). drop k bytes) b)

  pub kept_slot : (i : ℕ) → i < to → slot_at moved i ≡ slot_at bytes i
  kept_slot i h =
      part_below bytes (drop (slot_size * from) bytes) (slot_size * to) (slot_size * end - slot_size * from) begins enough (slot_size * i) slot_size (omega arith)

-- the slots behind move up, and the line is written into the slot that is free
pub slots_inserted : (bytes : List ℕ) (n at : ℕ) (line : List ℕ) → at ≤ n → slot_size * (n + 1) ≤ length bytes → length line ≤ line_limit → slots_of (n + 1) (with_line (with_slots bytes at n (at + 1)) at line) ≡ insert (slots_of n bytes) at line
slots_inserted bytes n at line h room short =
    let ls : List Line = slots_of n bytes in
    let l = length_slots n bytes in
    let up : List ℕ = with_slots bytes at n (at + 1) in
    let w : slot_size * n ≤ length bytes = omega arith in
    let r : slot_size * ((at + 1) + (n - at)) ≤ length bytes = omega arith in
    let lu = length_moved bytes at n (at + 1) h w r in
    let whole : slot_size * at + slot_size ≤ length up = omega arith in
    same_slots (n + 1) (with_line up at line) (insert ls at line) (length-insert ls at line (omega arith) ∙ ap (λ (k : ℕ). k + 1) l)
    (λ i k. ⊎_elim
    (λ (e : i ≡ at). rw e (this_slot up at line whole short ∙ sym (get_or-insert_at ls at line [] (omega arith))))
    (⊎_elim
    (λ (b : i < at).
    let ne : i ≢ at = omega arith in
    ap slot_line (other_slot up at line whole short i ne ∙ kept_slot bytes at n (at + 1) h w r i (omega arith))
    ∙ sym (get_or_slots n bytes i (omega arith))
    ∙ sym (get_or-insert_below ls at line [] i b (omega arith)))
    (λ (a : at < i).
    let ne : i ≢ at = omega arith in
    let j : ℕ = i - (at + 1) in
    let e : i ≡ (at + 1) + j = omega arith in
    let f : i ≡ (at + j) + 1 = omega arith in
    ap slot_line
    (other_slot up at line whole short i ne ∙ ap (slot_at up) e ∙ moved_slot bytes at n (at + 1) h w r j (omega arith))
    ∙ sym (get_or_slots n bytes (at + j) (omega arith))
    ∙ sym (get_or-insert_above ls at line [] (at + j) (omega arith) (omega arith))
    ∙ ap (λ (m : ℕ). get_or (insert ls at line) m []) (sym f)))
    (cases_order i at))

-- the slots behind move down
pub slots_removed : (bytes : List ℕ) (n at : ℕ) → at < n → slot_size * n ≤ length bytes → slots_of (n - 1) (with_slots bytes (at + 1) n at) ≡ remove (slots_of n bytes) at
slots_removed bytes n at h w =
    let ls : List Line = slots_of n bytes in
    let l = length_slots n bytes in
    let f : at + 1 ≤ n = omega arith in
    let r : slot_size * (at + (n - (at + 1))) ≤ length bytes = omega arith in
    let lr = length-remove ls at (omega arith) in
    same_slots (n - 1) (with_slots bytes (at + 1) n at) (remove ls at) (omega arith)
    (λ i k. ⊎_elim
    (λ (b : i < at).
    ap slot_line (kept_slot bytes (at + 1) n at f w r i b)
    ∙ sym (get_or_slots n bytes i (omega arith))
    ∙ sym (get_or-remove_below ls at [] i b (omega arith)))
    (λ (a : at ≤ i).
    let j : ℕ = i - at in
    let e : i ≡ at + j = omega arith in
    let g : (at + 1) + j ≡ i + 1 = omega arith in
    ap slot_line
    (ap (slot_at (with_slots bytes (at + 1) n at)) e ∙ moved_slot bytes (at + 1) n at f w r j (omega arith) ∙ ap (slot_at bytes) g)
    ∙ sym (get_or_slots n bytes (i + 1) (omega arith))
    ∙ sym (get_or-remove_above ls at [] i a (omega arith)))
    (cases_lt i at))
