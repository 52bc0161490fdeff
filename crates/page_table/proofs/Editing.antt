-- An edit leaves an index.
use borrow.Author.Tests.{ltb-true, leb-true}
use Rattle.page_rule.proofs.Marking.{passed}
use Rattle.std.proofs.Common.{◌≡◌, ℕ, ◌+◌, ◌-◌, ◌<◌, ◌≤◌, ltb, leb, ◌⊎◌, None, refl, inl, inr, arith}
use Rattle.line.specs.Stores.{Edit, Edit.replace, Edit.insert, Edit.remove, place_fault}
use Rattle.page_rule.specs.Marks.{marks_after}
use Rattle.page_table.specs.Indexes.{Index}
use Rattle.page_table.specs.Sound.{Sound}
use Rattle.page_table.specs.Changes.{TakesEdit, items_after, numbers_after, after_edit}
use Rattle.page_table.proofs.Changing.{sound_idle}

-- what the marks of an index count after an edit, if both together counted no more than there were, or each all of them
module _ (head tail then now : ℕ) (some : 0 < now) (head_now : head ≤ now) (tail_now : tail ≤ now) (marks : (head + tail ≤ then) ⊎ ((then ≡ now) × (head ≡ now) × (tail ≡ now))) where
  abbrev After : Edit → Type 0
  After edit =
      (0 < items_after now edit) × ((marks_after (now - 1) (record { head = head; tail = tail }) edit).head ≤ items_after now edit)
      × ((marks_after (now - 1) (record { head = head; tail = tail }) edit).tail ≤ items_after now edit)
      × ((marks_after (now - 1) (record { head = head; tail = tail }) edit).head + (marks_after (now - 1) (record { head = head; tail = tail }) edit).tail ≤ then)

  pub marks_edited : (edit : Edit) → place_fault (now - 1) edit ≡ None → After edit
  marks_edited (replace at line) there =
      let b = ltb-true at (now - 1) (passed (ltb at (now - 1)) _ there) in
      elim marks [ inl h ↦ (omega arith, omega arith, omega arith, omega arith) | inr h ↦ (omega arith, omega arith, omega arith, omega (arith, h.0, h.1, h.2)) ]
  marks_edited (insert at line) there =
      let b = leb-true at (now - 1) (passed (leb at (now - 1)) _ there) in
      elim marks [ inl h ↦ (omega arith, omega arith, omega arith, omega arith) | inr h ↦ (omega arith, omega arith, omega arith, omega (arith, h.0, h.1, h.2)) ]
  marks_edited (remove at) there =
      let b = ltb-true at (now - 1) (passed (ltb at (now - 1)) _ there) in
      elim marks [ inl h ↦ (omega arith, omega arith, omega arith, omega arith) | inr h ↦ (omega arith, omega arith, omega arith, omega (arith, h.0, h.1, h.2)) ]

pub sound_edited : (i : Index) (edit : Edit) → Sound i → TakesEdit i edit → Sound (after_edit i edit)
sound_edited i edit sound takes =
    let marks : (i.numbers.marks.head + i.numbers.marks.tail ≤ i.numbers.items_then) ⊎ ((i.numbers.items_then ≡ i.numbers.items_now) × (i.numbers.marks.head ≡ i.numbers.items_now) × (i.numbers.marks.tail ≡ i.numbers.items_now)) =
    elim takes.state [ inl e ↦ inl (sound.touched (λ s. cc)) | inr e ↦ inr (sound.untouched e) ]
    in
    let a = marks_edited i.numbers.marks.head i.numbers.marks.tail i.numbers.items_then i.numbers.items_now sound.counted.0 sound.bounded.0 sound.bounded.1 marks edit takes.there in
    sound_idle i (numbers_after i.numbers edit) sound refl a.0 takes.room a.1 a.2 a.3
