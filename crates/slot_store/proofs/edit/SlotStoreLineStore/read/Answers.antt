use Rattle.std.proofs.Common.{◌≡◌, ℕ, ◌-◌, List, [], ◌++◌, length, get_or, drop, vec_items, sym, ap, ◌∙◌, arith}
use Rattle.slot_store.specs.Slots.{slot_at, slot_line, slots_of}
use Rattle.slot_store.specs.SlotsLemmas.{length_slots, get_or_slots}
use Rattle.slot_store.proofs.edit.SlotStoreLineStore.read.Goals as goal

pub returns : goal.returns
returns c =
    let s = c.args.self.now in
    let bytes : List ℕ = c.line_in-bytes.result.now in
    let n = length_slots s.count (vec_items s.memory) in
    let none : length bytes - 0 ≡ length bytes = omega arith in
    let is : bytes ≡ get_or (slots_of s.count (vec_items s.memory)) c.args.at [] =
    c.line_in-bytes.ensures
    ∙ ap (λ (xs : List ℕ). slot_line (slot_at xs c.args.at)) c.as_slice.ensures.value
    ∙ sym (get_or_slots s.count (vec_items s.memory) c.args.at c.in_ok-check_place.ensures)
    in (
      omega arith,
      ap length is,
      ap (λ (k : ℕ). c.copy_from_slice.new.self ++ drop k c.args.line.now) none
          ∙ ap (λ (xs : List ℕ). xs ++ drop (length bytes) c.args.line.now) (c.copy_from_slice.ensures.after ∙ is),
    )
