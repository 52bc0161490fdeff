use Rattle.std.proofs.Common.{ℕ, ◌+◌, List, vec_items, vec_len, sym, refl, ap, ◌∙◌, arith}
use Rattle.std.proofs.lemmas.Result.{err_from_is_err_and}
use Rattle.line.proofs.Edits.{remove_nowhere, remove_allowed}
use Rattle.slot_store.specs.Slots.{slots_in, slots_of, with_slots}
use Rattle.slot_store.specs.SlotsLemmas.{length_slots}
use Rattle.slot_store.specs.Stored.{charged, now_removed, held_removed}
use Rattle.slot_store.proofs.edit.SlotStoreLineStore.remove.Goals as goal

pub returns-in_err-check_place : goal.returns-in_err-check_place
returns-in_err-check_place c =
    let s = c.args.self.now in
    let n = length_slots s.count (vec_items s.memory) in
    let p = err_from_is_err_and c.from_residual.result c.from_residual.ensures.1 in
    let h = c.in_err-check_place.ensures in
    rw (p.1, p.2, h.1)
    record {
      first = remove_nowhere (slots_in (vec_len s.memory)) (λ _. 1) (slots_of s.count (vec_items s.memory)) c.args.at s.count (sym n) h.0;
      same = refl;
    }

pub invariant_of-self : goal.invariant_of-self
invariant_of-self c =
    let s = c.args.self.now in
    let w = s.within in
    let e = c.move_slots.ensures ∙ ap (λ (xs : List ℕ). with_slots xs (c.args.at + 1) s.count c.args.at) c.as_mut_slice.ensures.value in
    record {
      within = omega arith;
      held = held_removed s.memory s.count s.within s.held c.move_slots.new.memory c.args.at (omega arith) e;
    }

pub returns : goal.returns
returns c =
    let s = c.args.self.now in
    let n = length_slots s.count (vec_items s.memory) in
    let all = charged s.count (vec_items s.memory) in
    let w = s.within in
    let e = c.move_slots.ensures ∙ ap (λ (xs : List ℕ). with_slots xs (c.args.at + 1) s.count c.args.at) c.as_mut_slice.ensures.value in
    record {
      allowed = remove_allowed (slots_in (vec_len s.memory)) (λ _. 1) (slots_of s.count (vec_items s.memory)) c.args.at (omega arith) (omega arith) (omega arith);
      list = now_removed s.memory s.count s.within s.held c.move_slots.new.memory c.args.at (omega arith) e;
      room = refl;
      rate = refl;
    }
