use Rattle.std.proofs.Common.{ℕ, List, vec_items, vec_len, sym, refl, ap, ◌∙◌, arith}
use Rattle.std.proofs.lemmas.Result.{err_from_is_err_and}
use Rattle.line.proofs.Charges.{charges_set}
use Rattle.line.proofs.Edits.{replace_nowhere, replace_allowed, line_from_none, line_short}
use Rattle.slot_store.specs.Slots.{slots_in, slots_of, with_line}
use Rattle.slot_store.specs.SlotsLemmas.{length_slots}
use Rattle.slot_store.specs.Stored.{charged, now_replaced, held_replaced}
use Rattle.slot_store.proofs.edit.SlotStoreLineStore.replace.Goals as goal

pub returns-in_err-check_place : goal.returns-in_err-check_place
returns-in_err-check_place c =
    let s = c.args.self.now in
    let n = length_slots s.count (vec_items s.memory) in
    let p = err_from_is_err_and c.from_residual.result c.from_residual.ensures.1 in
    let h = c.in_err-check_place.ensures in
    rw (p.1, p.2, h.1)
    record {
      first = replace_nowhere (slots_in (vec_len s.memory)) (λ _. 1) (slots_of s.count (vec_items s.memory)) c.args.at s.count c.args.line.now (sym n) h.0;
      same = refl;
    }

pub invariant_of-self : goal.invariant_of-self
invariant_of-self c =
    let s = c.args.self.now in
    let line = c.args.line.now in
    let good = line_from_none line c.in_ok-line.ensures.1 in
    let e = c.write_line.ensures ∙ ap (λ (xs : List ℕ). with_line xs c.args.at c.in_ok-line.line.bytes.now) c.as_mut_slice.ensures.value ∙ ap (with_line (vec_items s.memory) c.args.at) c.in_ok-line.ensures.0 in
    record {
      within = s.within;
      held = held_replaced s.memory s.count s.within s.held c.write_line.new.memory c.args.at line (omega arith) good (line_short line good) e;
    }

pub returns : goal.returns
returns c =
    let s = c.args.self.now in
    let line = c.args.line.now in
    let ls = slots_of s.count (vec_items s.memory) in
    let n = length_slots s.count (vec_items s.memory) in
    let all = charged s.count (vec_items s.memory) in
    let w = s.within in
    let none = c.in_ok-line.ensures.1 in
    let good = line_from_none line none in
    let e = c.write_line.ensures ∙ ap (λ (xs : List ℕ). with_line xs c.args.at c.in_ok-line.line.bytes.now) c.as_mut_slice.ensures.value ∙ ap (with_line (vec_items s.memory) c.args.at) c.in_ok-line.ensures.0 in
    record {
      allowed = replace_allowed (slots_in (vec_len s.memory)) (λ _. 1) ls c.args.at line (omega arith) none (omega arith) (omega (arith, charges_set (λ _. 1) ls c.args.at line (omega arith)));
      list = now_replaced s.memory s.count s.within s.held c.write_line.new.memory c.args.at line (omega arith) good (line_short line good) e;
      room = refl;
      rate = refl;
    }
