use Rattle.std.proofs.Common.{ℕ, ◌+◌, ◌<◌, List, vec_items, vec_len, sym, refl, ap, ◌∙◌, arith}
use Rattle.line.proofs.Charges.{charges_inserted}
use Rattle.line.proofs.Edits.{insert_full, insert_allowed, line_from_none, line_short}
use Rattle.slot_store.specs.Slots.{slots_in, slots_of, with_line, with_slots}
use Rattle.slot_store.specs.SlotsLemmas.{length_slots}
use Rattle.slot_store.specs.Stored.{charged, now_inserted, held_inserted}
use Rattle.slot_store.proofs.edit.SlotStoreLineStore.insert.Goals as goal

pub returns-then-self-slots : goal.returns-then-self-slots
returns-then-self-slots c =
    let s = c.args.self.now in
    let line = c.args.line.now in
    let ls = slots_of s.count (vec_items s.memory) in
    let n = length_slots s.count (vec_items s.memory) in
    let all = charged s.count (vec_items s.memory) in
    record {
      first = insert_full (slots_in (vec_len s.memory)) (λ _. 1) ls c.args.at s.count _ line (sym all) c.slots-then-self-slots.ensures (omega arith) c.in_ok-line.ensures.1 (omega (arith, charges_inserted (λ _. 1) ls c.args.at line));
      same = refl;
    }

pub invariant_of-self : goal.invariant_of-self
invariant_of-self c =
    let s = c.args.self.now in
    let line = c.args.line.now in
    let good = line_from_none line c.in_ok-line.ensures.1 in
    let room : s.count < slots_in (vec_len s.memory) = omega arith in
    let e = c.insert_line.ensures ∙ ap (λ (xs : List ℕ). with_line (with_slots xs c.args.at s.count (c.args.at + 1)) c.args.at c.in_ok-line.line.bytes.now) c.as_mut_slice.ensures.value ∙ ap (with_line (with_slots (vec_items s.memory) c.args.at s.count (c.args.at + 1)) c.args.at) c.in_ok-line.ensures.0 in
    record {
      within = omega arith;
      held = held_inserted s.memory s.count s.within s.held c.insert_line.new.memory c.args.at line (omega arith) room good (line_short line good) e;
    }

pub returns : goal.returns
returns c =
    let s = c.args.self.now in
    let line = c.args.line.now in
    let ls = slots_of s.count (vec_items s.memory) in
    let n = length_slots s.count (vec_items s.memory) in
    let all = charged s.count (vec_items s.memory) in
    let none = c.in_ok-line.ensures.1 in
    let good = line_from_none line none in
    let room : s.count < slots_in (vec_len s.memory) = omega arith in
    let e = c.insert_line.ensures ∙ ap (λ (xs : List ℕ). with_line (with_slots xs c.args.at s.count (c.args.at + 1)) c.args.at c.in_ok-line.line.bytes.now) c.as_mut_slice.ensures.value ∙ ap (with_line (with_slots (vec_items s.memory) c.args.at s.count (c.args.at + 1)) c.args.at) c.in_ok-line.ensures.0 in
    record {
      allowed = insert_allowed (slots_in (vec_len s.memory)) (λ _. 1) ls c.args.at line (omega arith) none (omega arith) (omega (arith, charges_inserted (λ _. 1) ls c.args.at line));
      list = now_inserted s.memory s.count s.within s.held c.insert_line.new.memory c.args.at line (omega arith) room good (line_short line good) e;
      room = refl;
      rate = refl;
    }
