use Rattle.std.proofs.Common.{ℕ, ◌<◌, List, length, vec_items, ap, ◌∙◌, arith}
use Rattle.std.specs.List.{remove}
use Rattle.std.proofs.lemmas.Grind.{get_or_default_zero}
use Rattle.line.specs.Lines.{Line}
use Rattle.line.proofs.Edits.{lines_removed}
use Rattle.gap_store.specs.Gaps.{gap_lines}
use Rattle.gap_store.specs.GapsLemmas.{length_lines, read_back}
use Rattle.gap_store.specs.Stored.{held_all, now_sound, now_held}
use Rattle.gap_store.proofs.Moved.{back_low, length_there, holds_removed}
use Rattle.gap_store.proofs.store.GapStore.remove_line.Goals as goal

pub index-requires : goal.index-requires
index-requires c =
    let s = c.args.self.now in
    let m = c.move_gap.new.self in
    let bytes : List ℕ = vec_items m.memory in
    let ls : List Line = gap_lines m.gap bytes in
    let place : c.args.at < length ls = omega (arith, c.requires, length_lines s.gap (vec_items s.memory), ap length c.move_gap.ensures.lines) in
    omega (arith, back_low ls m.gap bytes m.sound c.args.at c.move_gap.ensures.there place, m.memory.ok.0)

pub invariant_of-self : goal.invariant_of-self
invariant_of-self c =
    let s = c.args.self.now in
    let m = c.move_gap.new.self in
    let bytes : List ℕ = vec_items m.memory in
    let ls : List Line = gap_lines m.gap bytes in
    let place : c.args.at < length ls = omega (arith, c.requires, length_lines s.gap (vec_items s.memory), ap length c.move_gap.ensures.lines) in
    let in_memory = back_low ls m.gap bytes m.sound c.args.at c.move_gap.ensures.there place in
    let size = c.index.ensures ∙ get_or_default_zero bytes m.gap.back c.index.result.now in_memory ∙ length_there ls m.gap bytes m.sound c.args.at c.move_gap.ensures.there place in
    let h = holds_removed ls m.gap bytes m.sound c.args.at c.move_gap.ensures.there place c.index.result.now size in
    let f = m.few in
    record {
      small = m.small;
      few = omega arith;
      sound = now_sound _ _ _ h;
      held = now_held _ _ _ h (lines_removed ls c.args.at (held_all m.gap bytes m.held));
    }

pub returns-clause-lines : goal.returns-clause-lines
returns-clause-lines c =
    let s = c.args.self.now in
    let m = c.move_gap.new.self in
    let bytes : List ℕ = vec_items m.memory in
    let ls : List Line = gap_lines m.gap bytes in
    let place : c.args.at < length ls = omega (arith, c.requires, length_lines s.gap (vec_items s.memory), ap length c.move_gap.ensures.lines) in
    let in_memory = back_low ls m.gap bytes m.sound c.args.at c.move_gap.ensures.there place in
    let size = c.index.ensures ∙ get_or_default_zero bytes m.gap.back c.index.result.now in_memory ∙ length_there ls m.gap bytes m.sound c.args.at c.move_gap.ensures.there place in
    let h = holds_removed ls m.gap bytes m.sound c.args.at c.move_gap.ensures.there place c.index.result.now size in
    read_back _ _ _ h ∙ ap (λ (xs : List Line). remove xs c.args.at) c.move_gap.ensures.lines
