use Rattle.std.proofs.Common.{ℕ, ◌<◌, List, length, vec_items, vec_len, refl, ap, ◌∙◌, arith}
use Rattle.std.specs.List.{insert, remove}
use Rattle.line.specs.Lines.{Line}
use Rattle.line.specs.Stores.{charges}
use Rattle.line.proofs.Charges.{charges_set, charges_removed}
use Rattle.line.proofs.Edits.{replace_full, replace_allowed}
use Rattle.gap_store.specs.Records.{taken}
use Rattle.gap_store.specs.Gaps.{gap_lines}
use Rattle.gap_store.specs.GapsLemmas.{length_lines}
use Rattle.gap_store.specs.Stored.{sound_charged}
use Rattle.gap_store.proofs.Moved.{put_back}
use Rattle.gap_store.proofs.edit.GapStoreLineStore.replace.Goals as goal

pub returns-then-bytes-old : goal.returns-then-bytes-old
returns-then-bytes-old c =
    let s = c.args.self.now in
    let line : List ℕ = c.args.line.now in
    let ls : List Line = gap_lines s.gap (vec_items s.memory) in
    let n = length_lines s.gap (vec_items s.memory) in
    let place : c.args.at < length ls = omega (arith, c.in_ok-check_place.ensures) in
    let old = ap length c.line_at-old.ensures in
    let size = ap length c.bytes.ensures in
    let same = ap length c.in_ok-line.ensures.0 in
    let all = sound_charged s.memory s.gap s.sound in
    let more = charges_set taken ls c.args.at line place in
    record {
      first = replace_full (vec_len s.memory) taken ls c.args.at _ _ line (omega arith) c.len.ensures place c.in_ok-line.ensures.1 (omega arith);
      same = refl;
    }

pub insert_line-requires-clause-room : goal.insert_line-requires-clause-room
insert_line-requires-clause-room c =
    let s = c.args.self.now in
    let line : List ℕ = c.args.line.now in
    let ls : List Line = gap_lines s.gap (vec_items s.memory) in
    let n = length_lines s.gap (vec_items s.memory) in
    let place : c.args.at < length ls = omega (arith, c.in_ok-check_place.ensures) in
    let old = ap length c.line_at-old.ensures in
    let size = ap length c.bytes.ensures in
    let same = ap length c.in_ok-line.ensures.0 in
    let all = sound_charged s.memory s.gap s.sound in
    let more = charges_set taken ls c.args.at line place in
    let m = c.remove_line.new.self in
    let now = sound_charged m.memory m.gap m.sound in
    let lines = ap (charges taken) c.remove_line.ensures.lines in
    let less = charges_removed taken ls c.args.at place in
    let a = m.sound.apart in
    omega (arith, c.remove_line.ensures.memory)

pub returns : goal.returns
returns c =
    let s = c.args.self.now in
    let line : List ℕ = c.args.line.now in
    let ls : List Line = gap_lines s.gap (vec_items s.memory) in
    let n = length_lines s.gap (vec_items s.memory) in
    let place : c.args.at < length ls = omega (arith, c.in_ok-check_place.ensures) in
    let old = ap length c.line_at-old.ensures in
    let size = ap length c.bytes.ensures in
    let same = ap length c.in_ok-line.ensures.0 in
    let all = sound_charged s.memory s.gap s.sound in
    let more = charges_set taken ls c.args.at line place in
    let f = s.few in
    record {
      allowed = replace_allowed (vec_len s.memory) taken ls c.args.at line place c.in_ok-line.ensures.1 (omega arith) (omega arith);
      list =
          c.insert_line.ensures.lines
          ∙ ap (λ (xs : List Line). insert xs c.args.at c.in_ok-line.line.bytes.now) c.remove_line.ensures.lines
          ∙ ap (insert (remove ls c.args.at) c.args.at) c.in_ok-line.ensures.0
          ∙ put_back ls c.args.at line place;
      room = c.insert_line.ensures.memory ∙ c.remove_line.ensures.memory;
      rate = refl;
    }
