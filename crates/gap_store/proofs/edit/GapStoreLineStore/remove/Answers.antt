use Rattle.std.proofs.Common.{◌<◌, List, length, vec_items, vec_len, refl, arith}
use Rattle.line.specs.Lines.{Line}
use Rattle.line.proofs.Edits.{remove_allowed}
use Rattle.gap_store.specs.Records.{taken}
use Rattle.gap_store.specs.Gaps.{gap_lines}
use Rattle.gap_store.specs.GapsLemmas.{length_lines}
use Rattle.gap_store.specs.Stored.{sound_charged}
use Rattle.gap_store.proofs.edit.GapStoreLineStore.remove.Goals as goal

pub returns : goal.returns
returns c =
    let s = c.args.self.now in
    let ls : List Line = gap_lines s.gap (vec_items s.memory) in
    let n = length_lines s.gap (vec_items s.memory) in
    let f = s.few in
    let all = sound_charged s.memory s.gap s.sound in
    let place : c.args.at < length ls = omega (arith, c.in_ok-check_place.ensures) in
    record {
      allowed = remove_allowed (vec_len s.memory) taken ls c.args.at place (omega arith) (omega arith);
      list = c.remove_line.ensures.lines;
      room = c.remove_line.ensures.memory;
      rate = refl;
    }
