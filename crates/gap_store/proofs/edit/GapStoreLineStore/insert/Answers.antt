use Rattle.std.proofs.Common.{ℕ, ◌≤◌, List, length, vec_items, vec_len, refl, ap, ◌∙◌, arith}
use Rattle.std.specs.List.{insert}
use Rattle.line.specs.Lines.{Line}
use Rattle.line.proofs.Charges.{charges_inserted}
use Rattle.line.proofs.Edits.{insert_full, insert_many, insert_allowed}
use Rattle.gap_store.specs.Records.{taken}
use Rattle.gap_store.specs.Gaps.{gap_lines}
use Rattle.gap_store.specs.GapsLemmas.{length_lines}
use Rattle.gap_store.specs.Stored.{sound_charged}
use Rattle.gap_store.proofs.edit.GapStoreLineStore.insert.Goals as goal
use Rattle.gap_store.proofs.edit.GapStoreLineStore.insert.Goals.{then-lines-ge-STORE_LIMIT-via-then-lines-ge-STORE_LIMIT, then-lines-ge-STORE_LIMIT-via-else-lines-ge-STORE_LIMIT+then-bytes-room}

pub returns-then-lines-ge-STORE_LIMIT : goal.returns-then-lines-ge-STORE_LIMIT
returns-then-lines-ge-STORE_LIMIT c =
    let s = c.args.self.now in
    let line : List ℕ = c.args.line.now in
    let ls : List Line = gap_lines s.gap (vec_items s.memory) in
    let n = length_lines s.gap (vec_items s.memory) in
    let all = sound_charged s.memory s.gap s.sound in
    let more = charges_inserted taken ls c.args.at line in
    let none = c.in_ok-line.ensures.1 in
    let size = ap length c.in_ok-line.ensures.0 in
    let place : c.args.at ≤ length ls = omega (arith, c.in_ok-check_place.ensures) in
    record {
      first =
          elim c.then-lines-ge-STORE_LIMIT.branch [
            | then-lines-ge-STORE_LIMIT-via-then-lines-ge-STORE_LIMIT w ↦
                insert_many (vec_len s.memory) taken ls c.args.at _ _ line (omega arith) c.len.ensures place none (omega arith)
            | then-lines-ge-STORE_LIMIT-via-else-lines-ge-STORE_LIMIT+then-bytes-room w ↦
                insert_full (vec_len s.memory) taken ls c.args.at _ _ line (omega arith) c.len.ensures place none (omega (arith, ap length w.bytes.ensures))
          ];
      same = refl;
    }

pub returns : goal.returns
returns c =
    let s = c.args.self.now in
    let line : List ℕ = c.args.line.now in
    let ls : List Line = gap_lines s.gap (vec_items s.memory) in
    let n = length_lines s.gap (vec_items s.memory) in
    let all = sound_charged s.memory s.gap s.sound in
    let more = charges_inserted taken ls c.args.at line in
    let a = s.sound.apart in
    let size = ap length c.in_ok-line.ensures.0 in
    let place : c.args.at ≤ length ls = omega (arith, c.in_ok-check_place.ensures) in
    record {
      allowed = insert_allowed (vec_len s.memory) taken ls c.args.at line place c.in_ok-line.ensures.1 (omega arith) (omega (arith, ap length c.bytes.ensures));
      list = c.insert_line.ensures.lines ∙ ap (insert ls c.args.at) c.in_ok-line.ensures.0;
      room = c.insert_line.ensures.memory;
      rate = refl;
    }
