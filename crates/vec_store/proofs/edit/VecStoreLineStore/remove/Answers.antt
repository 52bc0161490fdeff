use Rattle.std.proofs.Common.{vec_items, refl, ap, ◌∙◌, arith}
use Rattle.line.proofs.Edits.{remove_allowed}
use Rattle.vec_store.specs.Records.{record_lines}
use Rattle.vec_store.specs.RecordsLemmas.{length_lines, charged, lines_removed}
use Rattle.vec_store.proofs.edit.VecStoreLineStore.remove.Goals as goal

pub returns : goal.returns
returns c =
    let s = c.args.self.now in
    let rs = vec_items s.records in
    let l = s.records.ok.0 in
    let n = length_lines rs in
    let all = charged rs in
    let f = s.few in
    let w = s.within in
    let h = c.in_ok-check_place.ensures in
    record {
      allowed = remove_allowed s.room (λ _. 1) (record_lines rs) c.args.at (omega arith) (omega arith) (omega arith);
      list = ap record_lines c.remove.ensures.items ∙ lines_removed rs c.args.at;
      room = refl;
      rate = refl;
    }
