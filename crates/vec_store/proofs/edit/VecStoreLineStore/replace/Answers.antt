use Rattle.std.proofs.Common.{ℕ, List, vec_items, refl, ◌∙◌, arith}
use Rattle.line.proofs.Charges.{charges_set}
use Rattle.line.proofs.Edits.{replace_allowed}
use Rattle.vec_store.specs.Records.{record_lines}
use Rattle.vec_store.specs.RecordsLemmas.{length_lines, charged, lines_replaced}
use Rattle.vec_store.proofs.edit.VecStoreLineStore.replace.Goals as goal

pub returns : goal.returns
returns c =
    let s = c.args.self.now in
    let line : List ℕ = c.args.line.now in
    let rs = vec_items s.records in
    let l = s.records.ok.0 in
    let n = length_lines rs in
    let all = charged rs in
    let f = s.few in
    let w = s.within in
    let h = c.in_ok-check_place.ensures in
    let more = charges_set (λ _. 1) (record_lines rs) c.args.at line (omega arith) in
    record {
      allowed = replace_allowed s.room (λ _. 1) (record_lines rs) c.args.at line (omega arith) c.in_ok-try_from.ensures.1 (omega arith) (omega arith);
      list = lines_replaced rs c.args.at c.from.result line (c.from.ensures ∙ c.in_ok-try_from.ensures.0);
      room = refl;
      rate = refl;
    }
