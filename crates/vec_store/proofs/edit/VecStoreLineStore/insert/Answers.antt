use Rattle.std.proofs.Common.{◌≡◌, ℕ, true, cond, List, is_ok, vec_items, refl, ap, ◌∙◌, arith}
use Rattle.std.specs.List.{insert}
use Rattle.line.proofs.Charges.{charges_inserted}
use Rattle.line.proofs.Edits.{insert_full, insert_allowed}
use Rattle.vec_store.specs.Records.{record_lines}
use Rattle.vec_store.specs.RecordsLemmas.{length_lines, charged, lines_inserted}
use Rattle.vec_store.proofs.edit.VecStoreLineStore.insert.Goals as goal

pub returns-then-count-self : goal.returns-then-count-self
returns-then-count-self c =
    let s = c.args.self.now in
    let rs = vec_items s.records in
    let l = s.records.ok.0 in
    let n = length_lines rs in
    let all = charged rs in
    let more = charges_inserted (λ _. 1) (record_lines rs) c.args.at c.args.line.now in
    record {
      first = insert_full s.room (λ _. 1) (record_lines rs) c.args.at _ _ c.args.line.now (omega arith) refl (omega arith) c.in_ok-line.ensures.1 (omega arith);
      same = refl;
    }

pub returns : goal.returns
returns c =
    let s = c.args.self.now in
    let line : List ℕ = c.args.line.now in
    let rs = vec_items s.records in
    let l = s.records.ok.0 in
    let n = length_lines rs in
    let all = charged rs in
    let f = s.few in
    let more = charges_inserted (λ _. 1) (record_lines rs) c.args.at line in
    let made : is_ok c.insert.result ≡ true = ap is_ok c.unwrap.ensures in
    record {
      allowed = insert_allowed s.room (λ _. 1) (record_lines rs) c.args.at line (omega arith) c.in_ok-line.ensures.1 (omega arith) (omega arith);
      list =
          ap record_lines (c.insert.ensures.items ∙ ap (λ b. cond b (insert rs c.args.at c.from.result) rs) made)
          ∙ lines_inserted rs c.args.at c.from.result line (c.from.ensures ∙ c.in_ok-line.ensures.0);
      room = refl;
      rate = refl;
    }
