use Rattle.std.proofs.Common.{ℕ, ◌-◌, List, [], get_or, take, drop, vec_items, sym, ap, ◌∙◌, arith}
use Rattle.std.proofs.lemmas.List.{get_or_append_left, get_or-append_right}
use Rattle.line.specs.Lines.{Line}
use Rattle.gap_store.specs.Records.{unpacked}
use Rattle.gap_store.specs.RecordsLemmas.{length_unpacked}
use Rattle.gap_store.proofs.store.GapStore.line_at.Goals as goal

pub returns-then-at-self : goal.returns-then-at-self
returns-then-at-self c =
    let g = c.args.self.now.gap in
    let bytes : List ℕ = vec_items c.args.self.now.memory in
    let xs : List Line = unpacked g.before (take g.front bytes) in
    let ys : List Line = unpacked g.behind (drop g.back bytes) in
    c.line.ensures
    ∙ ap (λ (n : ℕ). get_or (unpacked n c.fore.result.bytes.now) c.args.at []) c.fore.ensures.count
    ∙ ap (λ (r : List ℕ). get_or (unpacked g.before r) c.args.at []) c.fore.ensures.bytes
    ∙ sym (get_or_append_left xs ys [] c.args.at (omega (arith, length_unpacked g.before (take g.front bytes))))

pub returns-else-at-self : goal.returns-else-at-self
returns-else-at-self c =
    let g = c.args.self.now.gap in
    let bytes : List ℕ = vec_items c.args.self.now.memory in
    let xs : List Line = unpacked g.before (take g.front bytes) in
    let ys : List Line = unpacked g.behind (drop g.back bytes) in
    c.line-else-at-self.ensures
    ∙ ap (λ (n : ℕ). get_or (unpacked n c.aft.result.bytes.now) (c.args.at - g.before) []) c.aft.ensures.count
    ∙ ap (λ (r : List ℕ). get_or (unpacked g.behind r) (c.args.at - g.before) []) c.aft.ensures.bytes
    ∙ sym (get_or-append_right xs ys g.before c.args.at [] (length_unpacked g.before (take g.front bytes)) (omega arith))
