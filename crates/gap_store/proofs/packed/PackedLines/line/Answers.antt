use Rattle.std.proofs.Common.{◌≡◌, ℕ, ◌+◌, ◌-◌, List, get_or, take, drop, ap, ◌∙◌, arith}
use Rattle.gap_store.proofs.Steps.{line_found}
use Rattle.gap_store.proofs.packed.PackedLines.line.Goals as goal

pub overflow_add-start : goal.overflow_add-start
overflow_add-start c =
    let s = line_found c.args.self.now.count c.args.self.now.bytes.now c.args.self.now.whole c.args.at c.requires c.start-start.result c.start-start.ensures in
    omega arith

pub bounds-self-start : goal.bounds-self-start
bounds-self-start c =
    let s = line_found c.args.self.now.count c.args.self.now.bytes.now c.args.self.now.whole c.args.at c.requires c.start-start.result c.start-start.ensures in
    omega arith

pub overflow_add-result : goal.overflow_add-result
overflow_add-result c =
    let s = line_found c.args.self.now.count c.args.self.now.bytes.now c.args.self.now.whole c.args.at c.requires c.start-start.result c.start-start.ensures in
    omega arith

pub slice_bounds-result-end : goal.slice_bounds-result-end
slice_bounds-result-end c =
    let s = line_found c.args.self.now.count c.args.self.now.bytes.now c.args.self.now.whole c.args.at c.requires c.start-start.result c.start-start.ensures in
    omega arith

pub returns : goal.returns
returns c =
    let part : List ℕ = c.args.self.now.bytes.now in
    let start : ℕ = c.start-start.result in
    let n : ℕ = get_or part ((start + 1) - 1) 0 in
    let size : ((start + 1) + n) - (start + 1) ≡ n = omega arith in
    let s = line_found c.args.self.now.count part c.args.self.now.whole c.args.at c.requires start c.start-start.ensures in
    ap (λ (k : ℕ). take k (drop (start + 1) part)) size ∙ s.1
