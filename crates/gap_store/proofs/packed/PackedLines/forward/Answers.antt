use Rattle.std.proofs.Common.{◌≡◌, ℕ, ap, ◌∙◌, arith}
use Rattle.gap_store.proofs.Steps.{start_of, forward_step}
use Rattle.gap_store.proofs.packed.PackedLines.forward.Goals as goal

pub bounds-self-start : goal.bounds-self-start
bounds-self-start c =
    let s = forward_step c.args.self.now.count c.args.self.now.bytes.now c.args.self.now.whole c.loop-line._line (omega (arith, c.requires)) c.loop-line.start c.loop-line.invariant in
    omega arith

pub overflow_add-start-in-loop-line : goal.overflow_add-start-in-loop-line
overflow_add-start-in-loop-line c =
    let s = forward_step c.args.self.now.count c.args.self.now.bytes.now c.args.self.now.whole c.loop-line._line (omega (arith, c.requires)) c.loop-line.start c.loop-line.invariant in
    omega arith

pub loop-line-preserved : goal.loop-line-preserved
loop-line-preserved c =
    let s = forward_step c.args.self.now.count c.args.self.now.bytes.now c.args.self.now.whole c.loop-line._line (omega (arith, c.requires)) c.loop-line.start c.loop-line.invariant in
    s.1

pub returns : goal.returns
returns c =
    let e : c.loop-line._line ≡ c.args.at = omega arith in
    c.loop-line.invariant ∙ ap (λ (k : ℕ). start_of k c.args.self.now.bytes.now) e
