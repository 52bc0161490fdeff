use Rattle.std.proofs.Common.{◌≡◌, ℕ, ◌+◌, ◌-◌, length, sym, ap, ◌∙◌, arith}
use Rattle.gap_store.proofs.Steps.{start_of, back_step}
use Rattle.gap_store.proofs.packed.PackedLines.backward.Goals as goal

pub loop-line-init : goal.loop-line-init
loop-line-init c = (c.requires, ap length (sym c.args.self.now.whole))

pub overflow_sub-start : goal.overflow_sub-start
overflow_sub-start c =
    let i : ℕ = c.loop-line._line - 1 in
    let e : c.loop-line._line ≡ i + 1 = omega arith in
    let s = back_step c.args.self.now.count c.args.self.now.bytes.now c.args.self.now.whole i (omega arith) c.loop-line.start (c.loop-line.invariant.1 ∙ ap (λ (k : ℕ). start_of k c.args.self.now.bytes.now) e) in
    omega arith

pub bounds-self-start : goal.bounds-self-start
bounds-self-start c =
    let i : ℕ = c.loop-line._line - 1 in
    let e : c.loop-line._line ≡ i + 1 = omega arith in
    let s = back_step c.args.self.now.count c.args.self.now.bytes.now c.args.self.now.whole i (omega arith) c.loop-line.start (c.loop-line.invariant.1 ∙ ap (λ (k : ℕ). start_of k c.args.self.now.bytes.now) e) in
    omega arith

pub overflow_sub-start-in-loop-line : goal.overflow_sub-start-in-loop-line
overflow_sub-start-in-loop-line c =
    let i : ℕ = c.loop-line._line - 1 in
    let e : c.loop-line._line ≡ i + 1 = omega arith in
    let s = back_step c.args.self.now.count c.args.self.now.bytes.now c.args.self.now.whole i (omega arith) c.loop-line.start (c.loop-line.invariant.1 ∙ ap (λ (k : ℕ). start_of k c.args.self.now.bytes.now) e) in
    s.1

pub loop-line-preserved : goal.loop-line-preserved
loop-line-preserved c =
    let i : ℕ = c.loop-line._line - 1 in
    let e : c.loop-line._line ≡ i + 1 = omega arith in
    let s = back_step c.args.self.now.count c.args.self.now.bytes.now c.args.self.now.whole i (omega arith) c.loop-line.start (c.loop-line.invariant.1 ∙ ap (λ (k : ℕ). start_of k c.args.self.now.bytes.now) e) in
    (omega arith, s.2)

pub returns : goal.returns
returns c =
    let e : c.loop-line._line ≡ c.args.at = omega (arith, c.loop-line.invariant.0) in
    c.loop-line.invariant.1 ∙ ap (λ (k : ℕ). start_of k c.args.self.now.bytes.now) e
