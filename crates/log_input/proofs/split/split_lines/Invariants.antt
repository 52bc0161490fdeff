use Rattle.std.proofs.Common.{◌≡◌, ◌++◌, map, vec_items}
use Rattle.log_input.specs.Splits.{split}
use Rattle.log_input.proofs.split.split_lines.Given as goal

-- the lines so far, and those of what is left behind them, are the lines of the input
abbrev pub invariant-loop-part : goal.invariant-loop-part
invariant-loop-part l = map (λ x. x.now) (vec_items l.lines) ++ split l.part-iterator.rest.now ≡ split l.input
