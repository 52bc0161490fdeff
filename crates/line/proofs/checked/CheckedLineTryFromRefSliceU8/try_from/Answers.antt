use Rattle.line.proofs.Edits.{line_from_none}
use Rattle.line.proofs.checked.CheckedLineTryFromRefSliceU8.try_from.Goals as goal

pub invariant_of-result : goal.invariant_of-result
invariant_of-result c = record { good = line_from_none c.args.bytes.now c.in_ok-check_line.ensures }
