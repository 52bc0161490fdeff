use Rattle.std.proofs.Common.{◌∙◌}
use Rattle.line.proofs.Columns.{checked}
use Rattle.line.proofs.check.is_line.Goals as goal

pub returns : goal.returns
returns c = c.is_ok.ensures.value ∙ checked _ c.args.bytes.now c.check_line.ensures
