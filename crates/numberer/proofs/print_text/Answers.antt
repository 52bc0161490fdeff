use Rattle.std.proofs.Common.{nat_abs, arith}
use Rattle.std.proofs.lemmas.Int.{ints}
use Rattle.numberer.specs.Numbering.{meaning, rows_at}
use Rattle.numberer.proofs.Steps.{printing_rows}
use Rattle.numberer.proofs.print_text.Goals as goal

pub returns : goal.returns
returns c =
    record {
      rows = rows_at (meaning c.args.state) c.args.text.now;
      gives = printing_rows c.args.state.number _ (nat_abs c.args.state.stops.value) c.args.text.now (omega (arith, ints)) (omega (arith, ints));
      counts = c.print_rows-count.ensures.count;
      buffer = c.print_rows-count.ensures.buffer;
    }
