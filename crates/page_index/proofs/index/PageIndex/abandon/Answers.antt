use Rattle.std.proofs.Common.{arith}
use Rattle.page_table.specs.declared.state.Phase.TheVariants.{Resumed}
use Rattle.page_table.specs.Indexes.{index_of}
use Rattle.page_table.proofs.Changing.{sound_stays}
use Rattle.page_index.proofs.Sounds.{with_phase, in_state}
use Rattle.page_index.proofs.index.PageIndex.abandon.Goals as goal

pub invariant_of-self : goal.invariant_of-self
invariant_of-self c =
    let x = c.args.self.now in
    let t = with_phase x.table (Resumed c.in-Resumed._way) in
    record {
      stored = (x.stored.0, omega arith);
      sound = sound_stays (index_of t) (in_state x (Resumed c.in-Resumed._way) c.in-Resumed.is) (λ e. cc);
    }
