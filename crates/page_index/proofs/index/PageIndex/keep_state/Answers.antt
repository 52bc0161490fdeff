use Rattle.std.proofs.Common.{refl, arith}
use Rattle.page_table.specs.declared.state.Phase.TheVariants.{Resumed}
use Rattle.page_table.specs.Indexes.{index_of}
use Rattle.page_table.proofs.Changing.{sound_kept}
use Rattle.page_index.proofs.Sounds.{with_phase, in_state, stored_in}
use Rattle.page_index.proofs.index.PageIndex.keep_state.Goals as goal

pub invariant_of-self : goal.invariant_of-self
invariant_of-self c =
    let x = c.args.self.now in
    let way = c.in-Resumed.way in
    record {
      stored = stored_in x (Resumed way) c.in-Resumed.is;
      sound = sound_kept (index_of (with_phase x.table (Resumed way))) way (in_state x (Resumed way) c.in-Resumed.is) refl c.args.place (omega arith);
    }
