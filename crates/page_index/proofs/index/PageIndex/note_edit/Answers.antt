use Rattle.std.proofs.Common.{[], sym, refl, subst, arith}
use Rattle.page_table.specs.declared.state.Numbers.{Numbers}
use Rattle.page_table.specs.declared.state.Phase.TheVariants.{Edited}
use Rattle.page_table.specs.Indexes.{index_of}
use Rattle.page_table.specs.Sound.{Sound}
use Rattle.page_table.specs.Changes.{TakesEdit}
use Rattle.page_table.proofs.Editing.{sound_edited}
use Rattle.page_index.specs.Promise.{edit_of}
use Rattle.page_index.proofs.Sounds.{with_numbers}
use Rattle.page_index.proofs.index.PageIndex.note_edit.Goals as goal

pub invariant_of-self : goal.invariant_of-self
invariant_of-self c =
    let x = c.args.self.now in
    let i = index_of x.table in
    let made = c.in-Some.ensures [] in
    let takes : TakesEdit i (edit_of c.args.edit []) =
    record { state = c.if-not-takes_edits.ensures.0 refl; there = made.1; room = made.2 }
    in
    record {
      stored = (x.stored.0, omega arith);
      sound = subst (λ (n : Numbers). Sound (index_of (with_numbers x.table n Edited))) (sym made.0) (sound_edited i (edit_of c.args.edit []) x.sound takes);
    }
