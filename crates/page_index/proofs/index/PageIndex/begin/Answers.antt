use Rattle.std.proofs.Common.{◌≡◌, List, [], take, sym, refl, ap, subst, arith}
use Rattle.page_table.specs.declared.entry.PageEntry.{PageEntry}
use Rattle.page_table.specs.declared.state.Phase.TheVariants.{Resumed}
use Rattle.page_table.specs.declared.state.Way.{Way}
use Rattle.page_table.specs.Indexes.{Index, index_of}
use Rattle.page_table.specs.Sound.{Sound}
use Rattle.page_table.specs.Changes.{Begins, Begins.at_start, Begins.at_page, in_phase}
use Rattle.page_table.proofs.Changing.{sound_begun}
use Rattle.page_index.proofs.index.PageIndex.begin.Goals as goal

none_made : {i : Index} {way : Way} → Begins i way → way.made ≡ 0
none_made (at_start h) = refl
none_made (at_page some holds) = refl

none_taken : {i : Index} {way : Way} (made : List PageEntry) → Begins i way → take way.made made ≡ []
none_taken made begins = ap (λ n. take n made) (none_made begins)

pub invariant_of-self : goal.invariant_of-self
invariant_of-self c =
    let x = c.args.self.now in
    let way = c.restart_way-way.result in
    let none = none_made c.restart_way-way.ensures in
    record {
      stored = (x.stored.0, omega arith);
      sound = subst (λ (ms : List PageEntry). Sound (in_phase (index_of x.table) (Resumed way) ms)) (sym (none_taken x.table.made c.restart_way-way.ensures))
          (sound_begun (index_of x.table) way x.sound c.in-Edited.is c.restart_way-way.ensures);
    }

pub returns : goal.returns
returns c =
    let x = c.args.self.now in
    let way = c.restart_way-way.result in
    (c.in-Edited.is, c.restart_way-way.ensures, ap (λ (ms : List PageEntry). in_phase (index_of x.table) (Resumed way) ms) (none_taken x.table.made c.restart_way-way.ensures))
