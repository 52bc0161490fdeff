use Rattle.std.proofs.Common.{◌<◌, length, arith}
use Rattle.std.proofs.lemmas.List.{length-set}
use Rattle.page_index.proofs.Sounds.{sound_more}
use Rattle.page_index.proofs.index.PageIndex.add_page.Goals as goal

pub invariant_of-self : goal.invariant_of-self
invariant_of-self c =
    let x = c.args.self.now in
    let way = c.in-Resumed.way in
    let may = c.admits.ensures.0 c.if-not-admits.false in
    let below = may.below in
    let small = x.sound.sized.0.2 in
    let room : way.made < length x.table.made = omega arith in
    record {
      stored = (x.stored.0, simp length-set (omega arith));
      sound = sound_more x way c.in-Resumed.is c.args.items c.args.rows c.args.place room may (omega arith);
    }
