use Rattle.std.proofs.Common.{◌-◌, inl, arith}
use Rattle.page_table.specs.Indexes.{index_of}
use Rattle.page_table.specs.Changes.{Begins.at_start, Begins.at_page}
use Rattle.page_table.proofs.Held.{holder}
use Rattle.page_table.proofs.Changing.{head_held}
use Rattle.page_index.proofs.index.PageIndex.restart_way.Goals as goal

pub returns-then-head-eq0 : goal.returns-then-head-eq0
returns-then-head-eq0 c = at_start (inl c.if-head-eq0.true)

pub returns-in_default : goal.returns-in_default
returns-in_default c =
    let x = c.args.self.now in
    let i = index_of x.table in
    let h = head_held i (x.sound) in
    let found = holder 0 (x.table.numbers.marks.head - 1) i.pages x.sound.follow (omega arith) (omega (arith, c.if-head-eq0.false)) in
    absurd (c.in_default.ensures found.0 found.1 found.2)

pub returns : goal.returns
returns c = at_page (omega (arith, c.if-head-eq0.false)) c.in-Some.ensures
