use Rattle.std.proofs.Common.{rules}
use Rattle.page_index.proofs.changes.numbers_after.Goals as goal
use Rattle.page_index.proofs.changes.numbers_after.Goals.{then-at-lines, else-at-lines}

pub returns-in-Replace : goal.returns-in-Replace
returns-in-Replace c line = let marks = c.after_replace.ensures line in search rules

pub returns-after-at-lines : goal.returns-after-at-lines
returns-after-at-lines c line =
    let marks = c.after_insert.ensures line in
    elim c.if-at-lines.branch [ then-at-lines w ↦ search rules | else-at-lines w ↦ search rules ]
