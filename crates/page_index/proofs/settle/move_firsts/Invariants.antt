use Rattle.std.proofs.Common.{◌≡◌, ◌++◌, take, drop}
use Rattle.page_index.specs.Tables.{taken_over}
use Rattle.page_index.proofs.settle.move_firsts.Given as goal

-- so many are moved
abbrev pub invariant-loop-page : goal.invariant-loop-page
invariant-loop-page l = l.pages ≡ taken_over l.numbers (take l.page-index l.initial.pages) ++ drop l.page-index l.initial.pages
