use Rattle.std.proofs.Common.{◌+◌, ◌-◌, length}
use Rattle.page_maker.proofs.Underway.{Underway}
use Rattle.page_maker.proofs.fill_page.Given as goal

abbrev pub invariant-page : goal.invariant-page
invariant-page g l = Underway (g.E.Engine.model l.engine) (g.L.LineStore.lines l.store) l.first (g.E.Engine.means l.initial.state) l.initial.body l.items l.rows.count (g.E.Engine.means l.state) l.body

abbrev pub decreases-page : goal.decreases-page
decreases-page g l = length (g.L.LineStore.lines l.store) - (l.first + l.items)
