use Rattle.std.proofs.Common.{arith}
use Rattle.std.proofs.lemmas.Result.{err_from_is_err_and}
use Rattle.page_maker.proofs.Making.{made_last, made_full, made_refused, at_last, at_full}
use Rattle.page_maker.proofs.make_page.Goals as goal

pub returns-in_err-filling : goal.returns-in_err-filling
returns-in_err-filling g c =
    let p = err_from_is_err_and c.from_residual.result c.from_residual.ensures.1 in
    rw (p.1, p.2) (made_refused g.E.Engine.means (g.E.Engine.model c.args.engine.now) (g.L.LineStore.lines c.args.store.now) c.args.limit c.args.at _ c.args.body.now c.fill_page.new.body (omega arith) c.in_err-filling.ensures)

pub returns-in-None : goal.returns-in-None
returns-in-None g c =
    let filling = c.in_ok-filling.filling in
    let p = at_last g.E.Engine.means _ _ c.args.at.first filling c.fill_page.new.body filling.next c.in-None.is c.in_ok-filling.ensures in
    made_last g.E.Engine.means (g.E.Engine.model c.args.engine.now) (g.L.LineStore.lines c.args.store.now) c.args.limit c.args.at filling.items filling.rows c.fill_page.new.body (omega arith) p.0 p.2

pub returns-in-Some : goal.returns-in-Some
returns-in-Some g c =
    let filling = c.in_ok-filling.filling in
    let p = at_full g.E.Engine.means _ _ c.args.at.first filling c.fill_page.new.body filling.next c.in-Some.state c.in-Some.is c.in_ok-filling.ensures in
    made_full g.E.Engine.means (g.E.Engine.model c.args.engine.now) (g.L.LineStore.lines c.args.store.now) c.args.limit c.args.at filling.items filling.rows c.in-Some.state c.fill_page.new.body (omega arith) p.0 p.1
