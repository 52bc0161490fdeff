use Rattle.std.proofs.Common.{◌-◌, ◌≤◌, [], get_or, take, arith, rules}
use Rattle.line.proofs.Short.{kept_short}
use Rattle.page_maker.proofs.Items.{read_is, line_placed}
use Rattle.page_maker.proofs.place_item.Goals as goal

pub slice_bounds-place_line-end : goal.slice_bounds-place_line-end
slice_bounds-place_line-end g c =
    let store = c.args.store.now in
    let r = c.in-Ok.ensures in
    let k = kept_short (g.L.LineStore.lines store) (g.L.LineStore.capacity store) (g.L.LineStore.charge store) c.args.item (g.met.L.LineStore.kept store) r.0 in
    let h : c.in-Ok.length ≤ 120 = omega (arith, r.1, k) in
    search rules

pub returns-in-Ok : goal.returns-in-Ok
returns-in-Ok g c =
    let store = c.args.store.now in
    let lines = g.L.LineStore.lines store in
    let r = c.in-Ok.ensures in
    let line = read_is (get_or lines c.args.item []) _ c.read.new.line c.in-Ok.length r.1 r.2 in
    line_placed g.E.Engine.means (g.E.Engine.model c.args.engine.now) lines c.args.item (g.E.Engine.means c.args.state) c.args.rows.count c.args.body.now c.place_line.new.body (take (c.in-Ok.length - 0) c.read.new.line) c.place_line.result r.0 line c.place_line.ensures
