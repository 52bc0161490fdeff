use Rattle.std.proofs.Common.{◌≡◌, ℕ, ◌+◌, ◌-◌, ◌*◌, ◌≤◌, Ok, Option, [], ◌++◌, length, take, drop, replicate, sym, subst, arith, rules}
use Rattle.page_maker.proofs.Underway.{Underway, begun, on, on_last, over}
use Rattle.page_rule.specs.Filling.{fill}
use Rattle.page_maker.specs.Promise.{FilledTo}
use Rattle.page_maker.specs.declared.count.RowCount.{RowCount}
use Rattle.page_maker.specs.declared.made.Placed.TheVariants.{On, End, Over}
use Rattle.page_maker.proofs.fill_page.Goals.{in-Over, in-End}
use Rattle.page_maker.proofs.fill_page.Goals as goal

pub page-init : goal.page-init
page-init g c =
    let model = g.E.Engine.model c.args.engine.now in
    let lines = g.L.LineStore.lines c.args.store.now in
    let start = g.E.Engine.means c.args.at.state in
    let P : ℕ → Type 0 = λ n. Underway model lines c.args.at.first start c.args.body.now 0 n start c.args.body.now in
    subst P (sym c.none-rows.ensures) (begun model lines c.args.at.first start c.args.body.now)

pub returns : goal.returns
returns g c =
    let u = c.page.invariant in
    let lines = g.L.LineStore.lines c.args.store.now in
    let done = c.clear_rows.new.body in
    let P : (ℕ × RowCount × Option g.row.E-State.Denot) → Type 0 = λ t.
    done ≡ take (t.1.count * 72) c.place_item.new.body ++ replicate ((40 - t.1.count) * 72) 32
    → FilledTo g.E.Engine.means (length lines) (fill (g.E.Engine.model c.args.engine.now) (drop c.args.at.first lines) (g.E.Engine.means c.args.at.state) 0 []) c.args.at.first (record { items = t.0; rows = t.1.count; next = t.2 }) t.2 done
    in
    let cleared : c.clear_rows.new.body ≡ take (c.match-placed.items.1.count * 72) c.place_item.new.body ++ replicate {A = ℕ} ((40 - c.match-placed.items.1.count) * 72) 32 = search rules in
    elim c.match-placed.branch [
      | in-Over w ↦
          let p : c.place_item.result ≡ Ok Over = search rules in
          let o = rw p at c.place_item.ensures in
          let v = u.within in
          let e = u.each in
          let f = o.few in
          let m = o.over in
          subst P (sym w.items-is) (λ k. (omega arith, over _ _ _ _ _ _ _ _ _ u _ _ o k)) cleared
      | in-End w ↦
          let p : c.place_item.result ≡ Ok (End w.in-End.total) = search rules in
          let o = rw p at c.place_item.ensures in
          let v = u.within in
          let h : length lines ≤ c.args.at.first + c.page.items = o.0 in
          subst P (sym w.items-is) (λ k. (omega arith, omega arith, on_last _ _ _ _ _ _ _ _ _ u _ _ _ o.1 h k)) cleared
    ]

pub page-preserved : goal.page-preserved
page-preserved g c =
    let p : c.place_item.result ≡ Ok (On c.in-On.next c.in-On.total) = search rules in
    let o = rw p at c.place_item.ensures in
    on _ _ _ _ _ _ _ _ _ c.page.invariant _ _ _ o.1 o.0
