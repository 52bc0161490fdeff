use Rattle.std.proofs.Common.{length}
use Rattle.std.proofs.lemmas.Result.{err_from_is_err_and}
use Rattle.page_rule.proofs.Counting.{steps_law}
use Rattle.formatting.proofs.Telling.{more, last, refused, under}
use Rattle.formatting.proofs.next_page.Goals as goal

pub returns-in_err-made : goal.returns-in_err-made
returns-in_err-made g c =
    let p = err_from_is_err_and c.from_residual.result c.from_residual.ensures.1 in
    record {
      page = refused g.E.Engine.means (g.E.Engine.model c.args.engine.now) (g.L.LineStore.lines c.args.store.now) c.args.at c.args.body.now c.make_page.new.body c.args.limit c.from.result c.from_residual.result p.0 c.in_err-made.field-0.0 c.from.ensures p.1 p.2 c.in_err-made.ensures;
      law = steps_law (g.E.Engine.model c.args.engine.now);
    }

pub returns-in-Some : goal.returns-in-Some
returns-in-Some g c =
    let made = c.in_ok-made.made in
    let lines = g.L.LineStore.lines c.args.store.now in
    record {
      page = record {
        made = made;
        page = under g.E.Engine.means (g.E.Engine.model c.args.engine.now) lines c.args.at c.args.body.now c.make_page.new.body c.args.limit c.from.result made c.from.ensures c.in_ok-made.ensures;
        told = more (length lines) c.args.at made made.next c.in-Some.next c.in-Some.is;
      };
      law = steps_law (g.E.Engine.model c.args.engine.now);
    }

pub returns-in-None : goal.returns-in-None
returns-in-None g c =
    let made = c.in_ok-made.made in
    let lines = g.L.LineStore.lines c.args.store.now in
    record {
      page = record {
        made = made;
        page = under g.E.Engine.means (g.E.Engine.model c.args.engine.now) lines c.args.at c.args.body.now c.make_page.new.body c.args.limit c.from.result made c.from.ensures c.in_ok-made.ensures;
        told = last (length lines) c.args.at made made.next c.count.result c.count.ensures c.in-None.is;
      };
      law = steps_law (g.E.Engine.model c.args.engine.now);
    }
