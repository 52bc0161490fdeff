use Rattle.std.proofs.Common.{◌<◌, [], map, length, sym, ap, ◌∙◌, arith}
use Rattle.std.proofs.lemmas.List.{get_or-map, length-map, at_drop_all}
use Rattle.std.proofs.lemmas.Result.{err_from_is_err_and}
use Rattle.log_input.specs.Loads.{loaded}
use Rattle.log_input.proofs.Loading.{taken_at, not_taken_at, refused_with, law}
use Rattle.log_input.proofs.load.load_lines.Goals as goal

pub returns-in_err-insert : goal.returns-in_err-insert
returns-in_err-insert g c =
    let before = c.args.store.now in
    let store = c.loop-line.store in
    let all = map (λ x. x.now) c.args.log.now in
    let i = c.loop-line.line-index in
    let r = c.in_err-insert.ensures in
    let p = err_from_is_err_and c.from_residual.result c.from_residual.ensures.1 in
    let h : i < length all = omega (arith, length-map c.args.log.now (λ x. x.now)) in
    let e = not_taken_at (g.L.LineStore.capacity before) (g.L.LineStore.charge before) (g.L.LineStore.lines store) all i c.count.result _ (g.L.LineStore.capacity store) (g.L.LineStore.charge store) c.loop-line.invariant.1 c.loop-line.invariant.2 c.count.ensures h (get_or-map (λ x. x.now) c.args.log.now i _ [] c.loop-line-test.true) c.in_err-insert.field-0.0 r.first in
    record {
      list = rw (p.1, p.2) (record {
        list = sym c.loop-line.invariant.0 ∙ e ∙ ap (λ ls. refused_with ls c.in_err-insert.field-0.0) (ap g.L.LineStore.lines (sym r.same));
        room = ap g.L.LineStore.capacity r.same ∙ c.loop-line.invariant.1;
        rate = ap g.L.LineStore.charge r.same ∙ c.loop-line.invariant.2;
      });
      law = law;
    }

pub loop-line-preserved : goal.loop-line-preserved
loop-line-preserved g c =
    let before = c.args.store.now in
    let store = c.loop-line.store in
    let all = map (λ x. x.now) c.args.log.now in
    let i = c.loop-line.line-index in
    let r = c.in_ok-insert.ensures in
    let h : i < length all = omega (arith, length-map c.args.log.now (λ x. x.now)) in
    let e = taken_at (g.L.LineStore.capacity before) (g.L.LineStore.charge before) (g.L.LineStore.lines store) all i c.count.result _ (g.L.LineStore.capacity store) (g.L.LineStore.charge store) c.loop-line.invariant.1 c.loop-line.invariant.2 c.count.ensures h (get_or-map (λ x. x.now) c.args.log.now i _ [] c.loop-line-test.true) (g.L.LineStore.lines c.insert.new.self) r.allowed r.list in
    (sym e ∙ c.loop-line.invariant.0, r.room ∙ c.loop-line.invariant.1, r.rate ∙ c.loop-line.invariant.2)

pub returns : goal.returns
returns g c =
    let before = c.args.store.now in
    let all = map (λ x. x.now) c.args.log.now in
    record {
      list = record {
        list = sym c.loop-line.invariant.0 ∙ at_drop_all (loaded (g.L.LineStore.capacity before) (g.L.LineStore.charge before) (g.L.LineStore.lines c.loop-line.store)) all c.loop-line.line-index (omega (arith, length-map c.args.log.now (λ x. x.now)));
        room = c.loop-line.invariant.1;
        rate = c.loop-line.invariant.2;
      };
      law = law;
    }
