use Rattle.std.proofs.Common.{length, vec_items, refl, ap, arith}
use Rattle.std.proofs.lemmas.List.{drop_all, length-take}
use Rattle.gap_store.proofs.store.GapStore.over.Goals as goal

pub invariant_of-result : goal.invariant_of-result
invariant_of-result c =
    let v = c.truncate.new.self in
    let long = v.ok.0 in
    let l = ap length c.truncate.ensures.items in
    let t = length-take 524288 (vec_items c.args.memory) in
    record {
      small = omega arith;
      few = omega arith;
      sound =
          record {
            apart = omega arith;
            within = omega (arith, c.len.ensures);
            counted = refl;
            fore = refl;
            aft = drop_all c.len.result (vec_items v) (omega (arith, c.len.ensures));
          };
      held = λ i h. refl;
    }
