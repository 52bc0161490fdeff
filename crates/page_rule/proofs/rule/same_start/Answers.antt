use Rattle.std.proofs.Common.{◌≡◌, ℕ, ◌^◌, ◌<◌, Some, None, Option, refl, ap, ◌∙◌, arith}
use Rattle.std.proofs.lemmas.Bool.{eq-eqb}
use Rattle.page_rule.specs.Moving.{Moves, MovedGives}
use Rattle.page_rule.proofs.rule.same_start.Goals as goal

-- what is told of an item that has moved to one of 64 bits is that item
moved_there : (from to i j : ℕ) (r : Option ℕ) → MovedGives from to i r → j < 2 ^ 64 → Moves from to i j → r ≡ Some j
moved_there from to i j (Some k) moved fits level = ap Some (omega arith)
moved_there from to i j None none fits level = let over = none j level in absurd (omega arith)

pub returns-else-eq-clause-answer : goal.returns-else-eq-clause-answer
returns-else-eq-clause-answer g c =
    let item = c.args.item in (
      λ h. let no = c.if-eq.false in cc,
      λ alike.
          let there = moved_there c.args.from c.args.to c.args.old_item item c.moved_item.result c.moved_item.ensures c.ranges.item.fits alike.level in
          (rw there at c.eq.ensures) ∙ eq-eqb item item refl,
    )
