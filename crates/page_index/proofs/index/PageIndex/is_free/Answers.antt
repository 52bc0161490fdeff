use Rattle.std.proofs.Common.{rules, eqb, sym, ap, ◌∙◌, arith}
use Rattle.std.specs.List.{list_any}
use Rattle.page_table.specs.Indexes.{index_of}
use Rattle.page_index.proofs.Frees.{free_test, taken_test}
use Rattle.page_index.proofs.index.PageIndex.is_free.Goals as goal
use Rattle.page_index.proofs.index.PageIndex.is_free.Goals.{then-place-self, else-place-self}

pub returns-then-not-has_place : goal.returns-then-not-has_place
returns-then-not-has_place c =
    let place = c.args.place in
    elim c.if-place-self.branch [
      | then-place-self w ↦ free_test (index_of c.args.self.now.table) place w.has_place.result c.has_place-then-not-has_place.result w.if-place-self.true
          (sym w.value-is ∙ c.if-not-has_place.true)
          (w.has_place.ensures ∙ ap (list_any (λ p. eqb p.place place)) w.pages.ensures)
          (c.has_place-then-not-has_place.ensures ∙ ap (list_any (λ p. eqb p.place place)) c.made.ensures)
      | else-place-self w ↦ search (rules, w.value-is)
    ]

pub returns-else-not-has_place : goal.returns-else-not-has_place
returns-else-not-has_place c =
    let place = c.args.place in (
      (λ h. search rules),
      (λ free. elim c.if-place-self.branch [
        | then-place-self w ↦ absurd (taken_test (index_of c.args.self.now.table) place w.has_place.result (sym w.value-is ∙ c.if-not-has_place.false) (w.has_place.ensures ∙ ap (list_any (λ p. eqb p.place place)) w.pages.ensures) free)
        | else-place-self w ↦ (let h = free.within in absurd (omega arith))
      ]),
    )
