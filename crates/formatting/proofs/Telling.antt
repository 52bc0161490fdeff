-- What is told of a page, by whether another follows. Assumes nothing.
use Rattle.std.proofs.Common.{◌≡◌, ℕ, List, Some, None, Ok, Err, Option, Result, sym, ap, ◌∙◌, subst}
use Rattle.line.specs.Lines.{Line}
use Rattle.engine.specs.Model.{Model}
use Rattle.page_maker.specs.declared.fault.PageFault.{PageFault}
use Rattle.page_maker.specs.declared.made.Position.{Position}
use Rattle.page_maker.specs.declared.made.Made.{Made}
use Rattle.page_maker.specs.Promise.{PageGives}
use Rattle.formatting.specs.declared.printed.Printed.{Printed}
use Rattle.formatting.specs.declared.printed.Printed.TheVariants.{More, Last}
use Rattle.formatting.specs.Promise.{numbered, totals_of, printed, NextGives}

module _ {S : Type 0} (n : ℕ) (at : Position S) (made : Made S) where
  pub more : (o : Option (Position S)) (next : Position S) → o ≡ Some next → More (numbered at made) next ≡ printed n at made o
  more o next e = ap (printed n at made) (sym e)

  pub last : (o : Option (Position S)) (count : ℕ) → count ≡ n → o ≡ None → Last (numbered at made) (totals_of count at.page) ≡ printed n at made o
  last o count q e = ap (λ k. Last (numbered at made) (totals_of k at.page)) q ∙ ap (printed n at made) (sym e)

module _ {M S : Type 0} (means : S → M) (e : Model M) (lines : List Line) (at : Position S) (before after : List ℕ) where
  pub refused : (limit k : ℕ) (r : Result (Printed S) PageFault) (f g : PageFault) → k ≡ limit → r ≡ Err f → f ≡ g → PageGives means e lines k at before (Err g) after → NextGives means e lines limit at before r after
  refused limit k r f g q s t p =
      subst (λ x. NextGives means e lines limit at before x after) (sym (s ∙ ap Err t)) (subst (λ n. PageGives means e lines n at before (Err g) after) q p)

  pub under : (limit k : ℕ) (made : Made S) → k ≡ limit → PageGives means e lines k at before (Ok made) after → PageGives means e lines limit at before (Ok made) after
  under limit k made q p = subst (λ n. PageGives means e lines n at before (Ok made) after) q p
