-- What the next page of a formatting promises, with the numbers that are printed. Assumes nothing.
use Rattle.std.specs.Prelude.{◌≡◌, ℕ, ◌+◌, List, length, Some, None, Ok, Err, Option, Result}
use Rattle.line.specs.Lines.{Line}
use Rattle.engine.specs.Model.{Model}
use Rattle.page_maker.specs.declared.fault.PageFault.{PageFault}
use Rattle.page_maker.specs.declared.made.Position.{Position}
use Rattle.page_maker.specs.declared.made.Made.{Made}
use Rattle.page_maker.specs.Promise.{PageGives}
use Rattle.report.specs.declared.numbers.PageNumbers.{PageNumbers}
use Rattle.report.specs.declared.numbers.Totals.{Totals}
use Rattle.formatting.specs.declared.printed.Printed.{Printed}
use Rattle.formatting.specs.declared.printed.Printed.TheVariants.{More, Last}

-- the numbers of the page that begins at a position
abbrev pub numbered : {S : Type 0} → Position S → Made S → PageNumbers
numbered at made = record { page = at.page; first = at.first; items = made.items; rows = made.rows; steps = made.steps }

-- of n lines, where the last page has this number: its pages, and its steps, n and one for each page
abbrev pub totals_of : ℕ → ℕ → Totals
totals_of n page = record { pages = page + 1; steps = n + (page + 1) }

-- what is printed of a page that was made
abbrev pub printed : {S : Type 0} → ℕ → Position S → Made S → Option (Position S) → Printed S
printed n at made (Some next) = More (numbered at made) next
printed n at made None = Last (numbered at made) (totals_of n at.page)

module _ {M S : Type 0} (means : S → M) (e : Model M) (lines : List Line) where
  -- the page was made as the page maker promises, and these are its numbers
  pub record PrintedAs (limit : ℕ) (at : Position S) (before : List ℕ) (answer : Printed S) (after : List ℕ) : Type 0 where
    pub made : Made S
    pub page : PageGives means e lines limit at before (Ok made) after
    pub told : answer ≡ printed (length lines) at made made.next

  abbrev pub NextGives : ℕ → Position S → List ℕ → Result (Printed S) PageFault → List ℕ → Type 0
  NextGives limit at before (Ok answer) after = PrintedAs limit at before answer after
  NextGives limit at before (Err fault) after = PageGives means e lines limit at before (Err fault) after
