-- How many steps a formatting takes. Assumes nothing.
use Rattle.std.specs.Prelude.{◌≡◌, ℕ, ◌+◌, List, [], ◌∷◌, length}
use Rattle.line.specs.Lines.{Line}
use Rattle.engine.specs.Model.{Model}
use Rattle.page_rule.specs.Pages.{Page, steps}
use Rattle.page_rule.specs.Formatting.{Ending.complete, formatted}

-- the steps of some pages of a text of n lines
abbrev pub all_steps : {M : Type 0} → ℕ → List (Page M) → ℕ
all_steps n [] = 0
all_steps n (p ∷ ps) = steps n p + all_steps n ps

-- a complete formatting of n lines takes n steps and one for each page
abbrev pub StepsLaw : {M : Type 0} → Model M → Type 0
StepsLaw e = (limit : ℕ) (lines : List Line) → (formatted e limit lines).ending ≡ complete → all_steps (length lines) (formatted e limit lines).pages ≡ length lines + length (formatted e limit lines).pages
