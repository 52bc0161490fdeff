-- The page rule: the pages of a text, one behind the other. Assumes nothing.
use Rattle.std.specs.Prelude.{ℕ, zero, suc, ◌+◌, List, [], ◌∷◌, ◌++◌, drop}
use Rattle.line.specs.Lines.{Line}
use Rattle.engine.specs.Model.{Row, Model}
use Rattle.page_rule.specs.Pages.{Page}
use Rattle.page_rule.specs.Filling.{Filled.last, Filled.full, Filled.stuck, fill}

-- a formatting ends with the end of the text on a page; or where the engine refuses a line, with its cause and column, that line
-- and the number of the page being made; or where one page too many has to be begun, with that page's first item and the limit
pub data Ending : Type 0 where
  complete : Ending
  line_refused : (cause column line page : ℕ) → Ending
  too_many_pages : (first limit : ℕ) → Ending

-- the finished pages, and how it ended
pub record Formatted (M : Type 0) : Type 0 where
  pub pages : List (Page M)
  pub ending : Ending

abbrev pub no_page : {M : Type 0} → Ending → Formatted M
no_page ending = record { pages = []; ending = ending }

-- pages in front of a formatting
abbrev pub onto : {M : Type 0} → List (Page M) → Formatted M → Formatted M
onto ps f = record { pages = ps ++ f.pages; ending = f.ending }

abbrev pub page : {M : Type 0} → ℕ → ℕ → List Row → M → Page M
page first items rows checkpoint = record { first = first; items = items; rows = rows; checkpoint = checkpoint }

module _ {M : Type 0} (e : Model M) where
  -- the pages from page q on: how many more there may be, its first item, and what the state before that means
  abbrev pub pages_from : ℕ → ℕ → ℕ → M → List Line → Formatted M
  pages_from zero q j s lines = no_page (too_many_pages j q)
  pages_from (suc more) q j s lines = elim (fill e (drop j lines) s 0 []) [
    | last items rows ↦ onto (page j items rows s ∷ []) (no_page complete)
    | full items rows t ↦ onto (page j items rows s ∷ []) (pages_from more (suc q) (j + items) t lines)
    | stuck items rows cause column ↦ no_page (line_refused cause column (j + items) q)
  ]

  -- page 0 begins at item 0 with the start state
  abbrev pub formatted : ℕ → List Line → Formatted M
  formatted limit lines = pages_from limit 0 0 e.start lines
