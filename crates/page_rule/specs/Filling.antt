-- How items fill a page. Assumes nothing.
use Rattle.std.specs.Prelude.{ℕ, suc, ◌+◌, Bool, true, false, List, [], ◌∷◌, ◌++◌, length, nat_le}
use Rattle.line.specs.Lines.{Line}
use Rattle.engine.specs.Model.{Row, Stepped, Stepped.goes, Stepped.refuses, Model}
use Rattle.page_rule.specs.Pages.{page_rows}

-- a page is filled with all items that are left, the end among them; or up to an item that does not fit, with what the state before
-- that item means; or up to a line that the engine refuses
pub data Filled (M : Type 0) : Type 0 where
  last : (items : ℕ) (rows : List Row) → Filled M
  full : (items : ℕ) (rows : List Row) → M → Filled M
  stuck : (items : ℕ) (rows : List Row) (cause column : ℕ) → Filled M

-- an item goes on the page if its rows and those already there are at most as many as a body has
abbrev pub fits : List Row → List Row → Bool
fits rows more = nat_le (length rows + length more) page_rows

module _ {M : Type 0} (e : Model M) where
  -- one item, of the lines from it on: a line is stepped, the end is closed
  abbrev pub stepped : M → List Line → Stepped M
  stepped s [] = goes s (e.close s)
  stepped s (l ∷ ls) = e.step s l

  -- items are stepped in order: the lines that are left, what the state before them means, and the items and rows that the page has
  abbrev pub fill : List Line → M → ℕ → List Row → Filled M
  fill [] s items rows = elim (fits rows (e.close s)) [
    | true ↦ last (suc items) (rows ++ e.close s)
    | false ↦ full items rows s
  ]
  fill (l ∷ ls) s items rows = elim (e.step s l) [
    | goes t more ↦ elim (fits rows more) [
      | true ↦ fill ls t (suc items) (rows ++ more)
      | false ↦ full items rows s
    ]
    | refuses cause column ↦ stuck items rows cause column
  ]
