-- Worked examples of the rules, as one theorem on the definitions that the contracts use. Assumes nothing.
use Rattle.std.specs.Prelude.{◌≡◌, ℕ, List, [], ◌∷◌, ◌++◌, map, length, replicate, ℤ, pos, negsuc, codes}
use Rattle.line.specs.Lines.{Line}
use Rattle.engine.specs.Model.{Stepped, Stepped.goes, Stepped.refuses, Model}
use Rattle.division.specs.Floor.{quotient, remainder}
use Rattle.numberer.specs.Numbering.{numbering}
use Rattle.page_rule.specs.Pages.{Page, steps}
use Rattle.page_rule.specs.Formatting.{Ending.complete, formatted}

-- at v, with m stops a turn, the turn is t and the stop p
abbrev pub Means : ℤ → ℕ → ℤ → ℕ → Type 0
Means v m t p = (quotient v m ≡ t) × (remainder v m ≡ p)

-- a line after a step that went on
abbrev pub then_line : {M : Type 0} → Model M → Stepped M → Line → Stepped M
then_line e (goes m rows) line = e.step m line
then_line e (refuses cause column) line = refuses cause column

-- the numbers of a page of a text of n lines: first item, items, rows, steps
pub record Numbers : Type 0 where
  pub first : ℕ
  pub items : ℕ
  pub rows : ℕ
  pub steps : ℕ

abbrev pub numbers : {M : Type 0} → ℕ → Page M → Numbers
numbers n p = record { first = p.first; items = p.items; rows = length p.rows; steps = steps n p }

-- the pages of a text under a limit of 256, which are complete
abbrev pub HasPages : {M : Type 0} → Model M → List Line → List Numbers → Type 0
HasPages e lines all = ((formatted e 256 lines).ending ≡ complete) × (map (numbers (length lines)) (formatted e 256 lines).pages ≡ all)

pub record Trials : Type 0 where
  -- 22 stops a turn
  pub minus_one : Means (negsuc 0) 22 (negsuc 0) 21
  pub minus_22 : Means (negsuc 21) 22 (negsuc 0) 0
  pub minus_23 : Means (negsuc 22) 22 (negsuc 1) 21
  pub plus_22 : Means (pos 22) 22 (pos 1) 0
  -- `.n -1`, then `LEVER`
  pub lever : then_line numbering (numbering.step numbering.start (codes ".n -1")) (codes "LEVER") ≡ goes (record { number = pos 0; stops = 22 }) ((codes "     -1  21 LEVER" ++ replicate 55 32) ∷ [])
  -- no lines: one page, with the end alone on it
  pub no_lines : HasPages numbering [] (record { first = 0; items = 1; rows = 0; steps = 1 } ∷ [])
  -- forty lines of one row fill a page, and the end stands on it too
  pub forty : HasPages numbering (replicate 40 (codes "SPIN")) (record { first = 0; items = 41; rows = 40; steps = 41 } ∷ [])
  -- one more begins a second page
  pub forty_one : HasPages numbering (replicate 41 (codes "SPIN")) (record { first = 0; items = 40; rows = 40; steps = 41 } ∷ record { first = 40; items = 2; rows = 1; steps = 2 } ∷ [])
