-- An engine by the meanings of its states. Assumes nothing.
use Rattle.std.specs.Prelude.{◌≡◌, ℕ, ◌≤◌, List, length}
use Rattle.std.specs.List.{AllByRecursion}
use Rattle.line.specs.Lines.{Line}

-- the bytes of a row, and the most rows that one item gives
abbrev pub row_width : ℕ
row_width = 72

abbrev pub step_rows : ℕ
step_rows = 4

-- a row is its bytes
abbrev pub Row : Type 0
Row = List ℕ

-- a step goes on to a meaning and gives rows, or refuses with a cause and a column
pub data Stepped (M : Type 0) : Type 0 where
  goes : M → List Row → Stepped M
  refuses : (cause column : ℕ) → Stepped M

-- what an engine does, over the meanings M: the first one, a line from a meaning on, and the end of the text
pub record Model (M : Type 0) : Type 0 where
  pub start : M
  pub step : M → Line → Stepped M
  pub close : M → List Row

-- few rows, each as wide as a row is
pub record Sized (rows : List Row) : Type 0 where
  pub few : length rows ≤ step_rows
  pub wide : AllByRecursion (λ (r : Row). length r ≡ row_width) rows

abbrev pub SizedStep : {M : Type 0} → Stepped M → Type 0
SizedStep (goes m rows) = Sized rows
SizedStep (refuses cause column) = Unit {0}

-- the refusal of bytes that are no line
abbrev pub no_line : {M : Type 0} → Stepped M
no_line = refuses 9 0
