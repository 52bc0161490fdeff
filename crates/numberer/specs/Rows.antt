-- How the numberer sets a text line. Assumes nothing.
use Rattle.std.specs.Prelude.{ℕ, ◌-◌, cond, List, [], ◌∷◌, ◌++◌, length, take, drop, replicate, ℤ, pos, nat_le}
use Rattle.engine.specs.Model.{Row}
use Rattle.numerals.specs.Fields.{field}

-- a text, with spaces behind it up to a width
abbrev pub padded : ℕ → List ℕ → List ℕ
padded width text = text ++ replicate (width - length text) 32

-- the columns: 0 to 6 hold the turn, 8 to 10 the stop, both right-aligned, 12 to 71 the text; a space stands between them
abbrev pub turn_width : ℕ
turn_width = 7

abbrev pub stop_width : ℕ
stop_width = 3

abbrev pub text_column : ℕ
text_column = 12

abbrev pub text_width : ℕ
text_width = 60

-- the row of a text that fits the columns for it
abbrev pub row_of : ℤ → ℤ → List ℕ → Row
row_of turn stop text = field turn_width turn ++ (32 ∷ (field stop_width stop ++ (32 ∷ padded text_width text)))

-- the first row has as much of the text as goes into its columns
abbrev pub first_row : ℤ → ℕ → List ℕ → Row
first_row turn stop text = row_of turn (pos stop) (take text_width text)

-- the rest stands in a second row, in the same columns, with spaces before it
abbrev pub second_row : List ℕ → Row
second_row text = replicate text_column 32 ++ padded text_width (drop text_width text)

abbrev pub rows_of : ℤ → ℕ → List ℕ → List Row
rows_of turn stop text = first_row turn stop text ∷ cond (nat_le (length text) text_width) [] (second_row text ∷ [])
