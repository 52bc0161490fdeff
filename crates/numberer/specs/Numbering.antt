-- The numberer, by what its states mean. Assumes nothing.
use Rattle.std.specs.Prelude.{ℕ, cond, List, [], ℤ, pos, ◌+ℤ◌, int_lt, unsigned_abs}
use Rattle.line.specs.Lines.{is_line}
use Rattle.engine.specs.Model.{Row, Model, Stepped, Stepped.goes, Stepped.refuses, no_line}
use Rattle.division.specs.Floor.{quotient, remainder}
use Rattle.directive.specs.Grammar.{Said, Said.text, Said.directive, Said.malformed, said}
use Rattle.numberer.specs.declared.letter.NumberLetter.{NumberLetter}
use Rattle.numberer.specs.declared.state.NumberState.{NumberState}
use Rattle.numberer.specs.declared.letter.NumberLetter.TheVariants.{SetNumber, SetStops}
use Rattle.numberer.specs.Letters.{spelled, takes}
use Rattle.numberer.specs.Rows.{rows_of}

-- what a state means: the number of the next text line, and the stops of a turn
pub record Numbering : Type 0 where
  pub number : ℤ
  pub stops : ℕ

-- the meaning of a state
abbrev pub meaning : NumberState → Numbering
meaning state = record { number = state.number; stops = unsigned_abs state.stops.value }

-- the first number that no text line may have
abbrev pub number_limit : ℤ
number_limit = pos 100000

-- the rows of a text line, with the turn and stop that its number means
abbrev pub rows_at : Numbering → List ℕ → List Row
rows_at m bytes = rows_of (quotient m.number m.stops) (remainder m.number m.stops) bytes

-- a text line is printed with the turn and stop that its number means, and the number rises by one
abbrev pub printed : Numbering → List ℕ → Stepped Numbering
printed m bytes =
    cond (int_lt m.number number_limit) (goes (record { number = m.number +ℤ pos 1; stops = m.stops }) (rows_at m bytes)) (refuses 3 0)

-- what a line says is done; directives give no rows
abbrev pub obeyed : Numbering → Said NumberLetter → Stepped Numbering
obeyed m (text t) = printed m t
obeyed m (directive SetNumber v) = goes (record { number = v; stops = m.stops }) []
obeyed m (directive SetStops v) = goes (record { number = m.number; stops = unsigned_abs v }) []
obeyed m (malformed cause column) = refuses cause column

abbrev pub numbering : Model Numbering
numbering = record {
  start = record { number = pos 0; stops = 22 };
  step = λ m line. cond (is_line line) (obeyed m (said spelled takes line)) no_line;
  close = λ m. [];
}
