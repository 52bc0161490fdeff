-- What an engine's calls promise, by the meanings of its states. Assumes nothing.
use Rattle.std.specs.Prelude.{◌≡◌, ℕ, ◌*◌, List, [], ◌∷◌, ◌++◌, length, drop, Ok, Err, Result}
use Rattle.engine.specs.declared.EngineFault.{EngineFault}
use Rattle.engine.specs.Model.{Row, row_width, Stepped, Stepped.goes, Stepped.refuses}

-- the bytes of rows, one behind another
abbrev pub joined : List Row → List ℕ
joined [] = []
joined (r ∷ rs) = r ++ joined rs

-- the rows at the front of the buffer, and behind them what was there
abbrev pub fronted : List Row → List ℕ → List ℕ
fronted rows before = joined rows ++ drop (length rows * row_width) before

module _ {M S : Type 0} (means : S → M) where
  -- the step is done: the rows are those of the model, and so is the meaning of the state after
  pub record Done (step : Stepped M) (before : List ℕ) (state' : S) (count : ℕ) (after : List ℕ) : Type 0 where
    pub rows : List Row
    pub gives : step ≡ goes (means state') rows
    pub counts : count ≡ length rows
    pub buffer : after ≡ fronted rows before

  -- the step is refused: the fault is that of the model, and state and buffer are as they were
  pub record Refused (step : Stepped M) (state : S) (before : List ℕ) (state' : S) (fault : EngineFault) (after : List ℕ) : Type 0 where
    pub gives : step ≡ refuses fault.cause fault.column
    pub same : state' ≡ state
    pub buffer : after ≡ before

  -- what a step answers, by what the model says: the state after, the number of rows or the fault, and the whole buffer
  abbrev pub StepGives : Stepped M → S → List ℕ → S → Result ℕ EngineFault → List ℕ → Type 0
  StepGives step state before state' (Ok count) after = Done step before state' count after
  StepGives step state before state' (Err fault) after = Refused step state before state' fault after

-- what a close answers: the number of rows, and the whole buffer
pub record CloseGives (rows : List Row) (before : List ℕ) (count : ℕ) (after : List ℕ) : Type 0 where
  pub counts : count ≡ length rows
  pub buffer : after ≡ fronted rows before
