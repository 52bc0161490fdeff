-- Lines put behind those of a store, one after the other. Assumes nothing.
use Rattle.std.specs.Prelude.{◌≡◌, ℕ, List, [], ◌∷◌, ◌++◌, length, Some, None, Ok, Err, Option, Result}
use Rattle.line.specs.Lines.{Line}
use Rattle.line.specs.declared.fault.StoreFault.{StoreFault}
use Rattle.line.specs.Stores.{Edit.insert, edited, edit_fault}

-- the lines that the store then has, and why the first refused one was refused
pub record Loaded : Type 0 where
  pub lines : List Line
  pub refusal : Option StoreFault

module _ (capacity : ℕ) (charge : ℕ → ℕ) where
  -- each line is inserted behind all others, up to the first that is refused
  abbrev pub loaded : List Line → List (List ℕ) → Loaded
  loaded lines [] = record { lines = lines; refusal = None }
  loaded lines (l ∷ ls) = elim (edit_fault capacity charge lines (insert (length lines) l)) [
    | None ↦ loaded (edited lines (insert (length lines) l)) ls
    | Some f ↦ record { lines = lines; refusal = Some f }
  ]

abbrev pub answered : Result (Unit {0}) StoreFault → Option StoreFault
answered (Ok u) = None
answered (Err f) = Some f

module _ {S : Type 0} (lines : S → List Line) (capacity : S → ℕ) (charge : S → ℕ → ℕ) where
  pub record LoadGives (before : S) (log : List (List ℕ)) (answer : Result (Unit {0}) StoreFault) (after : S) : Type 0 where
    pub list : loaded (capacity before) (charge before) (lines before) log ≡ record { lines = lines after; refusal = answered answer }
    pub room : capacity after ≡ capacity before
    pub rate : charge after ≡ charge before

-- where none is refused, all lines stand behind those that were there
abbrev pub LoadLaw : Type 0
LoadLaw = (capacity : ℕ) (charge : ℕ → ℕ) (lines log : List (List ℕ)) → (loaded capacity charge lines log).refusal ≡ None → (loaded capacity charge lines log).lines ≡ lines ++ log
