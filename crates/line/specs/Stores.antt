-- A line store, by its list of lines, its capacity and its charge for each line length. Assumes nothing.
use Rattle.std.specs.Prelude.{◌≡◌, ℕ, ◌+◌, ◌<◌, ◌≤◌, true, cond, ◌&&◌, List, [], ◌∷◌, ◌++◌, length, drop, Some, None, Ok, Err, Option, Result, nat_le, nat_lt, slice_index_or, slice_set}
use Rattle.std.specs.List.{insert as inserted, remove as removed, AllByRecursion}
use Rattle.line.specs.declared.fault.StoreFault.{StoreFault}
use Rattle.line.specs.declared.fault.StoreFault.TheVariants.{NoLine, Full}
use Rattle.line.specs.Lines.{Line, is_line}
use Rattle.line.specs.Faults.{or_else, line_fault}

-- the most lines of a store
abbrev pub store_limit : ℕ
store_limit = 4096

-- what the lines are charged, each by its length
abbrev pub charges : (ℕ → ℕ) → List Line → ℕ
charges charge [] = 0
charges charge (l ∷ ls) = charge (length l) + charges charge ls

-- what every store keeps
pub record Kept (lines : List Line) (capacity : ℕ) (charge : ℕ → ℕ) : Type 0 where
  pub few : length lines ≤ store_limit
  pub each : AllByRecursion (λ (l : Line). is_line l ≡ true) lines
  pub within : charges charge lines ≤ capacity

pub data Edit : Type 0 where
  replace : (at : ℕ) → List ℕ → Edit
  insert : (at : ℕ) → List ℕ → Edit
  remove : (at : ℕ) → Edit

-- replace and remove act on line `at`; insert puts a line before it, or behind all lines
abbrev pub edited : List Line → Edit → List Line
edited lines (replace at line) = slice_set lines at line
edited lines (insert at line) = inserted lines at line
edited lines (remove at) = removed lines at

-- 1: there is no such line
abbrev pub place_fault : ℕ → Edit → Option StoreFault
place_fault n (replace at line) = cond (nat_lt at n) None (Some (NoLine at n))
place_fault n (insert at line) = cond (nat_le at n) None (Some (NoLine at n))
place_fault n (remove at) = cond (nat_lt at n) None (Some (NoLine at n))

-- 2 and 3: the new bytes are no line
abbrev pub text_fault : Edit → Option StoreFault
text_fault (replace at line) = line_fault line
text_fault (insert at line) = line_fault line
text_fault (remove at) = None

-- 4: after the edit there would be too many lines, or charges above the capacity
abbrev pub full_fault : ℕ → (ℕ → ℕ) → List Line → Edit → Option StoreFault
full_fault capacity charge lines edit =
    cond (nat_le (length (edited lines edit)) store_limit && nat_le (charges charge (edited lines edit)) capacity) None (Some (Full (charges charge lines) capacity))

-- what keeps an edit from being made, if anything does
abbrev pub edit_fault : ℕ → (ℕ → ℕ) → List Line → Edit → Option StoreFault
edit_fault capacity charge lines edit =
    or_else (place_fault (length lines) edit) (or_else (text_fault edit) (full_fault capacity charge lines edit))

-- what reading line `at` to the front of a buffer gives: its length, and the bytes behind it kept; or the refusal, and the buffer as it was
abbrev pub ReadGives : List Line → ℕ → List ℕ → Result ℕ StoreFault → List ℕ → Type 0
ReadGives lines at before (Ok n) after = (at < length lines) × (n ≡ length (slice_index_or lines at [])) × (after ≡ slice_index_or lines at [] ++ drop n before)
ReadGives lines at before (Err f) after = (length lines ≤ at) × (f ≡ NoLine at (length lines)) × (after ≡ before)

-- what an edit gives a store with this list, capacity and charge
module _ {S : Type 0} (lines : S → List Line) (capacity : S → ℕ) (charge : S → ℕ → ℕ) where
  pub record Accepted (edit : Edit) (before after : S) : Type 0 where
    pub allowed : edit_fault (capacity before) (charge before) (lines before) edit ≡ None
    pub list : lines after ≡ edited (lines before) edit
    pub room : capacity after ≡ capacity before
    pub rate : charge after ≡ charge before

  pub record Refused (edit : Edit) (fault : StoreFault) (before after : S) : Type 0 where
    pub first : edit_fault (capacity before) (charge before) (lines before) edit ≡ Some fault
    pub same : after ≡ before

  abbrev pub EditGives : Edit → S → Result (Unit {0}) StoreFault → S → Type 0
  EditGives edit before (Ok u) after = Accepted edit before after
  EditGives edit before (Err f) after = Refused edit f before after
