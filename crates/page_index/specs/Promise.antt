-- What the calls of an index answer and leave. Assumes nothing.
use Rattle.std.specs.Prelude.{◌≡◌, ℕ, ◌+◌, ◌<◌, ◌≤◌, List, [], length, Bool, true, false, Some, None, Ok, Err, Option, Result, MatchOption, ◌≢◌}
use Rattle.std.specs.List.{slice_get}
use Rattle.line.specs.Stores.{Edit, Edit.replace, Edit.insert, Edit.remove}
use Rattle.page_table.specs.declared.entry.PageEntry.{PageEntry}
use Rattle.page_table.specs.declared.state.Way.{Way}
use Rattle.page_table.specs.declared.state.Phase.TheVariants.{Edited, Resumed}
use Rattle.page_table.specs.Indexes.{Index, way_of}
use Rattle.page_table.specs.Sound.{GoodPlaces}
use Rattle.page_table.specs.Free.{Free}
use Rattle.page_table.specs.Changes.{fresh, in_phase, TakesEdit, after_edit, Begins, Holds, Admits, added, kept_at}
use Rattle.page_index.specs.declared.fault.PageSetFault.{PageSetFault}
use Rattle.page_index.specs.declared.finds.PageAt.{PageAt}
use Rattle.page_index.specs.declared.changes.LineEdit.{LineEdit}
use Rattle.page_index.specs.declared.changes.LineEdit.TheVariants.{Replace, Insert, Remove}
use Rattle.page_index.specs.Faults.{refusal, misfit, not_there, bad_places}

-- ## Questions

-- page number k
abbrev pub PageGives : Index → ℕ → Result PageEntry PageSetFault → Type 0
PageGives i k (Ok p) = slice_get i.pages k ≡ Some p
PageGives i k (Err f) = (length i.pages ≤ k) × (refusal f ≡ not_there k)

-- one of some pages that meets a condition, or none where no page does
pub record FoundGives (ps : List PageEntry) (meets : PageEntry → Bool → Type 0) (r : Option PageAt) : Type 0 where
  pub gives : MatchOption r ((k : ℕ) (p : PageEntry) → slice_get ps k ≡ Some p → meets p false) (λ at. (slice_get ps at.number ≡ Some at.page) × meets at.page true)

-- the page that holds an item
abbrev pub HolderGives : Index → ℕ → Option PageAt → Type 0
HolderGives i item (Some at) = Holds i.pages item at.number at.page
HolderGives i item None = (k : ℕ) (p : PageEntry) → Holds i.pages item k p → ⊥

-- the page that begins at an item
abbrev pub BeginnerGives : Index → ℕ → Option PageAt → Type 0
BeginnerGives i item (Some at) = (slice_get i.pages at.number ≡ Some at.page) × (at.page.first ≡ item)
BeginnerGives i item None = (k : ℕ) (p : PageEntry) → slice_get i.pages k ≡ Some p → p.first ≢ item

-- the lowest free place
abbrev pub FreeGives : Index → Option ℕ → Type 0
FreeGives i (Some x) = Free i x × ((y : ℕ) → y < x → Free i y → ⊥)
FreeGives i None = (y : ℕ) → Free i y → ⊥

-- ## Changes

-- filled with places for a text of so many lines, or refused
abbrev pub FillGives : Index → ℕ → ℕ → Result (Unit {0}) PageSetFault → Index → Type 0
FillGives i places lines (Ok u) after = GoodPlaces places × (after ≡ fresh places lines)
FillGives i places lines (Err f) after = (GoodPlaces places → ⊥) × (refusal f ≡ bad_places places) × (after ≡ i)

-- a change that may be made, or does not belong to the state of the index
abbrev pub ChangeGives : Type 0 → Index → Index → Result (Unit {0}) PageSetFault → Index → Type 0
ChangeGives May i changed (Ok u) after = May × (after ≡ changed)
ChangeGives May i changed (Err f) after = (May → ⊥) × (refusal f ≡ misfit i.places) × (after ≡ i)

-- an edit is noted
abbrev pub EditGives : Index → Edit → Result (Unit {0}) PageSetFault → Index → Type 0
EditGives i edit = ChangeGives (TakesEdit i edit) i (after_edit i edit)

-- an edited session is resumed; the answer is where it begins again
abbrev pub BeginGives : Index → Result Way PageSetFault → Index → Type 0
BeginGives i (Ok way) after = (i.phase ≡ Edited) × Begins i way × (after ≡ in_phase i (Resumed way) [])
BeginGives i (Err f) after = (i.phase ≢ Edited) × (refusal f ≡ misfit i.places) × (after ≡ i)

-- the edit of a line
abbrev pub edit_of : LineEdit → List ℕ → Edit
edit_of (Replace at) line = replace at line
edit_of (Insert at) line = insert at line
edit_of (Remove at) line = remove at

-- a page that is not the last one may be made
pub record Adds (i : Index) (items rows place : ℕ) : Type 0 where
  pub admits : Admits i (way_of i.phase) items rows place
  pub short : (way_of i.phase).next + items < i.numbers.items_now

-- one page more is under way
abbrev pub AddGives : Index → ℕ → ℕ → ℕ → Result (Unit {0}) PageSetFault → Index → Type 0
AddGives i items rows place = ChangeGives (Adds i items rows place) i (added i (way_of i.phase) items rows place)

-- the page with the end may be made
pub record Finishes (i : Index) (items rows place : ℕ) : Type 0 where
  pub admits : Admits i (way_of i.phase) items rows place
  pub ends : (way_of i.phase).next + items ≡ i.numbers.items_now

-- the state before the next item may be kept at a place
pub record Keeps (i : Index) (place : ℕ) : Type 0 where
  pub resumed : i.phase ≡ Resumed (way_of i.phase)
  pub within : place < i.places

-- it is kept there
abbrev pub KeepGives : Index → ℕ → Result (Unit {0}) PageSetFault → Index → Type 0
KeepGives i place = ChangeGives (Keeps i place) i (in_phase i (Resumed (kept_at (way_of i.phase) place)) i.made)

-- what is under way is dropped
abbrev pub AbandonGives : Index → Result (Unit {0}) PageSetFault → Index → Type 0
AbandonGives i = ChangeGives (i.phase ≡ Resumed (way_of i.phase)) i (in_phase i Edited [])
