-- How an index changes, and when it may. Assumes nothing.
use Rattle.std.specs.Prelude.{◌≡◌, ℕ, ◌+◌, ◌-◌, ◌<◌, ◌≤◌, ◌⊎◌, List, [], ◌∷◌, ◌++◌, length, Some, None}
use Rattle.std.specs.List.{slice_get}
use Rattle.line.specs.Stores.{Edit, Edit.replace, Edit.insert, Edit.remove, place_fault, store_limit}
use Rattle.page_rule.specs.Pages.{page_rows}
use Rattle.page_rule.specs.Moving.{Moves}
use Rattle.page_rule.specs.Marks.{marks_after, all_untouched}
use Rattle.page_table.specs.declared.entry.PageEntry.{PageEntry}
use Rattle.page_table.specs.declared.state.Numbers.{Numbers}
use Rattle.page_table.specs.declared.state.Way.{Way}
use Rattle.page_table.specs.declared.state.Phase.{Phase}
use Rattle.page_table.specs.declared.state.Phase.TheVariants.{Unfilled, Edited, Resumed, Settled}
use Rattle.page_table.specs.Indexes.{Index, no_way, limit}
use Rattle.page_table.specs.Free.{Free}

-- an index without pages, for a text of so many lines that was never settled
abbrev pub empty : Phase → ℕ → ℕ → Index
empty phase places lines =
    record { places = places; pages = []; made = []; numbers = record { items_then = 0; items_now = lines + 1; marks = all_untouched 0 }; phase = phase }

-- an index that no session has yet
abbrev pub unfilled : Index
unfilled = empty Unfilled 2 0

-- an index that was just filled is that of an edited session
abbrev pub fresh : ℕ → ℕ → Index
fresh places lines = empty Edited places lines

-- in another state of the session, with other pages under way; the pages and the numbers stay
abbrev pub in_phase : Index → Phase → List PageEntry → Index
in_phase i phase made = record { places = i.places; pages = i.pages; made = made; numbers = i.numbers; phase = phase }

-- ## Edits

-- the number of items after an edit
abbrev pub items_after : ℕ → Edit → ℕ
items_after items (replace at line) = items
items_after items (insert at line) = items + 1
items_after items (remove at) = items - 1

abbrev pub numbers_after : Numbers → Edit → Numbers
numbers_after n edit =
    record { items_then = n.items_then; items_now = items_after n.items_now edit; marks = marks_after (n.items_now - 1) n.marks edit }

-- an edited or a settled session takes edits, of lines that are there; and a store has room for no more lines than a full one
pub record TakesEdit (i : Index) (edit : Edit) : Type 0 where
  pub state : (i.phase ≡ Edited) ⊎ (i.phase ≡ Settled)
  pub there : place_fault (i.numbers.items_now - 1) edit ≡ None
  pub room : items_after i.numbers.items_now edit ≤ store_limit + 1

abbrev pub after_edit : Index → Edit → Index
after_edit i edit =
    record { places = i.places; pages = i.pages; made = []; numbers = numbers_after i.numbers edit; phase = Edited }

-- ## Pages under way

-- page number k holds an item
pub record Holds (ps : List PageEntry) (item k : ℕ) (p : PageEntry) : Type 0 where
  pub there : slice_get ps k ≡ Some p
  pub from : p.first ≤ item
  pub to : item < p.first + p.items

-- where to begin again: at page 0, item 0 and the start state, if head is 0 or there are no pages; otherwise at the page that holds
-- item head - 1, with its checkpoint
pub data Begins (i : Index) : Way → Type 0 where
  at_start : (i.numbers.marks.head ≡ 0) ⊎ (i.pages ≡ []) → Begins i no_way
  at_page : {k : ℕ} {p : PageEntry} → 0 < i.numbers.marks.head → Holds i.pages (i.numbers.marks.head - 1) k p
      → Begins i (record { restart = k; start = p.first; made = 0; next = p.first; kept = Some p.place })

-- the page made next
abbrev pub next_page : Way → ℕ → ℕ → ℕ → PageEntry
next_page way items rows place = record { first = way.next; items = items; rows = rows; place = place }

-- it may be made: a resumed session has a number for it below K, it has an item and no more rows than a body, and its place is free
pub record Admits (i : Index) (way : Way) (items rows place : ℕ) : Type 0 where
  pub resumed : i.phase ≡ Resumed way
  pub below : way.restart + way.made < limit i
  pub filled : 0 < items
  pub few : rows ≤ page_rows
  pub free : Free i place

-- one page more under way
abbrev pub gone_on : Way → ℕ → Way
gone_on way items = record { restart = way.restart; start = way.start; made = way.made + 1; next = way.next + items; kept = way.kept }

abbrev pub added : Index → Way → ℕ → ℕ → ℕ → Index
added i way items rows place = in_phase i (Resumed (gone_on way items)) (i.made ++ (next_page way items rows place ∷ []))

-- the place where the state before the next item lies
abbrev pub kept_at : Way → ℕ → Way
kept_at way place = record { restart = way.restart; start = way.start; made = way.made; next = way.next; kept = Some place }

-- old page number `over` and those behind it may be taken over: none of the items from the next one on is touched, that page began at
-- what is now the next item, and there is room for them
pub record TakesOver (i : Index) (way : Way) (over : ℕ) : Type 0 where
  pub met : PageEntry
  pub resumed : i.phase ≡ Resumed way
  pub there : slice_get i.pages over ≡ Some met
  pub level : Moves i.numbers.items_then i.numbers.items_now met.first way.next
  pub untouched : i.numbers.items_now - way.next ≤ i.numbers.marks.tail
  pub room : way.restart + way.made + (length i.pages - over) ≤ limit i
