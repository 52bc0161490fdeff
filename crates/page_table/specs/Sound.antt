-- What every page index keeps. Assumes nothing.
use Rattle.std.specs.Prelude.{◌≡◌, ℕ, suc, ◌+◌, ◌-◌, ◌%◌, ◌<◌, ◌≤◌, List, ◌++◌, length, take, Some, ◌≢◌}
use Rattle.std.specs.List.{slice_get, All}
use Rattle.line.specs.Stores.{store_limit}
use Rattle.page_rule.specs.Pages.{page_rows}
use Rattle.page_table.specs.declared.entry.PageEntry.{PageEntry}
use Rattle.page_table.specs.declared.state.Way.{Way}
use Rattle.page_table.specs.declared.state.Phase.TheVariants.{Resumed, Settled}
use Rattle.page_table.specs.declared.table.PageTable.{PageTable}
use Rattle.page_table.specs.Indexes.{Index, way_of, limit, held, users}

-- the most places
abbrev pub most_places : ℕ
most_places = 512

-- an even number of places, from 2 to the most
abbrev pub GoodPlaces : ℕ → Type 0
GoodPlaces n = (n % 2 ≡ 0) × (2 ≤ n) × (n ≤ most_places)

-- pages follow on from item j without a gap: each begins where those in front of it end
abbrev pub FollowFrom : ℕ → List PageEntry → Type 0
FollowFrom j ps = (k : ℕ) (p : PageEntry) → slice_get ps k ≡ Some p → p.first ≡ j + held (take k ps)

-- each page has at least one item
abbrev pub Filled : List PageEntry → Type 0
Filled ps = All (λ p. 0 < p.items) ps

-- each has at most as many rows as a body
abbrev pub FewRows : List PageEntry → Type 0
FewRows ps = All (λ p. p.rows ≤ page_rows) ps

-- each has one of the places
abbrev pub Within : ℕ → List PageEntry → Type 0
Within places ps = All (λ p. p.place < places) ps

-- no two share a place: each place is of at most one of them
abbrev pub Apart : List PageEntry → Type 0
Apart ps = (x : ℕ) → users ps x ≤ 1

-- N is a number of places, and the pages are at most K
abbrev pub Sized : Index → Type 0
Sized i = GoodPlaces i.places × (length i.pages ≤ limit i)

-- there is an item, the end, and there are no more than those of a full store
abbrev pub Counted : Index → Type 0
Counted i = (0 < i.numbers.items_now) × (i.numbers.items_now ≤ store_limit + 1) × (i.numbers.items_then ≤ store_limit + 1)

-- a mark counts no more items than there are
abbrev pub Bounded : Index → Type 0
Bounded i = (i.numbers.marks.head ≤ i.numbers.items_now) × (i.numbers.marks.tail ≤ i.numbers.items_now)

-- after a settling no item is touched
abbrev pub Untouched : Index → Type 0
Untouched i = i.phase ≡ Settled → (i.numbers.items_then ≡ i.numbers.items_now) × (i.numbers.marks.head ≡ i.numbers.items_now) × (i.numbers.marks.tail ≡ i.numbers.items_now)

-- until then both marks together count no more items than there were
abbrev pub Touched : Index → Type 0
Touched i = (i.phase ≢ Settled) → i.numbers.marks.head + i.numbers.marks.tail ≤ i.numbers.items_then

-- the pages under way begin at the first item of the restart page, and end before the next item, which is not behind the end
abbrev pub Between : Index → Type 0
Between i = ((way_of i.phase).start ≡ held (take (way_of i.phase).restart i.pages)) × ((way_of i.phase).next ≡ (way_of i.phase).start + held i.made) × ((way_of i.phase).next < i.numbers.items_now)

-- with the pages in front of the restart page they are at most K
abbrev pub Numbered : Index → Type 0
Numbered i = ((way_of i.phase).restart ≤ length i.pages) × (length i.made ≡ (way_of i.phase).made) × ((way_of i.phase).restart + (way_of i.phase).made ≤ limit i)

-- the restart page is the one that holds the last untouched item in front, item head - 1; page 0 if there is none
abbrev pub Restart : Index → Way → Type 0
Restart i way = (way.start ≤ i.numbers.marks.head - 1) × (i.numbers.marks.head ≤ held (take (suc way.restart) i.pages))

abbrev pub Restarted : Index → Type 0
Restarted i = (way : Way) → i.phase ≡ Resumed way → Restart i way

-- the state before the next item lies at one of the places, unless it is the start state
abbrev pub Kept : Index → Type 0
Kept i = (x : ℕ) → (way_of i.phase).kept ≡ Some x → x < i.places

pub record Sound (i : Index) : Type 0 where
  pub sized : Sized i
  pub follow : FollowFrom 0 i.pages
  pub whole : held i.pages ≡ i.numbers.items_then
  pub filled : Filled (i.pages ++ i.made)
  pub few : FewRows (i.pages ++ i.made)
  pub within : Within i.places (i.pages ++ i.made)
  pub apart : Apart (i.pages ++ i.made)
  pub counted : Counted i
  pub bounded : Bounded i
  pub untouched : Untouched i
  pub touched : Touched i
  pub between : Between i
  pub numbered : Numbered i
  pub onward : FollowFrom (way_of i.phase).start i.made
  pub restarted : Restarted i
  pub kept : Kept i

-- a table has room for its pages
abbrev pub Stored : PageTable → Type 0
Stored t = (t.count ≤ length t.pages) × ((way_of t.phase).made ≤ length t.made)
