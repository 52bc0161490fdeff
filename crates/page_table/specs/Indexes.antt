-- A page index, by what it means. Assumes nothing.
use Rattle.std.specs.List.{sum_by, count_by}
use Rattle.std.specs.Prelude.{ℕ, ◌/◌, List, take, None, ◌==◌}
use Rattle.page_table.specs.declared.entry.PageEntry.{PageEntry}
use Rattle.page_table.specs.declared.state.Numbers.{Numbers}
use Rattle.page_table.specs.declared.state.Way.{Way}
use Rattle.page_table.specs.declared.state.Phase.{Phase}
use Rattle.page_table.specs.declared.state.Phase.TheVariants.{Unfilled, Edited, Resumed, Settled}
use Rattle.page_table.specs.declared.table.PageTable.{PageTable}

-- N, the pages that stand, the pages under way, the session's numbers, and its state
pub record Index : Type 0 where
  pub places : ℕ
  pub pages : List PageEntry
  pub made : List PageEntry
  pub numbers : Numbers
  pub phase : Phase

-- the way before its first page, from page 0 and item 0 on
abbrev pub no_way : Way
no_way = record { restart = 0; start = 0; made = 0; next = 0; kept = None }

-- the way of a resumed session; no other session has gone any
abbrev pub way_of : Phase → Way
way_of Unfilled = no_way
way_of Edited = no_way
way_of (Resumed way) = way
way_of Settled = no_way

-- what a table means: pages are under way only while a session is resumed
abbrev pub index_of : PageTable → Index
index_of t =
    record { places = t.places; pages = take t.count t.pages; made = take (way_of t.phase).made t.made; numbers = t.numbers; phase = t.phase }

-- the page limit K
abbrev pub limit : Index → ℕ
limit i = i.places / 2

-- the items of some pages
abbrev pub held : List PageEntry → ℕ
held = sum_by (λ p. p.items)

-- how many of these pages have a place
abbrev pub users : List PageEntry → ℕ → ℕ
users ps x = count_by (λ p. p.place == x) ps
