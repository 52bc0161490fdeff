-- Tables that differ from one in the state of the session or in its numbers, and what an index whose state is known keeps.
use Rattle.std.proofs.Common.{◌≡◌, ℕ, ◌+◌, ◌<◌, List, length, set, sym, ap, subst}
use Rattle.std.proofs.lemmas.List.{take_more_set}
use Rattle.page_table.specs.declared.entry.PageEntry.{PageEntry}
use Rattle.page_table.specs.declared.state.Numbers.{Numbers}
use Rattle.page_table.specs.declared.state.Way.{Way}
use Rattle.page_table.specs.declared.state.Phase.{Phase}
use Rattle.page_table.specs.declared.state.Phase.TheVariants.{Resumed}
use Rattle.page_table.specs.declared.table.PageTable.{PageTable}
use Rattle.page_table.specs.Indexes.{index_of, way_of}
use Rattle.page_table.specs.Sound.{Stored, Sound}
use Rattle.page_table.specs.Changes.{in_phase, next_page, gone_on, added, Admits}
use Rattle.page_table.proofs.Changing.{sound_added}
use Rattle.page_index.specs.declared.index.PageIndex.{PageIndex}

-- the table in another state of the session
abbrev pub with_phase : PageTable → Phase → PageTable
with_phase t phase = record { places = t.places; count = t.count; pages = t.pages; made = t.made; numbers = t.numbers; phase = phase }

abbrev pub with_numbers : PageTable → Numbers → Phase → PageTable
with_numbers t numbers phase = record { places = t.places; count = t.count; pages = t.pages; made = t.made; numbers = numbers; phase = phase }

-- an index whose state is known
pub in_state : (x : PageIndex) (phase : Phase) → x.table.phase ≡ phase → Sound (index_of (with_phase x.table phase))
in_state x phase e = subst (λ (p : Phase). Sound (index_of (with_phase x.table p))) e x.sound

pub stored_in : (x : PageIndex) (phase : Phase) → x.table.phase ≡ phase → Stored (with_phase x.table phase)
stored_in x phase e = subst (λ (p : Phase). Stored (with_phase x.table p)) e x.stored

-- one page more under way
abbrev pub with_page : PageTable → Way → ℕ → ℕ → ℕ → PageTable
with_page t way items rows place =
    record { places = t.places; count = t.count; pages = t.pages; made = set t.made way.made (next_page way items rows place); numbers = t.numbers; phase = Resumed (gone_on way items) }

-- of a table in any state
module _ (x : PageIndex) (items rows place : ℕ) (room : (way_of x.table.phase).made < length x.table.made) where
  pub page_at : index_of (with_page x.table (way_of x.table.phase) items rows place) ≡ added (index_of x.table) (way_of x.table.phase) items rows place
  page_at =
      ap (λ (ms : List PageEntry). in_phase (index_of x.table) (Resumed (gone_on (way_of x.table.phase) items)) ms)
      (take_more_set x.table.made (way_of x.table.phase).made (next_page (way_of x.table.phase) items rows place) room)

-- and of one whose state is known
module _ (x : PageIndex) (way : Way) (resumed : x.table.phase ≡ Resumed way) (items rows place : ℕ) (room : way.made < length x.table.made) where
  pub page_is : index_of (with_page x.table way items rows place) ≡ added (index_of x.table) way items rows place
  page_is =
      let P : Way → Type 0 = λ w. w.made < length x.table.made → index_of (with_page x.table w items rows place) ≡ added (index_of x.table) w items rows place in
      subst P (ap way_of resumed) (page_at x items rows place) room

  pub sound_more : Admits (index_of x.table) way items rows place → way.next + items < x.table.numbers.items_now → Sound (index_of (with_page x.table way items rows place))
  sound_more may short = subst Sound (sym page_is) (sound_added (index_of x.table) way x.sound resumed items rows place may short)
