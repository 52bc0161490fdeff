-- The pages after a settling. Assumes nothing.
use Rattle.std.specs.Prelude.{ℕ, List, [], ◌++◌, map, take, drop}
use Rattle.page_rule.specs.Moving.{moved_item}
use Rattle.page_rule.specs.Marks.{all_untouched}
use Rattle.page_table.specs.declared.entry.PageEntry.{PageEntry}
use Rattle.page_table.specs.declared.state.Phase.TheVariants.{Settled}
use Rattle.page_table.specs.Indexes.{Index, way_of}

-- a page of which only the first item moves, as what was item `from` and is item `to`
abbrev pub moved_entry : ℕ → ℕ → PageEntry → PageEntry
moved_entry from to p = record { first = moved_item from to p.first; items = p.items; rows = p.rows; place = p.place }

-- the pages in front of the restart page, those that were made, and those from page number `over` on, whose first items move with the end
abbrev pub settled_pages : Index → List PageEntry → ℕ → List PageEntry
settled_pages i made over =
    take (way_of i.phase).restart i.pages ++ (made ++ map (moved_entry i.numbers.items_then i.numbers.items_now) (drop over i.pages))

-- they stand, no item is touched, and nothing is under way
abbrev pub settled : Index → List PageEntry → ℕ → Index
settled i made over = record {
  places = i.places;
  pages = settled_pages i made over;
  made = [];
  numbers = record { items_then = i.numbers.items_now; items_now = i.numbers.items_now; marks = all_untouched i.numbers.items_now };
  phase = Settled;
}
