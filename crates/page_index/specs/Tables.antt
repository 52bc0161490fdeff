-- Pages that are taken over. Assumes nothing.
use Rattle.std.specs.Prelude.{◌+◌, ◌^◌, ◌<◌, ◌≤◌, List, map}
use Rattle.std.specs.List.{All}
use Rattle.page_table.specs.declared.entry.PageEntry.{PageEntry}
use Rattle.page_table.specs.declared.state.Numbers.{Numbers}
use Rattle.page_table.specs.Settled.{moved_entry}

-- pages as the end has moved
abbrev pub taken_over : Numbers → List PageEntry → List PageEntry
taken_over n = map (moved_entry n.items_then n.items_now)

-- their first items can move so far
abbrev pub Movable : Numbers → List PageEntry → Type 0
Movable n ps = All (λ p. (n.items_then ≤ p.first + n.items_now) × (p.first + n.items_now < 2 ^ 64)) ps
