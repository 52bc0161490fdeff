-- Places that no page has. Assumes nothing.
use Rattle.std.specs.Prelude.{◌≡◌, ℕ, ◌+◌, ◌<◌, ◌++◌}
use Rattle.page_table.specs.declared.state.Way.{Way}
use Rattle.page_table.specs.declared.state.Phase.TheVariants.{Resumed}
use Rattle.page_table.specs.Indexes.{Index, limit, users}

-- a free place: one of the N, and of no page, neither of those that stand nor of those under way
pub record Free (i : Index) (x : ℕ) : Type 0 where
  pub within : x < i.places
  pub unused : users (i.pages ++ i.made) x ≡ 0

-- a free place is needed for one more page, and for the state before it
pub record NeedsPlace (i : Index) : Type 0 where
  pub way : Way
  pub resumed : i.phase ≡ Resumed way
  pub below : way.restart + way.made < limit i
