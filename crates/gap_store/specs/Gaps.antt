-- Lines around a gap: those before it packed at the front of the bytes, those behind it packed at their end. Assumes nothing.
use Rattle.std.specs.Prelude.{◌≡◌, ℕ, ◌+◌, ◌<◌, ◌≤◌, true, List, [], ◌++◌, length, take, drop, slice_index_or}
use Rattle.line.specs.Lines.{Line, is_line}
use Rattle.gap_store.specs.Records.{packed, unpacked}
use Rattle.gap_store.specs.declared.gap.Gap.{Gap}

-- the most bytes of a store
abbrev pub gap_limit : ℕ
gap_limit = 524288

abbrev pub gap_lines : Gap → List ℕ → List Line
gap_lines g bytes = unpacked g.before (take g.front bytes) ++ unpacked g.behind (drop g.back bytes)

-- each of the lines is a line
abbrev pub Held : Gap → List ℕ → Type 0
Held g bytes = (i : ℕ) → i < g.before + g.behind → is_line (slice_index_or (gap_lines g bytes) i []) ≡ true

-- the bytes hold these lines around the gap
pub record Holds (ls : List Line) (g : Gap) (bytes : List ℕ) : Type 0 where
  pub apart : g.front ≤ g.back
  pub within : g.back ≤ length bytes
  pub counted : g.before + g.behind ≡ length ls
  pub fore : take g.front bytes ≡ packed (take g.before ls)
  pub aft : drop g.back bytes ≡ packed (drop g.before ls)

-- the bytes hold their lines and nothing else around the gap
abbrev pub Sound : Gap → List ℕ → Type 0
Sound g bytes = Holds (gap_lines g bytes) g bytes
