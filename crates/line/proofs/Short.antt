-- The lines of a store are short. Assumes nothing.
use Rattle.std.proofs.Common.{◌≡◌, ℕ, ◌<◌, ◌≤◌, true, List, [], length, get_or}
use Rattle.std.proofs.ByRecursion.{All-get_or}
use Rattle.line.specs.Lines.{Line, is_line, line_limit}
use Rattle.line.specs.Stores.{Kept}
use Rattle.line.proofs.Edits.{line_short}

pub kept_short : (lines : List Line) (capacity : ℕ) (charge : ℕ → ℕ) (at : ℕ) → Kept lines capacity charge → at < length lines → length (get_or lines at []) ≤ line_limit
kept_short lines capacity charge at k h = line_short (get_or lines at []) (All-get_or (λ (l : Line). is_line l ≡ true) lines at [] h k.each)
