-- Where items lie after others came in front of them or went away. Assumes nothing.
use Rattle.std.specs.Prelude.{◌≡◌, ℕ, ◌+◌, ◌-◌, ◌^◌, ◌≤◌, Some, None, Option}
use Rattle.page_rule.specs.Pages.{Page}
use Rattle.page_rule.specs.Formatting.{page}

-- what was item i is item j, if it moves as far as what was item `from` and is item `to`
abbrev pub Moves : ℕ → ℕ → ℕ → ℕ → Type 0
Moves from to i j = i + to ≡ j + from

-- the item that it is then: `to` less `from` is added
abbrev pub moved_item : ℕ → ℕ → ℕ → ℕ
moved_item from to i = i + to - from

-- the same as an answer in 64 bits: none, if no number of 64 bits is that item
abbrev pub MovedGives : ℕ → ℕ → ℕ → Option ℕ → Type 0
MovedGives from to i (Some j) = Moves from to i j
MovedGives from to i None = (j : ℕ) → Moves from to i j → 2 ^ 64 ≤ j

-- a page of which only the first item moves
abbrev pub moved : {M : Type 0} → ℕ → ℕ → Page M → Page M
moved from to p = page (moved_item from to p.first) p.items p.rows p.checkpoint
