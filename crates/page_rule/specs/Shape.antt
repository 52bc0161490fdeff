-- The shape of a formatting: how its pages follow one another. Assumes nothing.
use Rattle.std.specs.Prelude.{◌≡◌, ℕ, ◌+◌, ◌<◌, ◌≤◌, min, List, [], ◌∷◌, length}
use Rattle.line.specs.Lines.{Line}
use Rattle.engine.specs.Model.{Model}
use Rattle.page_rule.specs.Pages.{Page, page_rows, body_bytes, body}
use Rattle.page_rule.specs.Formatting.{Ending.complete, Formatted, formatted}

-- what holds of a page that begins at item j
pub record WellFormed {M : Type 0} (j : ℕ) (p : Page M) : Type 0 where
  -- its first item is j
  pub begins : p.first ≡ j
  -- it has at least one item
  pub filled : 0 < p.items
  -- it has at most as many rows as a body
  pub few : length p.rows ≤ page_rows
  -- its body has as many bytes as every body
  pub size : length (body p.rows) ≡ body_bytes

-- pages that follow on from item j: each begins where the one before it ends
abbrev pub Follows : {M : Type 0} → ℕ → List (Page M) → Type 0
Follows j [] = Unit {0}
Follows j (p ∷ ps) = WellFormed j p × Follows (j + p.items) ps

-- the items of some pages
abbrev pub all_items : {M : Type 0} → List (Page M) → ℕ
all_items [] = 0
all_items (p ∷ ps) = p.items + all_items ps

-- the most pages of n lines: no more than the limit, and no more than there are items
abbrev pub most_pages : ℕ → ℕ → ℕ
most_pages limit n = min limit (n + 1)

pub record Shaped {M : Type 0} (limit : ℕ) (lines : List Line) (f : Formatted M) : Type 0 where
  -- the pages follow on from item 0 without a gap
  pub follows : Follows 0 f.pages
  -- there are at most as many as the limit, and as there are items
  pub few : length f.pages ≤ most_pages limit (length lines)
  -- the pages of a complete formatting have all items: the lines and the end
  pub whole : f.ending ≡ complete → all_items f.pages ≡ length lines + 1

-- every formatting has this shape
abbrev pub ShapeLaw : {M : Type 0} → Model M → Type 0
ShapeLaw e = (limit : ℕ) (lines : List Line) → Shaped limit lines (formatted e limit lines)
