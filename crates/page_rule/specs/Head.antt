-- What lies behind does not matter to what was set before. Assumes nothing.
use Rattle.std.specs.Prelude.{◌≡◌, ℕ, ◌-◌, ◌<◌, List, take, Some}
use Rattle.std.specs.List.{slice_get}
use Rattle.line.specs.Lines.{Line}
use Rattle.engine.specs.Model.{Model}
use Rattle.page_rule.specs.Pages.{Page}
use Rattle.page_rule.specs.Formatting.{onto, pages_from, formatted}

-- the formattings of an old text and of the text now are the same up to where page number q of the old one begins
pub record SameUpTo {M : Type 0} (e : Model M) (limit : ℕ) (old now : List Line) (q : ℕ) (kept : Page M) : Type 0 where
  -- the pages in front of it are the same
  pub front : take q (formatted e limit now).pages ≡ take q (formatted e limit old).pages
  -- page number q now, if there is one, begins at its first item and with its checkpoint
  pub begins : (p : Page M) → slice_get (formatted e limit now).pages q ≡ Some p → (p.first ≡ kept.first) × (p.checkpoint ≡ kept.checkpoint)
  -- so the formatting now is those pages, and what the rule gives from that item and checkpoint on
  pub goes_on : formatted e limit now ≡ onto (take q (formatted e limit old).pages) (pages_from e (limit - q) q kept.first kept.checkpoint now)

-- it is so where the first h items are the same, and the page's first item is one of them: as of the page that holds item h - 1
abbrev pub HeadLaw : {M : Type 0} → Model M → Type 0
HeadLaw {M} e = (limit h : ℕ) (old now : List Line) (q : ℕ) (kept : Page M)
    → take h now ≡ take h old
    → slice_get (formatted e limit old).pages q ≡ Some kept
    → kept.first < h
    → SameUpTo e limit old now q kept
