-- From the same state the same lines give the same pages, wherever they stand. Assumes nothing.
use Rattle.std.specs.Prelude.{◌≡◌, ℕ, zero, suc, ◌+◌, ◌-◌, ◌≤◌, List, [], ◌∷◌, map, length, take, drop, Some}
use Rattle.std.specs.List.{slice_get}
use Rattle.line.specs.Lines.{Line}
use Rattle.engine.specs.Model.{Model}
use Rattle.page_rule.specs.Pages.{Page}
use Rattle.page_rule.specs.Formatting.{Ending.complete, Ending.too_many_pages, Formatted, no_page, onto, pages_from, formatted}
use Rattle.page_rule.specs.Moving.{Moves, moved_item, moved}

-- known pages up to the end, one by one: how many more there may be, and the number of the first of them
abbrev pub replayed : {M : Type 0} → ℕ → ℕ → List (Page M) → Formatted M
replayed more q [] = no_page complete
replayed zero q (p ∷ ps) = no_page (too_many_pages p.first q)
replayed (suc more) q (p ∷ ps) = onto (p ∷ []) (replayed more (suc q) ps)

-- a formatting from page number q on has these pages, moved
pub record SamePages {M : Type 0} (limit q from to : ℕ) (ps : List (Page M)) (f : Formatted M) : Type 0 where
  -- in one equation
  pub replays : f ≡ replayed (limit - q) q (map (moved from to) ps)
  -- it has all of them, if they are not too many
  pub whole : q + length ps ≤ limit → f ≡ record { pages = map (moved from to) ps; ending = complete }
  -- it has as many as there may be, if one of them would have the limit as its number: the refusal tells its first item, moved
  pub cut : (p : Page M) → slice_get ps (limit - q) ≡ Some p
      → f ≡ record { pages = map (moved from to) (take (limit - q) ps); ending = too_many_pages (moved_item from to p.first) limit }

-- an old item i and an item j, each with what the state before it means: i has moved to j, and both mean the same
pub record Alike {M : Type 0} (from to i j : ℕ) (s t : M) : Type 0 where
  pub level : Moves from to i j
  pub same : s ≡ t

pub record TailLaw {M : Type 0} (e : Model M) : Type 0 where
  -- page number q and those behind it, from item j on, are the pages from an old item i on, if the two are alike, the lines from both
  -- on are the same, and the old pages from i on, of which the first had number r and `more` were allowed, were complete
  pub from_item : (limit q j more r i from to : ℕ) (s t : M) (old now : List Line)
      → q ≤ limit
      → Alike from to i j s t
      → drop j now ≡ drop i old
      → (pages_from e more r i s old).ending ≡ complete
      → SamePages limit q from to (pages_from e more r i s old).pages (pages_from e (limit - q) q j t now)
  -- so they are old page number k and those behind it, if that page began at an item that is alike, with its checkpoint
  pub from_page : (limit q j k from to : ℕ) (t : M) (old now : List Line) (p : Page M)
      → q ≤ limit
      → (formatted e limit old).ending ≡ complete
      → slice_get (formatted e limit old).pages k ≡ Some p
      → Alike from to p.first j p.checkpoint t
      → drop j now ≡ drop p.first old
      → SamePages limit q from to (drop k (formatted e limit old).pages) (pages_from e (limit - q) q j t now)
