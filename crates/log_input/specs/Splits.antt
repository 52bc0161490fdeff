-- The lines of an input: a line feed ends a line, and bytes behind the last line feed are a line too. Assumes nothing.
use Rattle.std.specs.Prelude.{◌≡◌, ℕ, cond, List, [], ◌∷◌, ◌++◌, ◌==◌, ◌≢◌}
use Rattle.std.specs.List.{AllByRecursion}

abbrev pub line_feed : ℕ
line_feed = 10

-- a byte in front of the first line
abbrev pub in_front : ℕ → List (List ℕ) → List (List ℕ)
in_front b [] = (b ∷ []) ∷ []
in_front b (l ∷ ls) = (b ∷ l) ∷ ls

abbrev pub split : List ℕ → List (List ℕ)
split [] = []
split (b ∷ bs) = cond (b == line_feed) ([] ∷ split bs) (in_front b (split bs))

-- each line with a line feed behind it
abbrev pub with_feeds : List (List ℕ) → List ℕ
with_feeds [] = []
with_feeds (l ∷ ls) = l ++ (line_feed ∷ with_feeds ls)

-- the input, with a line feed at its end
abbrev pub ended : List ℕ → List ℕ
ended [] = []
ended (b ∷ []) = cond (b == line_feed) (b ∷ []) (b ∷ line_feed ∷ [])
ended (b ∷ c ∷ bs) = b ∷ ended (c ∷ bs)

-- no line holds a line feed
abbrev pub Unbroken : List ℕ → Type 0
Unbroken = AllByRecursion (λ b. b ≢ line_feed)

-- the lines with their line feeds give back the input, with a line feed at its end if it had none; no line holds a line feed, and
-- no other lines do this
pub record SplitLaw : Type 0 where
  pub back : (input : List ℕ) → with_feeds (split input) ≡ ended input
  pub unbroken : (input : List ℕ) → AllByRecursion Unbroken (split input)
  pub only : (input : List ℕ) (ls : List (List ℕ)) → AllByRecursion Unbroken ls → with_feeds ls ≡ ended input → ls ≡ split input
