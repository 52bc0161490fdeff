-- How many items and steps the pages of a formatting have. Assumes nothing.
use Rattle.std.proofs.Common.{◌≡◌, ℕ, suc, ◌+◌, ◌≤◌, true, false, leb, List, [], length, drop, subst, arith, length-drop, le-leb}
use borrow.Author.Tests.{lt-leb}
use Rattle.line.specs.Lines.{Line}
use Rattle.engine.specs.Model.{Row, Model}
use Rattle.page_rule.specs.Filling.{Filled, Filled.last, Filled.full, Filled.stuck, fill}
use Rattle.page_rule.specs.Formatting.{Ending.complete, Formatted}
use Rattle.page_rule.specs.Steps.{all_steps, StepsLaw}
use Rattle.page_rule.proofs.Views.{Fills, fills, Paged, paged}

-- the items of a filled page: all that are left with the end, or no more than the lines that are left
abbrev pub Counts : {M : Type 0} → ℕ → ℕ → Filled M → Type 0
Counts left items (last n rows) = n ≡ items + left + 1
Counts left items (full n rows t) = n ≤ items + left
Counts left items (stuck n rows cause column) = Unit {0}

module _ {M : Type 0} (e : Model M) where
  counts_fill : {ls : List Line} {s : M} {i : ℕ} {rows : List Row} {F : Filled M} → Fills e ls s i rows F → Counts (length ls) i F
  counts_fill (Fills.end_fits h) = omega arith
  counts_fill (Fills.end_over h) = omega arith
  counts_fill (Fills.line_fits {ls = ls} {i = i} {F = F} g h r) = one_less (length ls) i F (counts_fill r)
    where
      one_less : (n j : ℕ) (F : Filled M) → Counts n (suc j) F → Counts (suc n) j F
      one_less n j (last k rows) c = omega arith
      one_less n j (full k rows t) c = omega arith
      one_less n j (stuck k rows cause column) c = tt
  counts_fill (Fills.line_over h g) = omega arith
  counts_fill (Fills.line_stuck g) = tt

  pub counted : (lines : List Line) (j : ℕ) (s : M) (F : Filled M) → fill e (drop j lines) s 0 [] ≡ F → Counts (length (drop j lines)) 0 F
  counted lines j s F h = subst (Counts (length (drop j lines)) 0) h (counts_fill (fills e (drop j lines) s 0 []))

  -- from item j on, where there is such an item
  steps_from : {lines : List Line} {more q j : ℕ} {s : M} {f : Formatted M} → Paged e lines more q j s f → j ≤ length lines → f.ending ≡ complete → j + all_steps (length lines) f.pages ≡ length lines + length f.pages
  steps_from Paged.over h c = cc
  steps_from {lines} (Paged.at_last {j = j} {items = items} {s = s} {rows = rows} f) h c =
      let n = counted lines j s (last items rows) f in
      let d = length-drop j lines in
      let b : leb (j + items) (length lines) ≡ false = lt-leb (j + items) (length lines) (omega arith) in
      simp b (omega arith)
  steps_from {lines} (Paged.at_full {j = j} {items = items} {s = s} {t = t} {rows = rows} f r) h c =
      let n = counted lines j s (full items rows t) f in
      let d = length-drop j lines in
      let w : j + items ≤ length lines = omega arith in
      let b : leb (j + items) (length lines) ≡ true = le-leb (j + items) (length lines) w in
      let i = steps_from r w c in
      simp b (omega arith)
  steps_from (Paged.at_stuck f) h c = cc

pub steps_law : {M : Type 0} (e : Model M) → StepsLaw e
steps_law e limit lines c = let i = steps_from e (paged e lines limit 0 0 e.start) (omega arith) c in omega arith
