-- The shape of a formatting, of an engine whose rows are few and wide. Assumes nothing.
use Rattle.std.proofs.Common.{◌≡◌, ℕ, suc, ◌+◌, ◌≤◌, true, List, [], ◌++◌, length, drop, refl, subst, arith, length-append, length-drop, leb-false, leb-true}
use Rattle.std.specs.List.{AllByRecursion}
use Rattle.std.proofs.ByRecursion.{All-append}
use Rattle.line.specs.Lines.{Line}
use Rattle.engine.specs.Model.{Row, row_width, step_rows, Model, Stepped.goes, Sized, SizedStep}
use Rattle.page_rule.specs.Pages.{page_rows}
use Rattle.page_rule.specs.Filling.{Filled, Filled.last, Filled.full, Filled.stuck, fits, fill}
use Rattle.page_rule.specs.Formatting.{Ending.complete, Formatted, page}
use Rattle.page_rule.specs.Shape.{WellFormed, Follows, all_items, ShapeLaw}
use Rattle.page_rule.proofs.Views.{Fills, fills, Paged, paged}
use Rattle.page_rule.proofs.Counting.{Counts, counted}
use Rattle.page_rule.proofs.Bodies.{body_size}

-- rows for which a body has room, each as wide as a row is
record Fitting (rows : List Row) : Type 0 where
  few : length rows ≤ page_rows
  wide : AllByRecursion (λ (r : Row). length r ≡ row_width) rows

added : (rows more : List Row) → Fitting rows → Sized more → fits rows more ≡ true → Fitting (rows ++ more)
added rows more f s h = record {
  few = simp length-append (leb-true _ _ h);
  wide = All-append (λ (r : Row). length r ≡ row_width) rows more f.wide s.wide;
}

-- a filled page with at least i items
abbrev FilledFrom : {M : Type 0} → ℕ → Filled M → Type 0
FilledFrom i (last items rows) = (i ≤ items) × Fitting rows
FilledFrom i (full items rows t) = (i ≤ items) × Fitting rows
FilledFrom i (stuck items rows cause column) = Unit {0}

from_less : {M : Type 0} (i : ℕ) (F : Filled M) → FilledFrom (suc i) F → FilledFrom i F
from_less i (last items rows) f = (omega arith, f.1)
from_less i (full items rows t) f = (omega arith, f.1)
from_less i (stuck items rows cause column) f = tt

module _ {M : Type 0} (e : Model M) (steps : (m : M) (l : Line) → SizedStep (e.step m l)) (closes : (m : M) → Sized (e.close m)) where
  sized : {s t : M} {l : Line} {more : List Row} → e.step s l ≡ goes t more → Sized more
  sized {s} {t} {l} {more} g = subst SizedStep g (steps s l)

  filled : {ls : List Line} {s : M} {i : ℕ} {rows : List Row} {F : Filled M} → Fills e ls s i rows F → Fitting rows → FilledFrom i F
  filled (Fills.end_fits {s = s} {rows = rows} h) f = (omega arith, added rows (e.close s) f (closes s) h)
  filled (Fills.end_over h) f = (omega arith, f)
  filled (Fills.line_fits {i = i} {rows = rows} {more = more} {F = F} g h r) f = from_less i F (filled r (added rows more f (sized g) h))
  filled (Fills.line_over g h) f = (omega arith, f)
  filled (Fills.line_stuck g) f = tt

  -- where there is room for the most rows of an item, the next item goes on the page
  gains : {ls : List Line} {s : M} {i : ℕ} {rows : List Row} {F : Filled M} → Fills e ls s i rows F → Fitting rows → length rows + step_rows ≤ page_rows → FilledFrom (suc i) F
  gains (Fills.end_fits {s = s} {rows = rows} h) f b = (omega arith, added rows (e.close s) f (closes s) h)
  gains (Fills.end_over {s = s} h) f b = let w = (closes s).few in let o = leb-false _ _ h in absurd (omega arith)
  gains (Fills.line_fits {rows = rows} {more = more} g h r) f b = filled r (added rows more f (sized g) h)
  gains (Fills.line_over g h) f b = let w = (sized g).few in let o = leb-false _ _ h in absurd (omega arith)
  gains (Fills.line_stuck g) f b = tt

  module _ (lines : List Line) where
    -- a page as the rule fills it from item j on
    laid : (j : ℕ) (s : M) (F : Filled M) → fill e (drop j lines) s 0 [] ≡ F → FilledFrom 1 F × Counts (length (drop j lines)) 0 F
    laid j s F h =
        (subst (FilledFrom 1) h (gains (fills e (drop j lines) s 0 []) (record { few = omega arith; wide = tt }) (omega arith)), counted e lines j s F h)

    well_formed : (j items : ℕ) (s : M) (rows : List Row) → (1 ≤ items) × Fitting rows → WellFormed j (page j items rows s)
    well_formed j items s rows w = record { begins = refl; filled = w.0; few = w.1.few; size = body_size rows w.1.few w.1.wide }

    follows : {more q j : ℕ} {s : M} {f : Formatted M} → Paged e lines more q j s f → Follows j f.pages
    follows Paged.over = tt
    follows (Paged.at_last {j = j} {items = items} {s = s} {rows = rows} h) = (well_formed j items s rows (laid j s _ h).0, tt)
    follows (Paged.at_full {j = j} {items = items} {s = s} {rows = rows} h r) = (well_formed j items s rows (laid j s _ h).0, follows r)
    follows (Paged.at_stuck h) = tt

    limited : {more q j : ℕ} {s : M} {f : Formatted M} → Paged e lines more q j s f → length f.pages ≤ more
    limited Paged.over = omega arith
    limited (Paged.at_last h) = omega arith
    limited (Paged.at_full h r) = let l = limited r in omega arith
    limited (Paged.at_stuck h) = omega arith

    -- as each page has an item, there are no more of them than items
    within : {more q j : ℕ} {s : M} {f : Formatted M} → Paged e lines more q j s f → j ≤ length lines → j + length f.pages ≤ length lines + 1
    within Paged.over b = omega arith
    within (Paged.at_last h) b = omega arith
    within (Paged.at_full {j = j} {s = s} h r) b =
        let w = laid j s _ h in
        let d = length-drop j lines in
        let l = within r (omega (arith, w.1)) in
        omega (arith, w.0.0)
    within (Paged.at_stuck h) b = omega arith

    sums : {more q j : ℕ} {s : M} {f : Formatted M} → Paged e lines more q j s f → j ≤ length lines → f.ending ≡ complete → j + all_items f.pages ≡ length lines + 1
    sums Paged.over b c = cc
    sums (Paged.at_last {j = j} {s = s} h) b c = let d = length-drop j lines in omega (arith, (laid j s _ h).1)
    sums (Paged.at_full {j = j} {s = s} h r) b c =
        let w = laid j s _ h in
        let d = length-drop j lines in
        let l = sums r (omega (arith, w.1)) c in
        omega arith
    sums (Paged.at_stuck h) b c = cc

  pub shape_law : ShapeLaw e
  shape_law limit lines =
      let p = paged e lines limit 0 0 e.start in
      let l = limited lines p in
      let w = within lines p (omega arith) in
      record {
        follows = follows lines p;
        few = omega arith;
        whole = λ c. let n = sums lines p (omega arith) c in omega arith;
      }
