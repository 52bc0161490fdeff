-- How `fill` and `pages_from` go, case by case. Assumes nothing.
use Rattle.std.proofs.Common.{◌≡◌, ℕ, zero, suc, ◌+◌, Bool, true, false, List, [], ◌∷◌, ◌++◌, drop, refl}
use mathlib.Core.Path.{subst⁻¹}
use Rattle.line.specs.Lines.{Line}
use Rattle.engine.specs.Model.{Row, Stepped, Stepped.goes, Stepped.refuses, Model}
use Rattle.page_rule.specs.Filling.{Filled, Filled.last, Filled.full, Filled.stuck, fits, fill}
use Rattle.page_rule.specs.Formatting.{Ending.complete, Ending.too_many_pages, Ending.line_refused, Formatted, no_page, onto, page, pages_from}

module _ {M : Type 0} (e : Model M) where
  pub data Fills : List Line → M → ℕ → List Row → Filled M → Type 0 where
    end_fits : {s : M} {i : ℕ} {rows : List Row} → fits rows (e.close s) ≡ true → Fills [] s i rows (last (suc i) (rows ++ e.close s))
    end_over : {s : M} {i : ℕ} {rows : List Row} → fits rows (e.close s) ≡ false → Fills [] s i rows (full i rows s)
    line_fits : {l : Line} {ls : List Line} {s t : M} {i : ℕ} {rows more : List Row} {F : Filled M} → e.step s l ≡ goes t more → fits rows more ≡ true → Fills ls t (suc i) (rows ++ more) F → Fills (l ∷ ls) s i rows F
    line_over : {l : Line} {ls : List Line} {s t : M} {i : ℕ} {rows more : List Row} → e.step s l ≡ goes t more → fits rows more ≡ false → Fills (l ∷ ls) s i rows (full i rows s)
    line_stuck : {l : Line} {ls : List Line} {s : M} {i cause column : ℕ} {rows : List Row} → e.step s l ≡ refuses cause column → Fills (l ∷ ls) s i rows (stuck i rows cause column)

  -- `fill` goes so
  pub fills : (ls : List Line) (s : M) (i : ℕ) (rows : List Row) → Fills ls s i rows (fill e ls s i rows)
  fills [] s i rows = go (fits rows (e.close s)) refl
    where
      go : (b : Bool) → fits rows (e.close s) ≡ b → Fills [] s i rows (fill e [] s i rows)
      go true h = rw (h, fill) (end_fits h)
      go false h = rw (h, fill) (end_over h)
  fills (l ∷ ls) s i rows = go (e.step s l) refl (λ t more. fills ls t (suc i) (rows ++ more))
    where
      go : (S : Stepped M) → e.step s l ≡ S → ((t : M) (more : List Row) → Fills ls t (suc i) (rows ++ more) (fill e ls t (suc i) (rows ++ more))) → Fills (l ∷ ls) s i rows (fill e (l ∷ ls) s i rows)
      go (refuses cause column) g ih = rw (g, fill) (line_stuck g)
      go (goes t more) g ih = more_of (fits rows more) refl
        where
          more_of : (b : Bool) → fits rows more ≡ b → Fills (l ∷ ls) s i rows (fill e (l ∷ ls) s i rows)
          more_of true h = rw (g, h, fill) (line_fits g h (ih t more))
          more_of false h = rw (g, h, fill) (line_over g h)

  -- and what goes so is `fill`
  pub fill_is : {ls : List Line} {s : M} {i : ℕ} {rows : List Row} {F : Filled M} → Fills ls s i rows F → fill e ls s i rows ≡ F
  fill_is (end_fits h) = rw (h, fill)
  fill_is (end_over h) = rw (h, fill)
  fill_is (line_fits g h r) = rw (g, h, fill) (fill_is r)
  fill_is (line_over g h) = rw (g, h, fill)
  fill_is (line_stuck g) = rw (g, fill)

  -- the pages from a page on
  pub data Paged (lines : List Line) : ℕ → ℕ → ℕ → M → Formatted M → Type 0 where
    over : {q j : ℕ} {s : M} → Paged lines zero q j s (no_page (too_many_pages j q))
    at_last : {more q j items : ℕ} {s : M} {rows : List Row} → fill e (drop j lines) s 0 [] ≡ last items rows → Paged lines (suc more) q j s (onto (page j items rows s ∷ []) (no_page complete))
    at_full : {more q j items : ℕ} {s t : M} {rows : List Row} {f : Formatted M} → fill e (drop j lines) s 0 [] ≡ full items rows t → Paged lines more (suc q) (j + items) t f → Paged lines (suc more) q j s (onto (page j items rows s ∷ []) f)
    at_stuck : {more q j items cause column : ℕ} {s : M} {rows : List Row} → fill e (drop j lines) s 0 [] ≡ stuck items rows cause column → Paged lines (suc more) q j s (no_page (line_refused cause column (j + items) q))

  pub from_last : (lines : List Line) (more q j items : ℕ) (s : M) (rows : List Row) → fill e (drop j lines) s 0 [] ≡ last items rows → pages_from e (suc more) q j s lines ≡ onto (page j items rows s ∷ []) (no_page complete)
  from_last lines more q j items s rows h = rw (h, pages_from)

  pub from_full : (lines : List Line) (more q j items : ℕ) (s t : M) (rows : List Row) → fill e (drop j lines) s 0 [] ≡ full items rows t → pages_from e (suc more) q j s lines ≡ onto (page j items rows s ∷ []) (pages_from e more (suc q) (j + items) t lines)
  from_full lines more q j items s t rows h = rw (h, pages_from)

  pub from_stuck : (lines : List Line) (more q j items cause column : ℕ) (s : M) (rows : List Row) → fill e (drop j lines) s 0 [] ≡ stuck items rows cause column → pages_from e (suc more) q j s lines ≡ no_page (line_refused cause column (j + items) q)
  from_stuck lines more q j items cause column s rows h = rw (h, pages_from)

  pub paged : (lines : List Line) (more q j : ℕ) (s : M) → Paged lines more q j s (pages_from e more q j s lines)
  paged lines zero q j s = over
  paged lines (suc more) q j s = go (fill e (drop j lines) s 0 []) refl (λ k t. paged lines more (suc q) (j + k) t)
    where
      go : (F : Filled M) → fill e (drop j lines) s 0 [] ≡ F → ((k : ℕ) (t : M) → Paged lines more (suc q) (j + k) t (pages_from e more (suc q) (j + k) t lines)) → Paged lines (suc more) q j s (pages_from e (suc more) q j s lines)
      go (last k rows) h ih = subst⁻¹ (Paged lines (suc more) q j s) (from_last lines more q j k s rows h) (at_last h)
      go (full k rows t) h ih = subst⁻¹ (Paged lines (suc more) q j s) (from_full lines more q j k s t rows h) (at_full h (ih k t))
      go (stuck k rows cause column) h ih = subst⁻¹ (Paged lines (suc more) q j s) (from_stuck lines more q j k cause column s rows h) (at_stuck h)
