-- What lies behind does not matter to what was set before. Assumes nothing.
use Rattle.std.proofs.Common.{◌≡◌, ℕ, zero, suc, ◌+◌, ◌-◌, ◌<◌, ◌≤◌, List, [], ◌∷◌, ◌++◌, take, drop, Some, sym, refl, ap, ◌∙◌, subst, suc-add, zero-add, arith}
use Rattle.std.specs.List.{slice_get}
use Rattle.line.specs.Lines.{Line}
use Rattle.engine.specs.Model.{Row, Model}
use Rattle.page_rule.specs.Pages.{Page}
use Rattle.page_rule.specs.Filling.{Filled, Filled.last, Filled.full, Filled.stuck, fill}
use Rattle.page_rule.specs.Formatting.{Formatted, onto, page, pages_from, formatted}
use Rattle.page_rule.specs.Head.{HeadLaw}
use Rattle.page_rule.proofs.Views.{Fills, fills, fill_is, Paged, paged, from_full}

-- the first h items are the same, item by item
abbrev Same : ℕ → List Line → List Line → Type 0
Same zero xs ys = Unit {0}
Same (suc h) [] [] = Unit {0}
Same (suc h) [] (y ∷ ys) = ⊥
Same (suc h) (x ∷ xs) [] = ⊥
Same (suc h) (x ∷ xs) (y ∷ ys) = (x ≡ y) × Same h xs ys

same_all : (h : ℕ) (xs : List Line) → Same h xs xs
same_all zero xs = tt
same_all (suc h) [] = tt
same_all (suc h) (x ∷ xs) = (refl, same_all h xs)

-- where the lines end before that, the end is an item of both
same_lines : (h : ℕ) (xs ys : List Line) → take h xs ≡ take h ys → Same h xs ys
same_lines zero xs ys t = tt
same_lines (suc h) [] [] t = tt
same_lines (suc h) [] (y ∷ ys) t = cc
same_lines (suc h) (x ∷ xs) [] t = cc
same_lines (suc h) (x ∷ xs) (y ∷ ys) t = (cc, same_lines h xs ys (cc))

same_drop : (j h : ℕ) (xs ys : List Line) → Same (j + h) xs ys → Same h (drop j xs) (drop j ys)
same_drop zero h xs ys d = rw zero-add at d
same_drop (suc j) h [] [] d = same_all h []
same_drop (suc j) h [] (y ∷ ys) d = absurd (rw suc-add at d)
same_drop (suc j) h (x ∷ xs) [] d = absurd (rw suc-add at d)
same_drop (suc j) h (x ∷ xs) (y ∷ ys) d = let d' : Same (suc (j + h)) (x ∷ xs) (y ∷ ys) = rw suc-add at d in same_drop j h xs ys d'.1

-- how many items a filling looks at
abbrev reach : {M : Type 0} → Filled M → ℕ
reach (last items rows) = items
reach (full items rows t) = suc items
reach (stuck items rows cause column) = suc items

module _ {M : Type 0} (e : Model M) where
  reach_more : {ls : List Line} {s : M} {i : ℕ} {rows : List Row} {F : Filled M} → Fills e ls s i rows F → i < reach F
  reach_more (Fills.end_fits h) = omega arith
  reach_more (Fills.end_over h) = omega arith
  reach_more (Fills.line_fits g h r) = let m = reach_more r in omega arith
  reach_more (Fills.line_over g h) = omega arith
  reach_more (Fills.line_stuck g) = omega arith

  -- a filling depends on the items that it looks at alone
  fills_same : (n : ℕ) {ls : List Line} {s : M} {i : ℕ} {rows : List Row} {F : Filled M} → Fills e ls s i rows F → (now : List Line) → Same n now ls → reach F ≤ i + n → Fills e now s i rows F
  fills_same zero r now d b = let m = reach_more r in absurd (omega arith)
  fills_same (suc n) (Fills.end_fits h) [] d b = Fills.end_fits h
  fills_same (suc n) (Fills.end_fits h) (x ∷ xs) d b = absurd d
  fills_same (suc n) (Fills.end_over h) [] d b = Fills.end_over h
  fills_same (suc n) (Fills.end_over h) (x ∷ xs) d b = absurd d
  fills_same (suc n) (Fills.line_fits g h r) [] d b = absurd d
  fills_same (suc n) (Fills.line_fits {s = s} g h r) (x ∷ xs) d b = Fills.line_fits (ap (e.step s) d.0 ∙ g) h (fills_same n r xs d.1 (omega arith))
  fills_same (suc n) (Fills.line_over g h) [] d b = absurd d
  fills_same (suc n) (Fills.line_over {s = s} g h) (x ∷ xs) d b = Fills.line_over (ap (e.step s) d.0 ∙ g) h
  fills_same (suc n) (Fills.line_stuck g) [] d b = absurd d
  fills_same (suc n) (Fills.line_stuck {s = s} g) (x ∷ xs) d b = Fills.line_stuck (ap (e.step s) d.0 ∙ g)

  fill_same : (old now : List Line) (s : M) (F : Filled M) (h : ℕ) → fill e old s 0 [] ≡ F → Same h now old → reach F ≤ h → fill e now s 0 [] ≡ F
  fill_same old now s F h is d b = fill_is e (fills_same h (subst (Fills e old s 0 []) is (fills e old s 0 [])) now d (omega arith))

  same_from : (lines : List Line) (a b c : ℕ) (d : M) (a' b' c' : ℕ) (d' : M) → a ≡ a' → b ≡ b' → c ≡ c' → d ≡ d' → pages_from e a b c d lines ≡ pages_from e a' b' c' d' lines
  same_from lines a b c d a' b' c' d' p q r s = λ i. pages_from e (p i) (q i) (r i) (s i) lines

  -- no page begins before the item that the pages are from
  firsts : {old : List Line} {more q j : ℕ} {s : M} {f : Formatted M} → Paged e old more q j s f → (k : ℕ) (p : Page M) → slice_get f.pages k ≡ Some p → j ≤ p.first
  firsts Paged.over k p g = cc
  firsts (Paged.at_last {j = j} h) zero p g = let z : j ≡ p.first = cc in omega arith
  firsts (Paged.at_last h) (suc k) p g = cc
  firsts (Paged.at_full {j = j} h r) zero p g = let z : j ≡ p.first = cc in omega arith
  firsts (Paged.at_full h r) (suc k) p g = let z = firsts r k p g in omega arith
  firsts (Paged.at_stuck h) k p g = cc

  module _ (old now : List Line) (h : ℕ) (same : Same h now old) where
    head_from : {more q j : ℕ} {s : M} {f : Formatted M} → Paged e old more q j s f → (k : ℕ) (p : Page M) → slice_get f.pages k ≡ Some p → p.first < h
        → pages_from e more q j s now ≡ onto (take k f.pages) (pages_from e (more - k) (q + k) p.first p.checkpoint now)
    head_from Paged.over k p g b = cc
    head_from (Paged.at_last {more = more} {q = q} {j = j} {s = s} is) zero p g b = same_from now (suc more) q j s (suc more - 0) (q + 0) p.first p.checkpoint (omega arith) (omega arith) (cc) (cc)
    head_from (Paged.at_last is) (suc k) p g b = cc
    head_from (Paged.at_full {more = more} {q = q} {j = j} {s = s} is r) zero p g b = same_from now (suc more) q j s (suc more - 0) (q + 0) p.first p.checkpoint (omega arith) (omega arith) (cc) (cc)
    head_from (Paged.at_full {more = more} {q = q} {j = j} {items = items} {s = s} {t = t} {rows = rows} {f = f} is r) (suc k) p g b =
        let l = firsts r k p g in
        let to : h ≡ j + (h - j) = omega arith in
        let d = same_drop j (h - j) now old (subst (λ n. Same n now old) to same) in
        from_full e now more q j items s t rows (fill_same (drop j old) (drop j now) s (full items rows t) (h - j) is d (omega arith))
        ∙ ap (onto (page j items rows s ∷ [])) (head_from r k p g b
        ∙ ap (onto (take k f.pages)) (same_from now (more - k) (suc q + k) p.first p.checkpoint (suc more - suc k) (q + suc k) p.first p.checkpoint (omega arith) (omega arith) refl refl))
    head_from (Paged.at_stuck is) k p g b = cc

-- where page q stands, after the pages in front of it and some others
after_front : {M : Type 0} (ps more : List (Page M)) (q : ℕ) (p : Page M) → slice_get ps q ≡ Some p → (take q (take q ps ++ more) ≡ take q ps) × (slice_get (take q ps ++ more) q ≡ slice_get more 0)
after_front [] more q p g = cc
after_front (x ∷ ps) more zero p g = (refl, refl)
after_front (x ∷ ps) more (suc q) p g = let i = after_front ps more q p g in (ap (λ l. x ∷ l) i.0, i.1)

-- the first of the pages from an item and a state on begins there
first_page : {M : Type 0} (e : Model M) {lines : List Line} {more q j : ℕ} {s : M} {f : Formatted M} → Paged e lines more q j s f → (p : Page M) → slice_get f.pages 0 ≡ Some p → (p.first ≡ j) × (p.checkpoint ≡ s)
first_page e Paged.over p g = cc
first_page e (Paged.at_last h) p g = (cc, cc)
first_page e (Paged.at_full h r) p g = (cc, cc)
first_page e (Paged.at_stuck h) p g = cc

pub head_law : {M : Type 0} (e : Model M) → HeadLaw e
head_law {M} e limit h old now q kept same there b =
    let ps = (formatted e limit old).pages in
    let rest = pages_from e (limit - q) q kept.first kept.checkpoint now in
    let is : formatted e limit now ≡ onto (take q ps) rest =
    head_from e old now h (same_lines h now old same) (paged e old limit 0 0 e.start) q kept there b
    ∙ ap (onto (take q ps)) (same_from e now (limit - q) (0 + q) kept.first kept.checkpoint (limit - q) q kept.first kept.checkpoint refl (omega arith) refl refl) in
    let split = after_front ps rest.pages q kept there in
    record {
      front = ap (λ f. take q f.pages) is ∙ split.0;
      begins = λ p g. first_page e (paged e now (limit - q) q kept.first kept.checkpoint) p (sym split.1 ∙ sym (ap (λ f. slice_get f.pages q) is) ∙ g);
      goes_on = is;
    }
