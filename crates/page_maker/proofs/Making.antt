-- From a filled page to what the rule has from a position on. Assumes nothing.
use Rattle.std.proofs.Common.{◌≡◌, ℕ, suc, ◌+◌, ◌-◌, ◌<◌, ◌≤◌, List, [], ◌∷◌, length, drop, Some, None, Option, sym, refl, ap, ◌∙◌, subst, arith, le-leb}
use borrow.Author.Tests.{lt-leb}
use Rattle.line.specs.Lines.{Line}
use Rattle.engine.specs.Model.{Model}
use Rattle.page_rule.specs.Filling.{Filled, Filled.last, Filled.full, fill}
use Rattle.page_rule.specs.Formatting.{Ending.line_refused, no_page, onto, page, pages_from}
use Rattle.page_rule.proofs.Views.{from_last, from_full, from_stuck}
use Rattle.page_maker.specs.declared.fault.LineFault.{LineFault}
use Rattle.page_maker.specs.declared.made.Position.{Position}
use Rattle.page_maker.specs.declared.made.Filling.{Filling}
use Rattle.page_maker.specs.Promise.{ahead, PageMade, LineRefused, Lies, Stops, FilledTo}

module _ {M S : Type 0} (means : S → M) (e : Model M) (lines : List Line) (limit : ℕ) (at : Position S) where
  -- one page of those that may come
  one_of : at.page < limit → ahead means e lines limit at ≡ pages_from e (suc (limit - at.page - 1)) at.page at.first (means at.state) lines
  one_of h = let k : limit - at.page ≡ suc (limit - at.page - 1) = omega arith in ap (λ n. pages_from e n at.page at.first (means at.state) lines) k

  pub made_last : (items rows : ℕ) (after : List ℕ) → at.page < limit → length lines < at.first + items → Lies (fill e (drop at.first lines) (means at.state) 0 []) last items rows after
      → PageMade means e lines limit at (record { items = items; rows = rows; steps = items; next = None }) after
  made_last items rows after h n l = record {
    begun = h;
    rows = l.set;
    rule = one_of h ∙ from_last e lines (limit - at.page - 1) at.page at.first items (means at.state) l.set l.rule;
    next = tt;
    counts = l.counts;
    steps = simp (lt-leb (at.first + items) (length lines) n) (omega arith);
    body = l.holds;
  }

  pub made_full : (items rows : ℕ) (s : S) (after : List ℕ) → at.page < limit → at.first + items ≤ length lines → Lies (fill e (drop at.first lines) (means at.state) 0 []) (λ n rs. full n rs (means s)) items rows after
      → PageMade means e lines limit at (record { items = items; rows = rows; steps = items + 1; next = Some (record { page = at.page + 1; first = at.first + items; state = s }) }) after
  made_full items rows s after h n l =
      let k : limit - at.page - 1 ≡ limit - (at.page + 1) = omega arith in
      let q : suc at.page ≡ at.page + 1 = omega arith in
      record {
        begun = h;
        rows = l.set;
        rule = one_of h
            ∙ from_full e lines (limit - at.page - 1) at.page at.first items (means at.state) (means s) l.set l.rule
            ∙ ap (λ f. onto (page at.first items l.set (means at.state) ∷ []) f) (ap (λ m. pages_from e m (suc at.page) (at.first + items) (means s) lines) k ∙ ap (λ p. pages_from e (limit - (at.page + 1)) p (at.first + items) (means s) lines) q);
        next = (refl, refl);
        counts = l.counts;
        steps = simp (le-leb (at.first + items) (length lines) n);
        body = l.holds;
      }

  pub made_refused : (fault : LineFault) (before after : List ℕ) → at.page < limit → Stops (fill e (drop at.first lines) (means at.state) 0 []) fault at.first at.page before after → LineRefused means e lines limit at fault before after
  made_refused fault before after h s = record {
    begun = h;
    items = s.items;
    rows = s.set;
    fills = s.rule;
    line = s.line;
    page = s.page;
    rule = one_of h
        ∙ from_stuck e lines (limit - at.page - 1) at.page at.first s.items fault.fault.cause fault.fault.column (means at.state) s.set s.rule
        ∙ (λ i. no_page (line_refused fault.fault.cause fault.fault.column (sym s.line i) (sym s.page i)));
    body = s.holds;
  }

-- a page that was filled, by whether the end is on it
module _ {M S : Type 0} (means : S → M) (n : ℕ) (f : Filled M) (first : ℕ) (filling : Filling S) (after : List ℕ) where
  pub at_last : (next : Option S) → next ≡ None → FilledTo means n f first filling next after → FilledTo means n f first filling None after
  at_last next q p = subst (λ o. FilledTo means n f first filling o after) q p

  pub at_full : (next : Option S) (s : S) → next ≡ Some s → FilledTo means n f first filling next after → FilledTo means n f first filling (Some s) after
  at_full next s q p = subst (λ o. FilledTo means n f first filling o after) q p
