-- A page that is being made, item by item. Assumes nothing.
use Rattle.std.proofs.Common.{◌≡◌, ℕ, suc, ◌+◌, ◌-◌, ◌*◌, ◌<◌, ◌≤◌, max, List, [], ◌∷◌, ◌++◌, length, get_or, take, drop, replicate, sym, refl, ap, ◌∙◌, subst, add-one, arith, length-append, drop_of_length-le, drop-cons, le-leb}
use borrow.Author.Tests.{lt-leb}
use Rattle.std.proofs.lemmas.List.{take_at}
use Rattle.std.proofs.lemmas.Slice.{drop-append-drop}
use Rattle.line.specs.Lines.{Line}
use Rattle.engine.specs.Model.{Row, Stepped, Stepped.goes, Stepped.refuses, Model, step_rows}
use Rattle.engine.specs.Promise.{joined, fronted}
use Rattle.page_rule.specs.Filling.{Filled.last, Filled.full, Filled.stuck, stepped, fill}
use Rattle.page_rule.proofs.Views.{Fills, fills, fill_is}
use Rattle.page_maker.specs.declared.fault.LineFault.{LineFault}
use Rattle.page_maker.specs.Promise.{ItemOn, ItemOver, Lies, Stops}
use Rattle.page_maker.proofs.Rows.{joined_append}

-- `fill` by the step of its first item
module _ {M : Type 0} (e : Model M) (s t : M) (items : ℕ) (rows more : List Row) where
  fill_on : (l : Line) (ls : List Line) → e.step s l ≡ goes t more → length rows + length more ≤ 40 → fill e (l ∷ ls) s items rows ≡ fill e ls t (suc items) (rows ++ more)
  fill_on l ls g h = fill_is e (Fills.line_fits g (le-leb _ _ h) (fills e ls t (suc items) (rows ++ more)))

  fill_end : stepped e s [] ≡ goes t more → length rows + length more ≤ 40 → fill e [] s items rows ≡ last (suc items) (rows ++ more)
  fill_end g h =
      let k : e.close s ≡ more = cc in
      let b : length rows + length (e.close s) ≤ 40 = subst (λ (x : List Row). length rows + length x ≤ 40) (sym k) h in
      fill_is e (Fills.end_fits (le-leb _ _ b)) ∙ ap (λ x. last (suc items) (rows ++ x)) k

  fill_over : (ls : List Line) → stepped e s ls ≡ goes t more → 40 < length rows + length more → fill e ls s items rows ≡ full items rows s
  fill_over [] g h =
      let k : e.close s ≡ more = cc in
      let b : 40 < length rows + length (e.close s) = subst (λ (x : List Row). 40 < length rows + length x) (sym k) h in
      fill_is e (Fills.end_over (lt-leb _ _ b))
  fill_over (l ∷ ls) g h = fill_is e (Fills.line_over g (lt-leb _ _ h))

fill_refused : {M : Type 0} (e : Model M) (s : M) (items : ℕ) (rows : List Row) (ls : List Line) (cause column : ℕ) → stepped e s ls ≡ refuses cause column → fill e ls s items rows ≡ stuck items rows cause column
fill_refused e s items rows [] cause column g = let z : ◌≡◌ {A = ℕ} 0 1 = cc in absurd (omega arith)
fill_refused e s items rows (l ∷ ls) cause column g = fill_is e (Fills.line_stuck g)

-- the items that the page has so far, its rows and the state: what is still to do gives the page from its first item on
pub record Underway {M : Type 0} (e : Model M) (lines : List Line) (first : ℕ) (start : M) (before : List ℕ) (items rows : ℕ) (m : M) (bytes : List ℕ) : Type 0 where
  pub set : List Row
  pub rule : fill e (drop (first + items) lines) m items set ≡ fill e (drop first lines) start 0 []
  pub counts : rows ≡ length set
  pub few : rows ≤ 40
  pub each : rows ≤ items * step_rows
  pub size : length (joined set) ≡ rows * 72
  pub holds : bytes ≡ fronted set before
  pub within : first + items ≤ max first (length lines)

module _ {M : Type 0} (e : Model M) (lines : List Line) (first : ℕ) (start : M) (before : List ℕ) where
  pub begun : Underway e lines first start before 0 0 start before
  begun = let z : first + 0 ≡ first = omega arith in record {
    set = [];
    rule = ap (λ i. fill e (drop i lines) start 0 []) z;
    counts = refl;
    few = omega arith;
    each = omega arith;
    size = refl;
    holds = refl;
    within = omega arith;
  }

  module _ (items rows : ℕ) (m : M) (bytes : List ℕ) (u : Underway e lines first start before items rows m bytes) where
    -- what stands at the front of the body, and behind it
    front : take (rows * 72) bytes ≡ joined u.set
    front = ap (take (rows * 72)) u.holds ∙ take_at (joined u.set) (drop (length u.set * 72) before) (rows * 72) u.size

    rest : (n : ℕ) → rows * 72 ≤ n → drop n bytes ≡ drop n before
    rest n h =
        let k : length u.set * 72 ≡ rows * 72 = ap (λ i. i * 72) (sym u.counts) in
        ap (drop n) (u.holds ∙ ap (λ i. joined u.set ++ drop i before) k) ∙ drop-append-drop (rows * 72) before (joined u.set) n h u.size

    -- with the rows of one more item
    module _ (x : Stepped M) (t : M) (total : ℕ) (after : List ℕ) (o : ItemOn x t rows bytes total after) where
      all : List Row
      all = u.set ++ o.given

      counts_on : total ≡ length (u.set ++ o.given)
      counts_on = let a = u.counts in let b = o.counts in let c = length-append u.set o.given in omega arith

      size_on : length (joined (u.set ++ o.given)) ≡ total * 72
      size_on = ap length (joined_append u.set o.given) ∙ length-append (joined u.set) (joined o.given) ∙ (let a = u.size in let b = o.size in omega arith)

      holds_on : after ≡ fronted (u.set ++ o.given) before
      holds_on =
          o.holds
          ∙ ap (λ l. l ++ joined o.given ++ drop (total * 72) bytes) front
          ∙ ap (λ l. joined u.set ++ joined o.given ++ l) (rest (total * 72) (omega arith))
          ∙ ap (λ l. l ++ drop (total * 72) before) (sym (joined_append u.set o.given))
          ∙ ap (λ i. joined (u.set ++ o.given) ++ drop (i * 72) before) counts_on

      fits_on : length u.set + length o.given ≤ 40
      fits_on = let a = u.counts in let b = o.counts in let c = o.fits in omega arith

    pub on : (t : M) (total : ℕ) (after : List ℕ) → ItemOn (stepped e m (drop (first + items) lines)) t rows bytes total after → first + items < length lines
        → Underway e lines first start before (items + 1) total t after
    on t total after o h =
        let x = stepped e m (drop (first + items) lines) in
        let d = drop-cons lines (first + items) [] h in
        let g : e.step m (get_or lines (first + items) []) ≡ goes t o.given = ap (stepped e m) (sym d) ∙ o.step in
        let n : first + (items + 1) ≡ suc (first + items) = omega arith in
        record {
          set = u.set ++ o.given;
          rule = ap (λ i. fill e (drop i lines) t (items + 1) (u.set ++ o.given)) n
              ∙ ap (λ i. fill e (drop (suc (first + items)) lines) t i (u.set ++ o.given)) (add-one items)
              ∙ sym (fill_on e m t items u.set o.given (get_or lines (first + items) []) (drop (suc (first + items)) lines) g (fits_on x t total after o))
              ∙ ap (λ ls. fill e ls m items u.set) (sym d)
              ∙ u.rule;
          counts = counts_on x t total after o;
          few = o.fits;
          each = let a = u.each in let b = o.few in omega arith;
          size = size_on x t total after o;
          holds = holds_on x t total after o;
          within = omega arith;
        }

    -- the end is on the page
    pub on_last : (total : ℕ) (after done : List ℕ) → ItemOn (stepped e m (drop (first + items) lines)) m rows bytes total after → length lines ≤ first + items
        → done ≡ take (total * 72) after ++ replicate ((40 - total) * 72) 32
        → Lies (fill e (drop first lines) start 0 []) last (items + 1) total done
    on_last total after done o h y =
        let x = stepped e m (drop (first + items) lines) in
        let d = drop_of_length-le lines h in
        let g : stepped e m [] ≡ goes m o.given = ap (stepped e m) (sym d) ∙ o.step in
        let top : take (total * 72) after ≡ joined (u.set ++ o.given) = ap (take (total * 72)) (holds_on x m total after o) ∙ take_at (joined (u.set ++ o.given)) (drop (length (u.set ++ o.given) * 72) before) (total * 72) (size_on x m total after o) in
        record {
          set = u.set ++ o.given;
          rule = sym u.rule ∙ ap (λ ls. fill e ls m items u.set) d ∙ fill_end e m m items u.set o.given g (fits_on x m total after o) ∙ ap (λ i. last i (u.set ++ o.given)) (sym (add-one items));
          counts = counts_on x m total after o;
          holds = y ∙ ap (λ l. l ++ replicate ((40 - total) * 72) 32) top ∙ ap (λ i. joined (u.set ++ o.given) ++ replicate ((40 - i) * 72) 32) (counts_on x m total after o);
        }

    -- an item does not fit: it is on a later page, so the end is not on this one
    pub over : (after done : List ℕ) → ItemOver (stepped e m (drop (first + items) lines)) rows bytes after → done ≡ take (rows * 72) after ++ replicate ((40 - rows) * 72) 32
        → Lies (fill e (drop first lines) start 0 []) (λ n rs. full n rs m) items rows done
    over after done o y =
        let f : 40 < length u.set + length o.given = let a = u.counts in let c = o.over in omega arith in
        record {
          set = u.set;
          rule = sym u.rule ∙ fill_over e m o.next items u.set o.given (drop (first + items) lines) o.step f;
          counts = u.counts;
          holds = y ∙ ap (λ l. take (rows * 72) l ++ replicate ((40 - rows) * 72) 32) o.same ∙ ap (λ l. l ++ replicate ((40 - rows) * 72) 32) front ∙ ap (λ i. joined u.set ++ replicate ((40 - i) * 72) 32) u.counts;
        }

    -- a line is refused
    pub refused : (fault : LineFault) (number : ℕ) (after : List ℕ) → stepped e m (drop (first + items) lines) ≡ refuses fault.fault.cause fault.fault.column → fault.line ≡ first + items → fault.page ≡ number → after ≡ bytes → Stops (fill e (drop first lines) start 0 []) fault first number before after
    refused fault number after x l p a = record {
      items = items;
      set = u.set;
      rule = sym u.rule ∙ fill_refused e m items u.set (drop (first + items) lines) fault.fault.cause fault.fault.column x;
      line = l;
      page = p;
      holds = a ∙ u.holds;
    }
