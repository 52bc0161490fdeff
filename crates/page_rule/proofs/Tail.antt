-- From the same state the same lines give the same pages. Assumes nothing.
use Rattle.std.proofs.Common.{◌≡◌, ℕ, zero, suc, ◌+◌, ◌-◌, ◌≤◌, List, [], ◌∷◌, map, length, take, drop, Some, sym, refl, ap, ◌∙◌, le_of_suc-le-suc, arith, drop-drop}
use mathlib.Core.Path.{subst⁻¹}
use Rattle.std.proofs.lemmas.List.{append_cancel_left, take-append-drop}
use Rattle.std.specs.List.{slice_get}
use Rattle.line.specs.Lines.{Line}
use Rattle.engine.specs.Model.{Model}
use Rattle.page_rule.specs.Pages.{Page}
use Rattle.page_rule.specs.Filling.{fill}
use Rattle.page_rule.specs.Formatting.{Ending.complete, Ending.too_many_pages, Formatted, no_page, onto, page, pages_from, formatted}
use Rattle.page_rule.specs.Moving.{Moves, moved_item, moved}
use Rattle.page_rule.specs.Tail.{replayed, SamePages, Alike, TailLaw}
use Rattle.page_rule.proofs.Views.{Paged, paged, from_last, from_full}
use Rattle.page_rule.proofs.Head.{head_law}

module _ {M : Type 0} (e : Model M) (old now : List Line) where
  replays : {more' r i : ℕ} {s : M} {f : Formatted M} → Paged e old more' r i s f → f.ending ≡ complete
      → (more q j from to : ℕ) → drop j now ≡ drop i old → Moves from to i j
      → pages_from e more q j s now ≡ replayed more q (map (moved from to) f.pages)
  replays Paged.over c more q j from to d m = cc
  replays (Paged.at_last h) c zero q j from to d m = ap (λ n. no_page (too_many_pages n q)) (omega arith)
  replays (Paged.at_last {items = items} {s = s} {rows = rows} h) c (suc more) q j from to d m =
      from_last e now more q j items s rows (ap (λ ls. fill e ls s 0 []) d ∙ h)
      ∙ ap (λ n. onto (page n items rows s ∷ []) (no_page complete)) (omega arith)
  replays (Paged.at_full h r) c zero q j from to d m = ap (λ n. no_page (too_many_pages n q)) (omega arith)
  replays (Paged.at_full {j = i} {items = items} {s = s} {t = t} {rows = rows} {f = f} h r) c (suc more) q j from to d m =
      from_full e now more q j items s t rows (ap (λ ls. fill e ls s 0 []) d ∙ h)
      ∙ ap (onto (page j items rows s ∷ [])) (replays r c more (suc q) (j + items) from to (sym (drop-drop items j now) ∙ ap (drop items) d ∙ drop-drop items i old) (omega arith))
      ∙ ap (λ n. onto (page n items rows s ∷ []) (replayed more (suc q) (map (moved from to) f.pages))) (omega arith)
  replays (Paged.at_stuck h) c more q j from to d m = cc

module _ {M : Type 0} (from to : ℕ) where
  replay_whole : (more q : ℕ) (ps : List (Page M)) → length ps ≤ more → replayed more q (map (moved from to) ps) ≡ record { pages = map (moved from to) ps; ending = complete }
  replay_whole more q [] h = refl
  replay_whole zero q (p ∷ ps) h = absurd (omega arith)
  replay_whole (suc more) q (p ∷ ps) h = ap (onto (moved from to p ∷ [])) (replay_whole more (suc q) ps (le_of_suc-le-suc h))

  replay_cut : (more q : ℕ) (ps : List (Page M)) (p : Page M) → slice_get ps more ≡ Some p
      → replayed more q (map (moved from to) ps) ≡ record { pages = map (moved from to) (take more ps); ending = too_many_pages (moved_item from to p.first) (q + more) }
  replay_cut more q [] p h = cc
  replay_cut zero q (x ∷ ps) p h =
      let same : x ≡ p = cc in
      let n : q ≡ q + 0 = omega arith in
      λ i. no_page (too_many_pages (moved_item from to (same i).first) (n i))
  replay_cut (suc more) q (x ∷ ps) p h =
      ap (onto (moved from to x ∷ [])) (replay_cut more (suc q) ps p h)
      ∙ ap (λ n. record { pages = moved from to x ∷ map (moved from to) (take more ps); ending = too_many_pages (moved_item from to p.first) n }) (omega arith)

from_item : {M : Type 0} (e : Model M) (limit q j more r i from to : ℕ) (s t : M) (old now : List Line)
    → q ≤ limit → Alike from to i j s t → drop j now ≡ drop i old → (pages_from e more r i s old).ending ≡ complete
    → SamePages limit q from to (pages_from e more r i s old).pages (pages_from e (limit - q) q j t now)
from_item e limit q j more r i from to s t old now l a d c =
    let ps = (pages_from e more r i s old).pages in
    let is =
    ap (λ m. pages_from e (limit - q) q j m now) (sym a.same)
    ∙ replays e old now (paged e old more r i s) c (limit - q) q j from to d a.level in
    let n : q + (limit - q) ≡ limit = omega arith in
    record {
      replays = is;
      whole = λ h. is ∙ replay_whole from to (limit - q) q ps (omega arith);
      cut = λ p h. is ∙ replay_cut from to (limit - q) q ps p h
          ∙ ap (λ n. record { pages = map (moved from to) (take (limit - q) ps); ending = too_many_pages (moved_item from to p.first) n }) n;
    }

-- the pages of a formatting from one of them on are what the rule gives from there on
from_page : {M : Type 0} (e : Model M) (limit q j k from to : ℕ) (t : M) (old now : List Line) (p : Page M)
    → q ≤ limit → (formatted e limit old).ending ≡ complete → slice_get (formatted e limit old).pages k ≡ Some p
    → Alike from to p.first j p.checkpoint t → drop j now ≡ drop p.first old
    → SamePages limit q from to (drop k (formatted e limit old).pages) (pages_from e (limit - q) q j t now)
from_page e limit q j k from to t old now p l c there a d =
    let ps = (formatted e limit old).pages in
    let later = pages_from e (limit - k) k p.first p.checkpoint old in
    let split = (head_law e limit (suc p.first) old old k p refl there (omega arith)).goes_on in
    let are : drop k ps ≡ later.pages =
    append_cancel_left (take k ps) (drop k ps) later.pages (take-append-drop k ps ∙ ap (λ f. f.pages) split) in
    let done : later.ending ≡ complete = sym (ap (λ f. f.ending) split) ∙ c in
    subst⁻¹ (λ ps. SamePages limit q from to ps (pages_from e (limit - q) q j t now)) are (from_item e limit q j (limit - k) k p.first from to p.checkpoint t old now l a d done)

pub tail_law : {M : Type 0} (e : Model M) → TailLaw e
tail_law e = record { from_item = from_item e; from_page = from_page e }
