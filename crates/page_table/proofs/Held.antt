-- The items of pages, and pages that follow on.
use Rattle.std.proofs.lemmas.List.Elements.{All-head, All-tail}
use Rattle.std.proofs.lemmas.List.Sums.{sum_by-append, sum_by-cons, sum_by-take-le, sum_by_more}
use Rattle.std.proofs.lemmas.Option.{get_or_from_slice_get}
use Rattle.std.proofs.Math.Seq.{take-append-add}
use Rattle.std.proofs.lemmas.Option.{slice_get_within}
use Rattle.std.proofs.Common.{add-one, ◌≡◌, ℕ, zero, suc, ◌+◌, ◌<◌, ◌≤◌, List, [], ◌∷◌, ◌++◌, length, take, Some, sym, refl, ap, ◌∙◌, inl, inr, zero-add, arith}
use Rattle.std.specs.List.{slice_get}
use Rattle.std.proofs.lemmas.List.{take-append-le, take-take}
use Rattle.page_table.specs.declared.entry.PageEntry.{PageEntry}
use Rattle.page_table.specs.Indexes.{held}
use Rattle.std.proofs.lemmas.Bool.{cases_lt}
use Rattle.page_table.specs.Sound.{FollowFrom, Filled}
use Rattle.page_table.specs.Changes.{Holds}
use Rattle.page_table.proofs.Elements.{nth_cases, nth_take}

pub held_append : (ps qs : List PageEntry) → held (ps ++ qs) ≡ held ps + held qs
held_append = sum_by-append (λ p. p.items)

pub held_mono : (a b : ℕ) (ps : List PageEntry) → a ≤ b → held (take a ps) ≤ held (take b ps)
held_mono a b ps h =
    let front = sum_by-take-le (λ (p : PageEntry). p.items) (take b ps) a in
    let same = take-take a b ps h in
    rw same at front

pub held_cons : (p : PageEntry) (ps : List PageEntry) → held (p ∷ ps) ≡ p.items + held ps
held_cons = sum_by-cons (λ p. p.items)

-- one page more
pub held_suc : (ps : List PageEntry) (k : ℕ) (p : PageEntry) → slice_get ps k ≡ Some p → held (take (suc k) ps) ≡ held (take k ps) + p.items
held_suc ps k p e =
    let within = slice_get_within ps k p e in
    let is = get_or_from_slice_get ps k p p e in
    let more = sum_by_more (λ (q : PageEntry). q.items) ps k p within in
    let next : held (take (suc k) ps) ≡ held (take (k + 1) ps) = ap (λ n. held (take n ps)) (sym (add-one k)) in
    next ∙ more ∙ ap (λ (q : PageEntry). held (take k ps) + q.items) is

-- each page has an item, so no pages hold fewer items than they are
pub held_count : (k : ℕ) (ps : List PageEntry) → Filled ps → k ≤ length ps → k ≤ held (take k ps)
held_count zero ps f h = omega arith
held_count (suc k) [] f h = absurd (omega arith)
held_count (suc k) (p ∷ ps) f h =
    let some : 0 < p.items = All-head (λ (q : PageEntry). 0 < q.items) p ps f in
    let r = held_count k ps (All-tail (λ (q : PageEntry). 0 < q.items) p ps f) (omega arith) in
    let c = held_cons p (take k ps) in
    omega arith

-- a page begins where the pages in front of it end, and ends where those with it end
pub first_is : (ps : List PageEntry) (k : ℕ) (p : PageEntry) → FollowFrom 0 ps → slice_get ps k ≡ Some p → p.first ≡ held (take k ps)
first_is ps k p f e = f k p e ∙ zero-add (held (take k ps))

pub end_is : (ps : List PageEntry) (k : ℕ) (p : PageEntry) → FollowFrom 0 ps → slice_get ps k ≡ Some p → p.first + p.items ≡ held (take (suc k) ps)
end_is ps k p f e = let h = first_is ps k p f e in let s = held_suc ps k p e in omega arith

pub follow_none : (j : ℕ) → FollowFrom j []
follow_none j k p e = cc

pub follow_one : (j : ℕ) (q : PageEntry) → q.first ≡ j → FollowFrom j (q ∷ [])
follow_one j q h zero p e = let s : q.first ≡ p.first = cc in omega arith
follow_one j q h (suc k) p e = cc

pub follow_append : (j : ℕ) (ps qs : List PageEntry) → FollowFrom j ps → FollowFrom (j + held ps) qs → FollowFrom j (ps ++ qs)
follow_append j ps qs f g k p e =
    elim (nth_cases ps qs k p e) [
      | inl h ↦
          (let l = slice_get_within ps k p h in
          rw (take-append-le k ps qs (omega arith)) (f k p h))
      | inr h ↦
          (let s : take k (ps ++ qs) ≡ ps ++ take h.0 qs = rw h.1 (take-append-add ps qs h.0) in
          let n : held (take k (ps ++ qs)) ≡ held ps + held (take h.0 qs) = ap held s ∙ held_append ps (take h.0 qs) in
          let r = g h.0 p h.2 in
          omega arith)
    ]

pub follow_take : (j n : ℕ) (ps : List PageEntry) → FollowFrom j ps → FollowFrom j (take n ps)
follow_take j n ps f k p e =
    let h = nth_take n ps k p e in
    let le : k ≤ n = omega (arith, h.0) in
    rw (take-take k n ps le) (f k p h.1)

-- some page holds each item that pages hold
pub holder : (j item : ℕ) (ps : List PageEntry) → FollowFrom j ps → j ≤ item → item < j + held ps → (k : ℕ) × (p : PageEntry) × Holds ps item k p
holder j item [] f low high = absurd (omega arith)
holder j item (p ∷ ps) f low high =
    let sum = held_cons p ps in
    let first : p.first ≡ j + 0 = f zero p refl in
    elim (cases_lt item (j + p.items)) [
      | inl h ↦ (zero, p, record { there = refl; from = omega arith; to = omega arith })
      | inr h ↦
          (let rest : FollowFrom (j + p.items) ps = λ k q e. let r = f (suc k) q e in let s = held_cons p (take k ps) in omega arith in
          let found = holder (j + p.items) item ps rest h (omega arith) in
          (suc found.0, found.1, record { there = found.2.there; from = found.2.from; to = found.2.to }))
    ]
