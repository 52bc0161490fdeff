-- The places that pages have.
use Rattle.std.proofs.lemmas.List.Sums.{sum_by-append, sum_by-cons, sum_by-take-le, sum_by-take-drop}
use Rattle.std.proofs.lemmas.List.{take-take}
use Rattle.std.proofs.Common.{subst, ◌≡◌, ℕ, zero, suc, ◌+◌, ◌<◌, ◌≤◌, Bool, true, false, cond, ltb, eqb, ◌≢◌, List, [], ◌∷◌, ◌++◌, length, take, drop, sym, refl, ap, ◌∙◌, zero-add, arith}
use Rattle.std.specs.List.{list_any}
use Rattle.std.proofs.lemmas.Bool.Decides.{nat_tests}
use Rattle.std.proofs.lemmas.Bool.{eqb-true, ne_eqb}
use Rattle.page_table.specs.declared.entry.PageEntry.{PageEntry}
use Rattle.page_table.specs.Indexes.{users}

-- one for a page that has the place
one : ℕ → PageEntry → ℕ
one x p = cond (eqb p.place x) 1 0

pub users_append : (ps qs : List PageEntry) (x : ℕ) → users (ps ++ qs) x ≡ users ps x + users qs x
unfolding one
users_append ps qs x = sum_by-append (one x) ps qs

pub users_cons : (p : PageEntry) (ps : List PageEntry) (x : ℕ) → users (p ∷ ps) x ≡ cond (eqb p.place x) 1 0 + users ps x
unfolding one
users_cons p ps x = sum_by-cons (one x) p ps

-- the pages in front of one page and those from a later one on are not more than all
pub users_without : (a b : ℕ) (ps : List PageEntry) (x : ℕ) → a ≤ b → users (take a ps) x + users (drop b ps) x ≤ users ps x
unfolding one
users_without a b ps x h =
    let front = sum_by-take-le (one x) (take b ps) a in
    let same = take-take a b ps h in
    let less = rw same at front in
    let split = sum_by-take-drop (one x) ps b in
    omega arith

pub users_one : (y : PageEntry) (x : ℕ) → users (y ∷ []) x ≤ 1
users_one y x =
    elim (eqb y.place x) as (λ b. 0 + cond b 1 0 ≤ 1) [ true ↦ omega arith | false ↦ omega arith ]

pub users_other : (y : PageEntry) (x : ℕ) → (y.place ≡ x → ⊥) → users (y ∷ []) x ≡ 0
users_other y x n = rw (ne_eqb y.place x n)

-- whether one of them has a place
pub users_any : (ps : List PageEntry) (x : ℕ) → list_any (λ p. eqb p.place x) ps ≡ ltb 0 (users ps x)
users_any [] x = refl
users_any (p ∷ ps) x = let h = users_any ps x in let c = users_cons p ps x in grind (arith, nat_tests)

-- Pages that use every place below n are at least n.

-- the pages but for the first that has the place
without : List PageEntry → ℕ → List PageEntry
without [] x = []
without (p ∷ ps) x = cond (eqb p.place x) ps (p ∷ without ps x)

shorter : (ps : List PageEntry) (x : ℕ) → 0 < users ps x → length (without ps x) + 1 ≡ length ps
unfolding without
shorter [] x h = absurd (omega arith)
shorter (p ∷ ps) x h =
    let P : Bool → Type 0 = λ b. 0 < cond b 1 0 + users ps x → length (cond b ps (p ∷ without ps x)) + 1 ≡ length (p ∷ ps) in
    let both : (b : Bool) → P b =
    λ b. elim b as P [ true ↦ (λ _. omega arith) | false ↦ (λ k. let r = shorter ps x (omega arith) in omega arith) ]
    in
    both (eqb p.place x) (subst (λ n. 0 < n) (users_cons p ps x) h)

still : (ps : List PageEntry) (x y : ℕ) → x ≢ y → users (without ps x) y ≡ users ps y
unfolding without
still [] x y n = refl
still (p ∷ ps) x y n =
    let P : Bool → Type 0 = λ b. eqb p.place x ≡ b → users (cond b ps (p ∷ without ps x)) y ≡ cond (eqb p.place y) 1 0 + users ps y in
    let both : (b : Bool) → P b =
    λ b. elim b as P [
      | true ↦ (λ k. rw (ne_eqb p.place y (λ s. n (sym (eqb-true p.place x k) ∙ s))) (sym (zero-add (users ps y))))
      | false ↦ (λ _. users_cons p (without ps x) y ∙ ap (λ (m : ℕ). cond (eqb p.place y) 1 0 + m) (still ps x y n))
    ]
    in
    both (eqb p.place x) refl ∙ sym (users_cons p ps y)

pub enough : (n : ℕ) (ps : List PageEntry) → ((x : ℕ) → x < n → 0 < users ps x) → n ≤ length ps
enough zero ps all = omega arith
enough (suc n) ps all =
    let s = shorter ps n (all n (omega arith)) in
    let r = enough n (without ps n) (λ x h. let k : n ≢ x = omega arith in rw (still ps n x k) (all x (omega arith))) in
    omega arith
