-- The elements of lists by their places.
use Rattle.std.specs.List.{All}
use Rattle.std.proofs.Math.Seq.{take-append_seam, drop-append_seam}
use Rattle.std.proofs.lemmas.List.Elements.{All-take, All-drop}
use Rattle.std.proofs.lemmas.Option.{get_or_from_slice_get, slice_get_within}
use Rattle.std.proofs.Common.{◌≡◌, ℕ, zero, suc, ◌+◌, ◌<◌, ◌⊎◌, List, [], ◌∷◌, ◌++◌, map, length, take, drop, Some, sym, refl, ap, ◌∙◌, subst, inl, inr, suc-add, zero-add, arith}
use Rattle.std.specs.List.{slice_get}

module _ {X : Type 0} where
  -- an element of two lists is one of the first, or one of the second
  pub nth_cases : (xs ys : List X) (k : ℕ) (x : X) → slice_get (xs ++ ys) k ≡ Some x → (slice_get xs k ≡ Some x) ⊎ ((j : ℕ) × (k ≡ length xs + j) × (slice_get ys j ≡ Some x))
  nth_cases [] ys k x e = inr (k, sym (zero-add k), e)
  nth_cases (y ∷ xs) ys zero x e = inl e
  nth_cases (y ∷ xs) ys (suc k) x e =
      elim (nth_cases xs ys k x e) [ inl h ↦ inl h | inr h ↦ inr (h.0, omega (arith, h.1), h.2) ]

  pub nth_take : (n : ℕ) (xs : List X) (k : ℕ) (x : X) → slice_get (take n xs) k ≡ Some x → (k < n) × (slice_get xs k ≡ Some x)
  nth_take zero xs k x e = cc
  nth_take (suc n) [] k x e = cc
  nth_take (suc n) (y ∷ ys) zero x e = (omega arith, e)
  nth_take (suc n) (y ∷ ys) (suc k) x e = let h = nth_take n ys k x e in (omega (arith, h.0), h.1)

  pub nth_drop : (n : ℕ) (xs : List X) (k : ℕ) → slice_get (drop n xs) k ≡ slice_get xs (n + k)
  nth_drop zero xs k = ap (slice_get xs) (sym (zero-add k))
  nth_drop (suc n) [] k = refl
  nth_drop (suc n) (y ∷ ys) k = nth_drop n ys k ∙ ap (slice_get (y ∷ ys)) (sym (suc-add n k))

  -- what holds of each element holds of one that is there, and of those of both lists that are put together
  module _ (P : X → Type 0) where
    pub all_at : (xs : List X) (k : ℕ) (x : X) → slice_get xs k ≡ Some x → All P xs → P x
    all_at xs k x e h = subst P (get_or_from_slice_get xs k x x e) (h k x (slice_get_within xs k x e))

    pub all_left : (xs ys : List X) → All P (xs ++ ys) → All P xs
    all_left xs ys h = subst (All P) (take-append_seam xs ys) (All-take P (length xs) (xs ++ ys) h)

    pub all_right : (xs ys : List X) → All P (xs ++ ys) → All P ys
    all_right xs ys h = subst (All P) (drop-append_seam xs ys) (All-drop P (length xs) (xs ++ ys) h)

pub nth_map : {X Y : Type 0} (f : X → Y) (xs : List X) (k : ℕ) (y : Y) → slice_get (map f xs) k ≡ Some y → (x : X) × (slice_get xs k ≡ Some x) × (f x ≡ y)
nth_map f [] k y e = cc
nth_map f (x ∷ xs) zero y e = (x, refl, cc)
nth_map f (x ∷ xs) (suc k) y e = nth_map f xs k y e
