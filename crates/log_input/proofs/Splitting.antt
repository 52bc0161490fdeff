-- Splitting an input at its line feeds. Assumes nothing.
use Rattle.std.proofs.Common.{◌≡◌, ℕ, ◌+◌, ◌-◌, ◌<◌, ◌≤◌, Bool, true, false, ◌&&◌, cond, eqb, nat_eq, List, [], ◌∷◌, ◌++◌, length, get_or, take, drop, min, ◌≢◌, sym, refl, ap, ◌∙◌, subst, arith, ne_eqb, eqb-true, suc, append-nil, ⊎_elim, Bor, Option, Some, None}
use borrow.Author.Tests.{eqb-false}
use Rattle.std.specs.Cmp.Lexicographic.{pointwise}
use Rattle.std.specs.List.{AllByRecursion, AllWithin, IsFirstMatchOrLen}
use Rattle.std.specs.Option.{MatchOption, unwrap_or}
use Rattle.std.proofs.ByRecursion.{All-from_get_or}
use Rattle.std.proofs.lemmas.Bool.{cases_lt}
use Rattle.std.proofs.lemmas.List.{length-take, length-drop, length-append, get_or-take, get_or_append_left, take_all, nil_from_length}
use Rattle.std.proofs.lemmas.Grind.{common_steps}
use Rattle.std.proofs.Math.Seq.{split_at, drop-cons}
use Rattle.log_input.specs.Splits.{line_feed, in_front, split, with_feeds, ended, Unbroken, SplitLaw}

-- the first line, where a line feed ends it
pub split_first : (p rest : List ℕ) → Unbroken p → split (p ++ (line_feed ∷ rest)) ≡ p ∷ split rest
split_first [] rest u = refl
split_first (b ∷ p) rest u = simp (ne_eqb b line_feed u.0) (ap (in_front b) (split_first p rest u.1))

-- the last line, where none does
pub split_last : (p : List ℕ) → Unbroken p → 0 < length p → split p ≡ p ∷ []
split_last [] u h = absurd (omega arith)
split_last (b ∷ []) u h = simp (ne_eqb b line_feed u.0)
split_last (b ∷ c ∷ p) u h = let e = split_last (c ∷ p) u.1 (omega arith) in rw (ne_eqb b line_feed u.0) (ap (in_front b) e)

-- a line that has begun
some_line : (b : ℕ) (bs : List ℕ) → 0 < length (split (b ∷ bs))
some_line b bs =
    elim (eqb b line_feed) as (λ v. 0 < length (cond v ([] ∷ split bs) (in_front b (split bs)))) [ true ↦ omega arith | false ↦ fronted (split bs) ]
  where
    fronted : (ls : List (List ℕ)) → 0 < length (in_front b ls)
    fronted [] = omega arith
    fronted (l ∷ ls) = omega arith

front_feeds : (b : ℕ) (ls : List (List ℕ)) → 0 < length ls → with_feeds (in_front b ls) ≡ b ∷ with_feeds ls
front_feeds b [] h = absurd (omega arith)
front_feeds b (l ∷ ls) h = refl

back : (input : List ℕ) → with_feeds (split input) ≡ ended input
back [] = refl
back (b ∷ []) = go (eqb b line_feed) refl
  where
    go : (v : Bool) → eqb b line_feed ≡ v → with_feeds (cond v ([] ∷ []) ((b ∷ []) ∷ [])) ≡ cond v (b ∷ []) (b ∷ line_feed ∷ [])
    go true e = ap (λ x. x ∷ []) (sym (eqb-true b line_feed e))
    go false e = refl
back (b ∷ c ∷ bs) = go (eqb b line_feed) refl (back (c ∷ bs))
  where
    go : (v : Bool) → eqb b line_feed ≡ v → with_feeds (split (c ∷ bs)) ≡ ended (c ∷ bs) → with_feeds (cond v ([] ∷ split (c ∷ bs)) (in_front b (split (c ∷ bs)))) ≡ b ∷ ended (c ∷ bs)
    go true e ih = (λ i. sym (eqb-true b line_feed e) i ∷ ih i)
    go false e ih = front_feeds b (split (c ∷ bs)) (some_line c bs) ∙ ap (λ l. b ∷ l) ih

unbroken : (input : List ℕ) → AllByRecursion Unbroken (split input)
unbroken [] = tt
unbroken (b ∷ bs) = go (eqb b line_feed) refl (unbroken bs)
  where
    fronted : (ls : List (List ℕ)) → (b ≡ line_feed → ⊥) → AllByRecursion Unbroken ls → AllByRecursion Unbroken (in_front b ls)
    fronted [] n u = ((n, tt), tt)
    fronted (l ∷ ls) n u = ((n, u.0), u.1)

    go : (v : Bool) → eqb b line_feed ≡ v → AllByRecursion Unbroken (split bs) → AllByRecursion Unbroken (cond v ([] ∷ split bs) (in_front b (split bs)))
    go true e ih = (tt, ih)
    go false e ih = fronted (split bs) (eqb-false b line_feed e) ih

split_feeds : (ls : List (List ℕ)) → AllByRecursion Unbroken ls → split (with_feeds ls) ≡ ls
split_feeds [] u = refl
split_feeds (l ∷ ls) u = split_first l (with_feeds ls) u.0 ∙ ap (λ t. l ∷ t) (split_feeds ls u.1)

split_ended : (input : List ℕ) → split (ended input) ≡ split input
split_ended [] = refl
split_ended (b ∷ []) = go (eqb b line_feed) refl
  where
    go : (v : Bool) → eqb b line_feed ≡ v → split (cond v (b ∷ []) (b ∷ line_feed ∷ [])) ≡ split (b ∷ [])
    go true e = refl
    go false e = simp e
split_ended (b ∷ c ∷ bs) = ap (λ ls. cond (eqb b line_feed) ([] ∷ ls) (in_front b ls)) (split_ended (c ∷ bs))

pub law : SplitLaw
law = record {
  back = back;
  unbroken = unbroken;
  only = λ input ls u e. sym (split_feeds ls u) ∙ ap split e ∙ split_ended input;
}

-- bytes before the first line feed
unbroken_take : (bytes : List ℕ) (i : ℕ) → i ≤ length bytes → AllWithin (λ b. nat_eq b line_feed ≡ false) bytes 0 i → Unbroken (take i bytes)
unbroken_take bytes i h other =
    All-from_get_or (λ b. b ≢ line_feed) (take i bytes) 0
    (λ k l. let b : k < i = omega (arith, length-take i bytes) in rw (get_or-take i bytes k 0 b) (eqb-false (get_or bytes k 0) line_feed (other k 0 (omega arith) b)))

-- the first line feed ends the first line
first_line : (bytes : List ℕ) (i : ℕ) → i < length bytes → IsFirstMatchOrLen (λ b. nat_eq b line_feed) bytes i → split bytes ≡ take i bytes ∷ split (drop (suc i) bytes)
first_line bytes i h first =
    let feed = eqb-true (get_or bytes i 0) line_feed (first.1 h 0) in
    let cut : bytes ≡ take i bytes ++ (line_feed ∷ drop (suc i) bytes) = split_at bytes i 0 h ∙ ap (λ b. take i bytes ++ (b ∷ drop (suc i) bytes)) feed in
    ap split cut ∙ split_first (take i bytes) (drop (suc i) bytes) (unbroken_take bytes i (omega arith) first.0)

-- where there is none, all bytes are one line
only_line : (bytes : List ℕ) (i : ℕ) → length bytes ≤ i → 0 < length bytes → IsFirstMatchOrLen (λ b. nat_eq b line_feed) bytes i → split bytes ≡ bytes ∷ []
only_line bytes i h some first =
    let u = unbroken_take bytes (length bytes) (omega arith) (λ k d low high. first.0 k d low (omega arith)) in
    split_last bytes (subst Unbroken (take_all (length bytes) bytes (omega arith)) u) some

-- whether bytes end with a line feed, from their last byte
ends : (bytes : List ℕ) (n : ℕ) → length bytes ≡ suc n → pointwise nat_eq (drop (length bytes - 1) bytes) (line_feed ∷ []) ≡ nat_eq (get_or bytes n 0) line_feed
ends bytes n h =
    ap (λ k. pointwise nat_eq (drop k bytes) (line_feed ∷ [])) (omega arith)
    ∙ ap (λ l. pointwise nat_eq l (line_feed ∷ [])) (drop-cons bytes n 0 (omega arith) ∙ ap (λ l. get_or bytes n 0 ∷ l) (nil_from_length (drop (suc n) bytes) (omega (arith, length-drop (suc n) bytes))))
    ∙ alone (nat_eq (get_or bytes n 0) line_feed)
  where
    alone : (v : Bool) → v && true ≡ v
    alone true = refl
    alone false = refl

-- a part without the line feed that ends it, if one does
abbrev pub without_feed : List ℕ → List ℕ
without_feed part = cond (pointwise nat_eq (drop (length part - 1) part) (line_feed ∷ [])) (take (length part - 1) part) part

-- what the call that takes off a line feed leaves of a part
pub stripped : (part : Bor (List ℕ)) (shorter : Option (Bor (List ℕ)))
    → MatchOption shorter (pointwise nat_eq (drop (length part.now - 1) part.now) (line_feed ∷ []) ≡ false) (λ x. (pointwise nat_eq (drop (length part.now - 1) part.now) (line_feed ∷ []) ≡ true) × (x.now ≡ take (length part.now - 1) part.now) × (length x.now + 1 ≡ length part.now))
    → (unwrap_or shorter part).now ≡ without_feed part.now
stripped part None h = sym (ap (λ v. cond v (take (length part.now - 1) part.now) part.now) h)
stripped part (Some x) h = h.1 ∙ sym (ap (λ v. cond v (take (length part.now - 1) part.now) part.now) h.0)

-- a part up to the first line feed, or to the end, is the first line
pub first_part : (bytes part rest : List ℕ) (i : ℕ) → bytes ≡ part ++ rest → length part ≡ min (i + 1) (length bytes) → 0 < length bytes → IsFirstMatchOrLen (λ b. nat_eq b line_feed) bytes i
    → split bytes ≡ without_feed part ∷ split rest
first_part bytes part rest i cut long some first = ⊎_elim fed last (cases_lt i (length bytes))
  where
    fed : i < length bytes → split bytes ≡ without_feed part ∷ split rest
    fed h =
        let n : length part ≡ suc i = omega (arith, long) in
        let feed : nat_eq (get_or part i 0) line_feed ≡ true = sym (ap (λ l. nat_eq (get_or l i 0) line_feed) cut ∙ ap (λ b. nat_eq b line_feed) (get_or_append_left part rest 0 i (omega arith))) ∙ first.1 h 0 in
        let front : take i bytes ≡ take (length part - 1) part = grind (arith, common_steps) in
        let behind : drop (suc i) bytes ≡ rest = grind (arith, common_steps) in
        first_line bytes i h first
        ∙ (λ j. front j ∷ split (behind j))
        ∙ ap (λ v. cond v (take (length part - 1) part) part ∷ split rest) (sym (ends part i n ∙ feed))

    last : length bytes ≤ i → split bytes ≡ without_feed part ∷ split rest
    last h =
        let n : length part ≡ length bytes = omega (arith, long) in
        let all : length bytes ≡ length part + length rest = ap length cut ∙ length-append part rest in
        let none : rest ≡ [] = nil_from_length rest (omega arith) in
        let whole : bytes ≡ part = cut ∙ ap (λ l. part ++ l) none ∙ append-nil part in
        let other : nat_eq (get_or part (length part - 1) 0) line_feed ≡ false = ap (λ l. nat_eq (get_or l (length part - 1) 0) line_feed) (sym whole) ∙ first.0 (length part - 1) 0 (omega arith) (omega arith) in
        only_line bytes i h some first
        ∙ (λ j. whole j ∷ split (sym none j))
        ∙ ap (λ v. cond v (take (length part - 1) part) part ∷ split rest) (sym (ends part (length part - 1) (omega arith) ∙ other))

pub no_line : (bytes : List ℕ) → length bytes ≡ 0 → split bytes ≡ []
no_line [] h = refl
no_line (b ∷ bs) h = absurd (omega arith)
