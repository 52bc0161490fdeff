-- The pages after a settling make an index.
use Rattle.std.proofs.lemmas.List.Sums.{sum_by-take-drop}
use Rattle.std.specs.List.{All}
use Rattle.std.proofs.lemmas.List.Elements.{All-append, All-take, All-drop, All-map, All-weaker}
use Rattle.std.proofs.Math.Seq.{take-add}
use Rattle.std.proofs.Common.{◌≡◌, ℕ, ◌+◌, ◌-◌, ◌<◌, ◌≤◌, List, [], ◌∷◌, ◌++◌, map, length, take, drop, Some, sym, refl, ap, ◌∙◌, subst, append-nil, zero-add, arith}
use Rattle.std.specs.List.{slice_get}
use Rattle.std.proofs.lemmas.List.{length-append, length-take, length-map, length-drop, take-map}
use Rattle.page_rule.specs.Pages.{page_rows}
use Rattle.page_table.specs.declared.entry.PageEntry.{PageEntry}
use Rattle.page_table.specs.Indexes.{Index, way_of, limit, held, users}
use Rattle.page_table.specs.Sound.{FollowFrom, Filled, FewRows, Within, Apart, Sound}
use Rattle.page_table.specs.Settled.{moved_entry, settled_pages, settled}
use Rattle.page_table.proofs.Elements.{nth_drop, nth_map, all_left}
use Rattle.page_table.proofs.Held.{held_append, held_cons, first_is, follow_append, follow_take}
use Rattle.page_table.proofs.Users.{users_append, users_cons, users_without}

pub held_moved : (from to : ℕ) (ps : List PageEntry) → held (map (moved_entry from to) ps) ≡ held ps
held_moved from to [] = refl
held_moved from to (p ∷ ps) =
    let h = held_moved from to ps in
    let a = held_cons p ps in
    let b = held_cons (moved_entry from to p) (map (moved_entry from to) ps) in
    omega arith

pub users_moved : (from to : ℕ) (ps : List PageEntry) (x : ℕ) → users (map (moved_entry from to) ps) x ≡ users ps x
users_moved from to [] x = refl
users_moved from to (p ∷ ps) x =
    let h = users_moved from to ps x in
    let a = users_cons p ps x in
    let b = users_cons (moved_entry from to p) (map (moved_entry from to) ps) x in
    omega arith

-- pages that follow on from item 0, from one of them on, as their items move
pub follow_moved : (from to j over : ℕ) (ps : List PageEntry) → FollowFrom 0 ps → held (take over ps) + to ≡ j + from → FollowFrom j (map (moved_entry from to) (drop over ps))
follow_moved from to j over ps f level k q e =
    let h = nth_map (moved_entry from to) (drop over ps) k q e in
    let p = h.0 in
    let there : slice_get ps (over + k) ≡ Some p = sym (nth_drop over ps k) ∙ h.1 in
    let first : p.first ≡ held (take (over + k) ps) = first_is ps (over + k) p f there in
    let split : held (take (over + k) ps) ≡ held (take over ps) + held (take k (drop over ps)) = ap held (take-add over k ps) ∙ held_append (take over ps) (take k (drop over ps)) in
    let same : held (take k (map (moved_entry from to) (drop over ps))) ≡ held (take k (drop over ps)) =
    ap held (take-map (moved_entry from to) k (drop over ps)) ∙ held_moved from to (take k (drop over ps))
    in
    let is : p.first + to - from ≡ q.first = ap (λ (x : PageEntry). x.first) h.2 in
    omega arith

-- what a settling asks: the pages made lead from the restart page to an item, from which on the old pages are taken over
pub record Meets (i : Index) (made : List PageEntry) (over : ℕ) : Type 0 where
  pub behind : (way_of i.phase).restart ≤ over
  pub onward : FollowFrom (way_of i.phase).start made
  pub level : held (take over i.pages) + i.numbers.items_now ≡ (way_of i.phase).start + held made + i.numbers.items_then
  pub room : (way_of i.phase).restart + length made + (length i.pages - over) ≤ limit i
  pub filled : Filled made
  pub few : FewRows made
  pub within : Within i.places made
  pub apart : Apart (i.pages ++ made)

module _ (i : Index) (made : List PageEntry) (over : ℕ) (sound : Sound i) (meets : Meets i made over) where
  front : List PageEntry
  front = take (way_of i.phase).restart i.pages

  taken : List PageEntry
  taken = map (moved_entry i.numbers.items_then i.numbers.items_now) (drop over i.pages)

  follow_settled : FollowFrom 0 (settled_pages i made over)
  unfolding front taken
  follow_settled =
      let starts : 0 + held front ≡ (way_of i.phase).start = zero-add (held front) ∙ sym sound.between.0 in
      let rest : FollowFrom (way_of i.phase).start (made ++ taken) =
      follow_append (way_of i.phase).start made taken meets.onward
      (follow_moved i.numbers.items_then i.numbers.items_now ((way_of i.phase).start + held made) over i.pages sound.follow meets.level)
      in
      follow_append 0 front (made ++ taken) (follow_take 0 (way_of i.phase).restart i.pages sound.follow)
      (subst (λ (n : ℕ). FollowFrom n (made ++ taken)) (sym starts) rest)

  whole_settled : held (settled_pages i made over) ≡ i.numbers.items_now
  unfolding front taken
  whole_settled =
      let a = held_append front (made ++ taken) in
      let b = held_append made taken in
      let c = held_moved i.numbers.items_then i.numbers.items_now (drop over i.pages) in
      let d = sum_by-take-drop (λ (p : PageEntry). p.items) i.pages over in
      let s = sound.between.0 in
      let w = sound.whole in
      let l = meets.level in
      omega arith

  -- what holds of all pages, old and made, and does not speak of first items
  each_settled : (P : PageEntry → Type 0) → ((x : PageEntry) → P x → P (moved_entry i.numbers.items_then i.numbers.items_now x)) → All P i.pages → All P made → All P (settled_pages i made over ++ [])
  unfolding front taken
  each_settled P keeps old new =
      let move : PageEntry → PageEntry = moved_entry i.numbers.items_then i.numbers.items_now in
      let rest : List PageEntry = drop over i.pages in
      subst (All P) (sym (append-nil (settled_pages i made over)))
      (All-append P front (made ++ taken) (All-take P (way_of i.phase).restart i.pages old)
      (All-append P made taken new
      (All-map P move rest (All-weaker P (λ x. P (move x)) keeps rest (All-drop P over i.pages old)))))

  apart_settled : Apart (settled_pages i made over ++ [])
  unfolding front taken
  apart_settled x =
      let n : users (settled_pages i made over ++ []) x ≡ users (settled_pages i made over) x = ap (λ (ps : List PageEntry). users ps x) (append-nil (settled_pages i made over)) in
      let a = users_append front (made ++ taken) x in
      let b = users_append made taken x in
      let c = users_moved i.numbers.items_then i.numbers.items_now (drop over i.pages) x in
      let d = users_without (way_of i.phase).restart over i.pages x meets.behind in
      let e = users_append i.pages made x in
      let f = meets.apart x in
      omega arith

  count_settled : length (settled_pages i made over) ≤ limit i
  unfolding front taken
  count_settled =
      let r = meets.room in
      let n : length (settled_pages i made over) ≡ length front + (length made + length taken) =
      length-append front (made ++ taken) ∙ ap (λ (m : ℕ). length front + m) (length-append made taken)
      in
      let t : length taken ≡ length i.pages - over = length-map _ _ ∙ length-drop over i.pages in
      let s = length-take (way_of i.phase).restart i.pages in
      let q = sound.numbered.0 in
      omega arith

  pub sound_settled : Sound (settled i made over)
  sound_settled =
      let u : ℕ = i.numbers.items_now in
      let c = sound.counted in
      record {
        sized = (sound.sized.0, count_settled);
        follow = follow_settled;
        whole = whole_settled;
        filled = each_settled (λ x. 0 < x.items) (λ x h. h) (all_left (λ x. 0 < x.items) i.pages i.made sound.filled) meets.filled;
        few = each_settled (λ x. x.rows ≤ page_rows) (λ x h. h) (all_left (λ x. x.rows ≤ page_rows) i.pages i.made sound.few) meets.few;
        within = each_settled (λ x. x.place < i.places) (λ x h. h) (all_left (λ x. x.place < i.places) i.pages i.made sound.within) meets.within;
        apart = apart_settled;
        counted = (c.0, c.1, c.1);
        bounded = (omega arith, omega arith);
        untouched = λ _. (refl, refl, refl);
        touched = λ n. absurd (n refl);
        between = (refl, refl, c.0);
        numbered = (omega arith, refl, omega arith);
        onward = λ k p e. cc;
        restarted = λ way e. cc;
        kept = λ x e. cc;
      }
