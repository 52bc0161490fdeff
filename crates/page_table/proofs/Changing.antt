-- Each change of an index leaves an index.
use Rattle.std.specs.List.{All}
use Rattle.std.proofs.lemmas.List.Elements.{All-append, All-push}
use Rattle.std.proofs.lemmas.Option.{slice_get_within}
use Rattle.std.proofs.Common.{◌≡◌, ℕ, suc, ◌+◌, ◌-◌, ◌<◌, ◌≤◌, ◌⊎◌, List, [], ◌∷◌, ◌++◌, length, take, Some, sym, refl, ap, ◌∙◌, subst, inl, inr, append-nil, arith}
use Rattle.std.proofs.lemmas.List.{take_all, length_push}
use Rattle.std.proofs.lemmas.Bool.{cases_lt, cases_eq}
use Rattle.line.specs.Stores.{store_limit}
use Rattle.page_rule.specs.Pages.{page_rows}
use Rattle.page_table.specs.declared.entry.PageEntry.{PageEntry}
use Rattle.page_table.specs.declared.state.Numbers.{Numbers}
use Rattle.page_table.specs.declared.state.Way.{Way}
use Rattle.page_table.specs.declared.state.Phase.{Phase}
use Rattle.page_table.specs.declared.state.Phase.TheVariants.{Unfilled, Edited, Resumed, Settled}
use Rattle.page_table.specs.Indexes.{Index, way_of, limit, held, users}
use Rattle.page_table.specs.Sound.{FollowFrom, Filled, FewRows, Within, Apart, Sound, Restart}
use Rattle.page_table.specs.Settled.{settled}
use Rattle.page_table.specs.Changes.{in_phase, Begins, Begins.at_start, Begins.at_page, next_page, Admits, gone_on, added, kept_at, TakesOver}
use Rattle.page_table.proofs.Elements.{all_at, all_left, all_right}
use Rattle.page_table.proofs.Held.{held_append, held_mono, first_is, end_is, follow_append, follow_one, follow_none}
use Rattle.page_table.proofs.Users.{users_append, users_one, users_other}
use Rattle.page_table.proofs.Settling.{Meets, sound_settled}

-- the first item of a resumed session's restart page, and so on, from its state
pub way_is : (i : Index) (way : Way) → i.phase ≡ Resumed way → way_of i.phase ≡ way
way_is i way e = ap way_of e

module _ (i : Index) (way : Way) (sound : Sound i) (resumed : i.phase ≡ Resumed way) where
  is_way : way_of i.phase ≡ way
  is_way = way_is i way resumed

  pub starts : way.start ≡ held (take way.restart i.pages)
  starts = subst (λ (w : Way). w.start ≡ held (take w.restart i.pages)) is_way sound.between.0

  pub leads : way.next ≡ way.start + held i.made
  leads = subst (λ (w : Way). w.next ≡ w.start + held i.made) is_way sound.between.1

  pub not_ended : way.next < i.numbers.items_now
  not_ended = subst (λ (w : Way). w.next < i.numbers.items_now) is_way sound.between.2

  pub restart_within : way.restart ≤ length i.pages
  restart_within = subst (λ (w : Way). w.restart ≤ length i.pages) is_way sound.numbered.0

  pub made_is : length i.made ≡ way.made
  made_is = subst (λ (w : Way). length i.made ≡ w.made) is_way sound.numbered.1

  pub follows_start : FollowFrom way.start i.made
  follows_start = subst (λ (w : Way). FollowFrom w.start i.made) is_way sound.onward

  pub unsettled : i.numbers.marks.head + i.numbers.marks.tail ≤ i.numbers.items_then
  unsettled = sound.touched (λ e. cc)

  -- what a settling asks, by the way
  meets_by : (made : List PageEntry) (over : ℕ) → way.restart ≤ over → FollowFrom way.start made
      → held (take over i.pages) + i.numbers.items_now ≡ way.start + held made + i.numbers.items_then
      → way.restart + length made + (length i.pages - over) ≤ limit i
      → Filled made → FewRows made → Within i.places made → Apart (i.pages ++ made) → Meets i made over
  meets_by made over behind onward level room filled few within apart =
      record {
        behind = subst (λ (w : Way). w.restart ≤ over) (sym is_way) behind;
        onward = subst (λ (w : Way). FollowFrom w.start made) (sym is_way) onward;
        level = subst (λ (w : Way). held (take over i.pages) + i.numbers.items_now ≡ w.start + held made + i.numbers.items_then) (sym is_way) level;
        room = subst (λ (w : Way). w.restart + length made + (length i.pages - over) ≤ limit i) (sym is_way) room;
        filled = filled;
        few = few;
        within = within;
        apart = apart;
      }

  -- one page more
  module _ (items rows place : ℕ) (may : Admits i way items rows place) where
    pub apart_more : Apart (i.pages ++ (i.made ++ (next_page way items rows place ∷ [])))
    apart_more x =
        let p : PageEntry = next_page way items rows place in
        let a = users_append i.pages (i.made ++ (p ∷ [])) x in
        let b = users_append i.made (p ∷ []) x in
        let c = users_append i.pages i.made x in
        let d = sound.apart x in
        elim (cases_eq place x) [
          | inl e ↦ (let f : users (i.pages ++ i.made) x ≡ 0 = subst (λ (y : ℕ). users (i.pages ++ i.made) y ≡ 0) e may.free.unused in
              let g = users_one p x in omega arith)
          | inr n ↦ (let g = users_other p x n in omega arith)
        ]

    pub follows_more : FollowFrom way.start (i.made ++ (next_page way items rows place ∷ []))
    follows_more =
        follow_append way.start i.made (next_page way items rows place ∷ []) follows_start
        (follow_one (way.start + held i.made) (next_page way items rows place) leads)

    pub held_more : held (i.made ++ (next_page way items rows place ∷ [])) ≡ held i.made + items
    held_more = let h = held_append i.made (next_page way items rows place ∷ []) in omega arith

    length_more : length (i.made ++ (next_page way items rows place ∷ [])) ≡ way.made + 1
    length_more = length_push i.made (next_page way items rows place) ∙ ap (λ (n : ℕ). n + 1) made_is

    each_more : (P : PageEntry → Type 0) → All P (i.pages ++ i.made) → P (next_page way items rows place) → All P (i.made ++ (next_page way items rows place ∷ []))
    each_more P all new = All-push P i.made (next_page way items rows place) (all_right P i.pages i.made all) new

    pub filled_more : Filled (i.made ++ (next_page way items rows place ∷ []))
    filled_more = each_more (λ x. 0 < x.items) sound.filled may.filled

    pub few_more : FewRows (i.made ++ (next_page way items rows place ∷ []))
    few_more = each_more (λ x. x.rows ≤ page_rows) sound.few may.few

    pub within_more : Within i.places (i.made ++ (next_page way items rows place ∷ []))
    within_more = each_more (λ x. x.place < i.places) sound.within may.free.within

    pub sound_added : way.next + items < i.numbers.items_now → Sound (added i way items rows place)
    sound_added short =
        let h = held_more in
        let l = leads in
        let m = length_more in
        let b = may.below in
        record {
          sized = sound.sized;
          follow = sound.follow;
          whole = sound.whole;
          filled = All-append (λ x. 0 < x.items) i.pages (i.made ++ (next_page way items rows place ∷ [])) (all_left (λ x. 0 < x.items) i.pages i.made sound.filled) filled_more;
          few = All-append (λ x. x.rows ≤ page_rows) i.pages (i.made ++ (next_page way items rows place ∷ [])) (all_left (λ x. x.rows ≤ page_rows) i.pages i.made sound.few) few_more;
          within = All-append (λ x. x.place < i.places) i.pages (i.made ++ (next_page way items rows place ∷ [])) (all_left (λ x. x.place < i.places) i.pages i.made sound.within) within_more;
          apart = apart_more;
          counted = sound.counted;
          bounded = sound.bounded;
          untouched = λ e. cc;
          touched = λ _. unsettled;
          between = (starts, omega arith, short);
          numbered = (restart_within, m, omega arith);
          onward = follows_more;
          restarted = λ w e. let same : gone_on way items ≡ w = cc in subst (Restart (added i way items rows place)) same (sound.restarted way resumed);
          kept = λ x e. sound.kept x (ap (λ (w : Way). w.kept) is_way ∙ e);
        }

    -- the page with the end: all pages made stand, and none is taken over
    pub sound_finished : way.next + items ≡ i.numbers.items_now → Sound (settled i (i.made ++ (next_page way items rows place ∷ [])) (length i.pages))
    sound_finished ends =
        let n : ℕ = length i.pages in
        let h = held_more in
        let l = leads in
        let w = sound.whole in
        let t : held (take n i.pages) ≡ held i.pages = ap held (take_all n i.pages (omega arith)) in
        let m = length_more in
        let b = may.below in
        sound_settled i (i.made ++ (next_page way items rows place ∷ [])) n sound
        (meets_by (i.made ++ (next_page way items rows place ∷ [])) n restart_within follows_more (omega arith) (omega arith) filled_more few_more within_more apart_more)

  -- old pages are taken over: the restart page lies in front of them, since no item of the head is one of the tail
  module _ (over : ℕ) (may : TakesOver i way over) where
    pub behind_restart : way.restart ≤ over
    behind_restart =
        elim (cases_lt over way.restart) [
          | inl h ↦
              (let f = first_is i.pages over may.met sound.follow may.there in
              let e = end_is i.pages over may.met sound.follow may.there in
              let m = held_mono (suc over) way.restart i.pages (omega arith) in
              let r = sound.restarted way resumed in
              let i1 = all_at (λ x. 0 < x.items) i.pages over may.met may.there (all_left (λ x. 0 < x.items) i.pages i.made sound.filled) in
              let s = starts in
              let u = unsettled in
              let l = may.level in
              let t = may.untouched in
              let n = not_ended in
              absurd (omega arith))
          | inr h ↦ h
        ]

    pub sound_taken_over : Sound (settled i i.made over)
    sound_taken_over =
        let f = first_is i.pages over may.met sound.follow may.there in
        let l = leads in
        let v = may.level in
        let m = made_is in
        let r = may.room in
        sound_settled i i.made over sound
        (meets_by i.made over behind_restart follows_start (omega arith) (omega arith)
        (all_right (λ x. 0 < x.items) i.pages i.made sound.filled)
        (all_right (λ x. x.rows ≤ page_rows) i.pages i.made sound.few)
        (all_right (λ x. x.place < i.places) i.pages i.made sound.within)
        sound.apart)

  -- the place of the state before the next item
  pub sound_kept : (place : ℕ) → place < i.places → Sound (in_phase i (Resumed (kept_at way place)) i.made)
  sound_kept place h =
      record {
        sized = sound.sized;
        follow = sound.follow;
        whole = sound.whole;
        filled = sound.filled;
        few = sound.few;
        within = sound.within;
        apart = sound.apart;
        counted = sound.counted;
        bounded = sound.bounded;
        untouched = λ e. cc;
        touched = λ _. unsettled;
        between = (starts, leads, not_ended);
        numbered = (restart_within, made_is, subst (λ (w : Way). w.restart + w.made ≤ limit i) is_way sound.numbered.2);
        onward = follows_start;
        restarted = λ w e. let same : kept_at way place ≡ w = cc in subst (Restart (in_phase i (Resumed (kept_at way place)) i.made)) same (sound.restarted way resumed);
        kept = λ x e. let same : place ≡ x = cc in omega arith;
      }

-- an edited session, with the pages as they were and nothing under way
pub sound_idle : (i : Index) (numbers : Numbers) → Sound i → numbers.items_then ≡ i.numbers.items_then
    → 0 < numbers.items_now → numbers.items_now ≤ store_limit + 1 → numbers.marks.head ≤ numbers.items_now → numbers.marks.tail ≤ numbers.items_now
    → numbers.marks.head + numbers.marks.tail ≤ numbers.items_then
    → Sound (record { places = i.places; pages = i.pages; made = []; numbers = numbers; phase = Edited })
sound_idle i numbers sound same some few head tail marks =
    let only : (P : PageEntry → Type 0) → All P (i.pages ++ i.made) → All P (i.pages ++ []) =
    λ P all. subst (All P) (sym (append-nil i.pages)) (all_left P i.pages i.made all)
    in
    record {
      sized = sound.sized;
      follow = sound.follow;
      whole = sound.whole ∙ sym same;
      filled = only (λ x. 0 < x.items) sound.filled;
      few = only (λ x. x.rows ≤ page_rows) sound.few;
      within = only (λ x. x.place < i.places) sound.within;
      apart = λ x.
          let n : users (i.pages ++ []) x ≡ users i.pages x = ap (λ (ps : List PageEntry). users ps x) (append-nil i.pages) in
          let a = users_append i.pages i.made x in
          let b = sound.apart x in
          omega arith;
      counted = (some, few, let c = sound.counted.2 in omega arith);
      bounded = (head, tail);
      untouched = λ e. cc;
      touched = λ _. marks;
      between = (refl, refl, some);
      numbered = (omega arith, refl, omega arith);
      onward = follow_none 0;
      restarted = λ way e. cc;
      kept = λ x e. cc;
    }

-- the same numbers
pub sound_stays : (i : Index) → Sound i → (i.phase ≡ Settled → ⊥) → Sound (in_phase i Edited [])
sound_stays i sound unsettled =
    sound_idle i i.numbers sound refl sound.counted.0 sound.counted.1 sound.bounded.0 sound.bounded.1 (sound.touched unsettled)

-- a begin
pub sound_begun : (i : Index) (way : Way) → Sound i → i.phase ≡ Edited → Begins i way → Sound (in_phase i (Resumed way) [])
sound_begun i way sound edited begins =
    let marks = sound.touched (λ e. cc) in
    let idle = sound_stays i sound (λ e. cc) in
    let w = way_begins begins in
    record {
      sized = idle.sized;
      follow = idle.follow;
      whole = idle.whole;
      filled = idle.filled;
      few = idle.few;
      within = idle.within;
      apart = idle.apart;
      counted = idle.counted;
      bounded = idle.bounded;
      untouched = λ e. cc;
      touched = λ _. marks;
      between = (w.0, w.1, w.2);
      numbered = (w.3, w.4, w.5);
      onward = follow_none way.start;
      restarted = λ v e. let same : way ≡ v = cc in subst (Restart (in_phase i (Resumed way) [])) same (w.6, w.7);
      kept = w.8;
    }
  where
    no_head : (i.numbers.marks.head ≡ 0) ⊎ (i.pages ≡ []) → i.numbers.marks.head ≡ 0
    no_head (inl h) = h
    no_head (inr h) =
        let m = sound.touched (λ e. cc) in
        let n : held i.pages ≡ 0 = ap held h in
        let t = sound.whole in
        omega arith

    way_begins : {v : Way} → Begins i v
        → (v.start ≡ held (take v.restart i.pages)) × (v.next ≡ v.start + held []) × (v.next < i.numbers.items_now)
        × (v.restart ≤ length i.pages) × (length {A = PageEntry} [] ≡ v.made) × (v.restart + v.made ≤ limit i)
        × (v.start ≤ i.numbers.marks.head - 1) × (i.numbers.marks.head ≤ held (take (suc v.restart) i.pages))
        × ((x : ℕ) → v.kept ≡ Some x → x < i.places)
    way_begins (at_start h) =
        let z = no_head h in
        (refl, refl, sound.counted.0, omega arith, refl, omega arith, omega arith, omega arith, λ x e. cc)
    way_begins (at_page {k} {p} some holds) =
        let f = first_is i.pages k p sound.follow holds.there in
        let e = end_is i.pages k p sound.follow holds.there in
        let n = slice_get_within i.pages k p holds.there in
        let a = holds.from in
        let b = holds.to in
        let c = sound.bounded.0 in
        let d = sound.sized.1 in (
          f,
          omega arith,
          omega arith,
          omega arith,
          refl,
          omega arith,
          a,
          omega arith,
          λ x q. let same : p.place ≡ x = cc in let w = all_at (λ x. x.place < i.places) i.pages k p holds.there (all_left (λ x. x.place < i.places) i.pages i.made sound.within) in omega arith,
        )

-- the pages hold the untouched items in front
pub head_held : (i : Index) → Sound i → i.numbers.marks.head ≤ held i.pages
head_held i sound = by_phase i.phase refl
  where
    by_phase : (phase : Phase) → i.phase ≡ phase → i.numbers.marks.head ≤ held i.pages
    by_phase Unfilled e = let t = sound.touched (λ s. cc) in let w = sound.whole in omega arith
    by_phase Edited e = let t = sound.touched (λ s. cc) in let w = sound.whole in omega arith
    by_phase (Resumed way) e = let t = sound.touched (λ s. cc) in let w = sound.whole in omega arith
    by_phase Settled e = let u = sound.untouched e in let w = sound.whole in omega (arith, u.0, u.1)
