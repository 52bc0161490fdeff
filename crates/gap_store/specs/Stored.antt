-- What a store's memory holds, before and after it was written. Assumes nothing.
use Rattle.std.specs.Prelude.{◌≡◌, ℕ, ◌+◌, ◌-◌, ◌≤◌, true, List, [], length, take, drop, vec_items, vec_len, Vec}
use Rattle.std.proofs.Common.{sym, subst, arith}
use Rattle.std.specs.Vec.{with_items}
use Rattle.std.specs.List.{AllByRecursion}
use Rattle.std.proofs.lemmas.List.{with_items_is}
use Rattle.std.proofs.ByRecursion.{All-get_or, All-from_get_or}
use Rattle.line.specs.Lines.{Line, is_line}
use Rattle.line.specs.Stores.{charges, store_limit, Kept}
use Rattle.gap_store.specs.Records.{Packed, taken}
use Rattle.gap_store.specs.Gaps.{gap_limit, gap_lines, Held, Holds, Sound}
use Rattle.gap_store.specs.declared.gap.Gap.{Gap}
use Rattle.gap_store.specs.GapsLemmas.{length_lines, sound_from, read_back, fore_packed, aft_packed, used}

pub held_all : (g : Gap) (bytes : List ℕ) → Held g bytes → AllByRecursion (λ (l : Line). is_line l ≡ true) (gap_lines g bytes)
held_all g bytes h =
    All-from_get_or _ (gap_lines g bytes) [] (λ i k. h i (omega (arith, length_lines g bytes)))

module _ {Z : Type 0} (v : Vec ℕ Z) (g : Gap) (sound : Sound g (vec_items v)) where
  -- what the lines take
  pub sound_charged : charges taken (gap_lines g (vec_items v)) + (g.back - g.front) ≡ vec_len v
  sound_charged = let u = used (gap_lines g (vec_items v)) g (vec_items v) sound in omega (arith, v.ok.0)

  -- what every store keeps
  pub sound_kept : g.before + g.behind ≤ store_limit → Held g (vec_items v) → Kept (gap_lines g (vec_items v)) (vec_len v) taken
  sound_kept few held =
      let n = length_lines g (vec_items v) in
      let all = sound_charged in
      record {
        few = omega arith;
        each = held_all g (vec_items v) held;
        within = omega arith;
      }

-- bytes that hold lines hold them and nothing else
module _ (new : List Line) (r : Gap) (bytes : List ℕ) (h : Holds new r bytes) where
  pub now_sound : Sound r bytes
  now_sound = let P : List Line → Type 0 = λ xs. Holds xs r bytes in subst P (sym (read_back new r bytes h)) h

  pub now_held : AllByRecursion (λ (l : Line). is_line l ≡ true) new → Held r bytes
  now_held all =
      let n = h.counted in
      λ i k. rw (read_back new r bytes h) (All-get_or (λ (l : Line). is_line l ≡ true) new i [] (omega arith) all)

-- the same, by the parts around the gap
module _ {Z : Type 0} (v : Vec ℕ Z) (g : Gap) (apart : g.front ≤ g.back) (within : g.back ≤ vec_len v) (fore : Packed g.before (take g.front (vec_items v))) (aft : Packed g.behind (drop g.back (vec_items v))) where
  pub sound : Sound g (vec_items v)
  sound = sound_from g (vec_items v) apart (omega (arith, within, v.ok.0)) fore aft

  -- what is lent is what the memory holds
  pub sound_lent : (lent : List ℕ) → lent ≡ vec_items v → Sound g lent
  sound_lent lent e = let P : List ℕ → Type 0 = Sound g in subst P (sym e) sound

  -- what the lines take
  pub charged : charges taken (gap_lines g (vec_items v)) + (g.back - g.front) ≡ vec_len v
  charged = sound_charged v g sound

  -- what every store keeps
  pub kept_by : g.before + g.behind ≤ store_limit → Held g (vec_items v) → Kept (gap_lines g (vec_items v)) (vec_len v) taken
  kept_by few held = sound_kept v g sound few held

-- the memory was written, and holds other lines around another gap
pub written_holds : {Z : Type 0} (v : Vec ℕ Z) (r : Gap) (ws : List ℕ) → length ws ≡ vec_len v → (new : List Line) → Holds new r ws → Holds new r (vec_items (with_items v ws))
written_holds v r ws long new h = let P : List ℕ → Type 0 = Holds new r in subst P (sym (with_items_is v ws long)) h

module _ {Z : Type 0} (v : Vec ℕ Z) (r : Gap) (ws : List ℕ) (long : length ws ≡ vec_len v) (new : List Line) (h : Holds new r ws) where
  written : vec_items (with_items v ws) ≡ ws
  written = with_items_is v ws long

  now_holds : Holds new r (vec_items (with_items v ws))
  now_holds = written_holds v r ws long new h

  pub now_lines : gap_lines r (vec_items (with_items v ws)) ≡ new
  now_lines = read_back new r (vec_items (with_items v ws)) now_holds

  -- what the store keeps
  pub now_kept : vec_len v ≤ gap_limit → length new ≤ store_limit → AllByRecursion (λ (l : Line). is_line l ≡ true) new
      → (r.front ≤ r.back) × (r.back ≤ vec_len v) × (vec_len v ≤ gap_limit) × (r.before + r.behind ≤ store_limit)
      × Packed r.before (take r.front (vec_items (with_items v ws))) × Packed r.behind (drop r.back (vec_items (with_items v ws))) × Held r (vec_items (with_items v ws))
  now_kept small few all =
      let a = h.apart in
      let w = h.within in
      let n = h.counted in (
        a,
        omega (arith, long),
        small,
        omega arith,
        fore_packed new r (vec_items (with_items v ws)) now_holds,
        aft_packed new r (vec_items (with_items v ws)) now_holds,
        (λ i k. rw now_lines (All-get_or (λ (l : Line). is_line l ≡ true) new i [] (omega arith) all)),
      )
