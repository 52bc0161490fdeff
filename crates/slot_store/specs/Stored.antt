-- The lines of a store whose memory was written. Assumes nothing.
use Rattle.std.specs.Prelude.{◌≡◌, ℕ, ◌+◌, ◌-◌, ◌*◌, ◌<◌, ◌≤◌, true, List, length, vec_items, vec_len, Vec, slice_set}
use Rattle.std.proofs.Common.{sym, ap, ◌∙◌, arith}
use Rattle.std.specs.Vec.{with_items}
use Rattle.std.specs.List.{insert, remove}
use Rattle.std.proofs.lemmas.List.{with_items_is}
use Rattle.line.specs.Lines.{line_limit, is_line}
use Rattle.line.specs.Stores.{charges, Kept}
use Rattle.line.proofs.Charges.{charges_one}
use Rattle.line.proofs.Edits.{lines_set, lines_inserted, lines_removed}
use Rattle.slot_store.specs.Slots.{slot_size, slots_in, slots_of, Held, with_line, with_slots}
use Rattle.slot_store.specs.SlotsLemmas.{length_slots, held_all, all_held}
use Rattle.slot_store.specs.Edited.{length_with, replaced, length_moved, slots_inserted, slots_removed}

-- the lines of a store are charged their number
pub charged : (n : ℕ) (bytes : List ℕ) → charges (λ _. 1) (slots_of n bytes) ≡ n
charged n bytes = charges_one (slots_of n bytes) ∙ length_slots n bytes

-- what every store keeps
pub kept_by : {Z : Type 0} (v : Vec ℕ Z) (n : ℕ) → n ≤ slots_in (vec_len v) → Held n (vec_items v) → Kept (slots_of n (vec_items v)) (slots_in (vec_len v)) (λ _. 1)
kept_by v n within held =
    let l = length_slots n (vec_items v) in
    let all = charged n (vec_items v) in
    record {
      few = omega arith;
      each = held_all n (vec_items v) held;
      within = omega arith;
    }

module _ {Z : Type 0} (v : Vec ℕ Z) (n : ℕ) (few : n ≤ slots_in (vec_len v)) (held : Held n (vec_items v)) (ws : List ℕ) where
  long : vec_len v ≡ length (vec_items v)
  long = v.ok.0

  module _ (at : ℕ) (line : List ℕ) (within : at < n) (good : is_line line ≡ true) (short : length line ≤ line_limit) (e : ws ≡ with_line (vec_items v) at line) where
    whole : slot_size * at + slot_size ≤ length (vec_items v)
    whole = omega (arith, long)

    pub now_replaced : slots_of n (vec_items (with_items v ws)) ≡ slice_set (slots_of n (vec_items v)) at line
    now_replaced =
        let l : length ws ≡ v.len = ap length e ∙ length_with (vec_items v) at line whole short ∙ sym long in
        ap (slots_of n) (with_items_is v ws l ∙ e) ∙ replaced (vec_items v) at line whole short n within

    pub held_replaced : Held n (vec_items (with_items v ws))
    held_replaced =
        all_held n (vec_items (with_items v ws))
        (rw now_replaced (lines_set (slots_of n (vec_items v)) at line good (held_all n (vec_items v) held)))

  module _ (at : ℕ) (line : List ℕ) (within : at ≤ n) (room : n < slots_in (vec_len v)) (good : is_line line ≡ true) (short : length line ≤ line_limit) (e : ws ≡ with_line (with_slots (vec_items v) at n (at + 1)) at line) where
    enough : slot_size * (n + 1) ≤ length (vec_items v)
    enough = omega (arith, long)

    pub now_inserted : slots_of (n + 1) (vec_items (with_items v ws)) ≡ insert (slots_of n (vec_items v)) at line
    now_inserted =
        let up : List ℕ = with_slots (vec_items v) at n (at + 1) in
        let lu : length up ≡ length (vec_items v) = length_moved (vec_items v) at n (at + 1) within (omega (arith, enough)) (omega (arith, enough)) in
        let lw : length (with_line up at line) ≡ length up = length_with up at line (omega (arith, enough)) short in
        let l : length ws ≡ v.len = ap length e ∙ lw ∙ lu ∙ sym long in
        ap (slots_of (n + 1)) (with_items_is v ws l ∙ e) ∙ slots_inserted (vec_items v) n at line within enough short

    pub held_inserted : Held (n + 1) (vec_items (with_items v ws))
    held_inserted =
        all_held (n + 1) (vec_items (with_items v ws))
        (rw now_inserted (lines_inserted (slots_of n (vec_items v)) at line good (held_all n (vec_items v) held)))

  module _ (at : ℕ) (within : at < n) (e : ws ≡ with_slots (vec_items v) (at + 1) n at) where
    pub now_removed : slots_of (n - 1) (vec_items (with_items v ws)) ≡ remove (slots_of n (vec_items v)) at
    now_removed =
        let w : slot_size * n ≤ length (vec_items v) = omega (arith, long) in
        let l : length ws ≡ v.len = ap length e ∙ length_moved (vec_items v) (at + 1) n at (omega arith) w (omega arith) ∙ sym long in
        ap (slots_of (n - 1)) (with_items_is v ws l ∙ e) ∙ slots_removed (vec_items v) n at within w

    pub held_removed : Held (n - 1) (vec_items (with_items v ws))
    held_removed =
        all_held (n - 1) (vec_items (with_items v ws))
        (rw now_removed (lines_removed (slots_of n (vec_items v)) at (held_all n (vec_items v) held)))
