use Rattle.std.proofs.Common.{◌≡◌, ℕ, ◌+◌, ◌-◌, ◌≤◌, List, length, take, drop, vec_items, Vec, sym, ap, ◌∙◌, subst, arith}
use lib.Seq.{paste}
use Rattle.std.specs.Vec.{with_items}
use Rattle.line.specs.Lines.{Line}
use Rattle.gap_store.specs.Records.{packed, unpacked}
use Rattle.gap_store.specs.Gaps.{gap_lines, Holds, Sound}
use Rattle.gap_store.specs.declared.gap.Gap.{Gap}
use Rattle.gap_store.specs.GapsLemmas.{first_before, read_back}
use Rattle.gap_store.specs.Stored.{held_all, now_sound, now_held, written_holds}
use Rattle.gap_store.proofs.Moved.{start_low, length_down, holds_down}
use Rattle.gap_store.proofs.store.GapStore.gap_down.Goals as goal

-- where the line starts, as the walk says it
found : (g : Gap) (bytes fore : List ℕ) (at start : ℕ) → Sound g bytes → at ≤ g.before → fore ≡ take g.front bytes → start ≡ length (packed (unpacked at fore)) → start ≡ length (packed (take at (gap_lines g bytes)))
found g bytes fore at start sound place is e =
    e
    ∙ ap (λ (r : List ℕ). length (packed (unpacked at r))) is
    ∙ ap (λ (r : List Line). length (packed r)) (first_before (gap_lines g bytes) g bytes sound at place)

moved : {Z : Type 0} (v : Vec ℕ Z) (g : Gap) (sound : Sound g (vec_items v)) (at start : ℕ) (ws lent : List ℕ) → at ≤ g.before → start ≡ length (packed (take at (gap_lines g (vec_items v)))) → lent ≡ vec_items v → ws ≡ paste lent (g.back - (g.front - start)) (drop start lent) (g.front - start) → Holds (gap_lines g (vec_items v)) record { before = at; behind = g.behind + (g.before - at); front = start; back = g.back - (g.front - start) } (vec_items (with_items v ws))
moved v g sound at start ws lent place e same is =
    let bytes : List ℕ = vec_items v in
    let ls : List Line = gap_lines g bytes in
    let new : Gap = record { before = at; behind = g.behind + (g.before - at); front = start; back = g.back - (g.front - start) } in
    let w = is ∙ ap (λ (xs : List ℕ). paste xs (g.back - (g.front - start)) (drop start xs) (g.front - start)) same in
    let long = ap length w ∙ length_down ls g bytes sound at start place e ∙ sym v.ok.0 in
    let P : List ℕ → Type 0 = Holds ls new in
    written_holds v new ws long ls (subst P (sym w) (holds_down ls g bytes sound at start place e))

pub overflow_sub-back : goal.overflow_sub-back
overflow_sub-back c =
    let s = c.args.self.now in
    let bytes : List ℕ = vec_items s.memory in
    let start : ℕ = c.start-start.result in
    let e = found s.gap bytes c.fore.result.bytes.now c.args.at start s.sound c.requires c.fore.ensures.bytes c.start-start.ensures in
    start_low (gap_lines s.gap bytes) s.gap bytes s.sound c.args.at start c.requires e

pub copy_within-requires-clause-start_le_end : goal.copy_within-requires-clause-start_le_end
copy_within-requires-clause-start_le_end c =
    let s = c.args.self.now in
    let bytes : List ℕ = vec_items s.memory in
    let start : ℕ = c.start-start.result in
    let e = found s.gap bytes c.fore.result.bytes.now c.args.at start s.sound c.requires c.fore.ensures.bytes c.start-start.ensures in
    start_low (gap_lines s.gap bytes) s.gap bytes s.sound c.args.at start c.requires e

pub invariant_of-self : goal.invariant_of-self
invariant_of-self c =
    let s = c.args.self.now in
    let bytes : List ℕ = vec_items s.memory in
    let start : ℕ = c.start-start.result in
    let e = found s.gap bytes c.fore.result.bytes.now c.args.at start s.sound c.requires c.fore.ensures.bytes c.start-start.ensures in
    let h = moved s.memory s.gap s.sound c.args.at start c.copy_within.new.self c.as_mut_slice.result.now c.requires e c.as_mut_slice.ensures.value c.copy_within.ensures.after in
    let f = s.few in
    record {
      small = s.small;
      few = omega (arith, c.requires);
      sound = now_sound _ _ _ h;
      held = now_held _ _ _ h (held_all s.gap bytes s.held);
    }

pub returns-clause-lines : goal.returns-clause-lines
returns-clause-lines c =
    let s = c.args.self.now in
    let bytes : List ℕ = vec_items s.memory in
    let start : ℕ = c.start-start.result in
    let e = found s.gap bytes c.fore.result.bytes.now c.args.at start s.sound c.requires c.fore.ensures.bytes c.start-start.ensures in
    read_back _ _ _ (moved s.memory s.gap s.sound c.args.at start c.copy_within.new.self c.as_mut_slice.result.now c.requires e c.as_mut_slice.ensures.value c.copy_within.ensures.after)
