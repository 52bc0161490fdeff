use Rattle.std.proofs.Common.{◌≡◌, ℕ, ◌+◌, ◌-◌, ◌≤◌, List, length, take, drop, vec_items, Vec, sym, ap, ◌∙◌, subst, arith}
use lib.Seq.{paste}
use Rattle.std.specs.Vec.{with_items}
use Rattle.line.specs.Lines.{Line}
use Rattle.gap_store.specs.Records.{packed, unpacked}
use Rattle.gap_store.specs.Gaps.{gap_lines, Holds, Sound}
use Rattle.gap_store.specs.declared.gap.Gap.{Gap}
use Rattle.gap_store.specs.declared.store.GapStore.{GapStore}
use Rattle.gap_store.specs.GapsLemmas.{first_behind, read_back}
use Rattle.gap_store.specs.Stored.{held_all, now_sound, now_held, written_holds}
use Rattle.gap_store.proofs.Moved.{size_in, length_up, holds_up}
use Rattle.gap_store.proofs.store.GapStore.gap_up.Goals as goal

-- where the line starts, as the walk says it
found : (g : Gap) (bytes aft : List ℕ) (k size : ℕ) → Sound g bytes → k ≤ g.behind → aft ≡ drop g.back bytes → size ≡ length (packed (unpacked k aft)) → size ≡ length (packed (take k (drop g.before (gap_lines g bytes))))
found g bytes aft k size sound place is e =
    e
    ∙ ap (λ (r : List ℕ). length (packed (unpacked k r))) is
    ∙ ap (λ (r : List Line). length (packed r)) (first_behind (gap_lines g bytes) g bytes sound k place)

moved : {Z : Type 0} (v : Vec ℕ Z) (g : Gap) (sound : Sound g (vec_items v)) (at size : ℕ) (ws lent : List ℕ) → g.before ≤ at → at ≤ g.before + g.behind → size ≡ length (packed (take (at - g.before) (drop g.before (gap_lines g (vec_items v))))) → lent ≡ vec_items v → ws ≡ paste lent g.front (drop g.back lent) ((g.back + size) - g.back) → Holds (gap_lines g (vec_items v)) record { before = at; behind = g.behind - (at - g.before); front = g.front + size; back = g.back + size } (vec_items (with_items v ws))
moved v g sound at size ws lent low place e same is =
    let bytes : List ℕ = vec_items v in
    let ls : List Line = gap_lines g bytes in
    let new : Gap = record { before = at; behind = g.behind - (at - g.before); front = g.front + size; back = g.back + size } in
    let z : (g.back + size) - g.back ≡ size = omega arith in
    let w = is ∙ ap (λ (xs : List ℕ). paste xs g.front (drop g.back xs) ((g.back + size) - g.back)) same ∙ ap (λ (k : ℕ). paste bytes g.front (drop g.back bytes) k) z in
    let long = ap length w ∙ length_up ls g bytes sound at size low place e ∙ sym v.ok.0 in
    let P : List ℕ → Type 0 = Holds ls new in
    written_holds v new ws long ls (subst P (sym w) (holds_up ls g bytes sound at size low place e))

-- the lines that move lie in the memory
moves_in : (s : GapStore) (aft : List ℕ) (at size : ℕ) → s.gap.before ≤ at → at ≤ s.gap.before + s.gap.behind → aft ≡ drop s.gap.back (vec_items s.memory) → size ≡ length (packed (unpacked (at - s.gap.before) aft)) → s.gap.back + size ≤ length (vec_items s.memory)
moves_in s aft at size low place is e =
    let bytes : List ℕ = vec_items s.memory in
    size_in (gap_lines s.gap bytes) s.gap bytes s.sound at size low place (found s.gap bytes aft (at - s.gap.before) size s.sound (omega arith) is e)

pub overflow_add-gap : goal.overflow_add-gap
overflow_add-gap c =
    let s = c.args.self.now in
    let i = moves_in s c.aft.result.bytes.now c.args.at c.start-size.result c.requires.low c.requires.place c.aft.ensures.bytes c.start-size.ensures in
    omega (arith, s.sound.apart, s.small, s.memory.ok.0)

pub overflow_add-self : goal.overflow_add-self
overflow_add-self c =
    let s = c.args.self.now in
    let i = moves_in s c.aft.result.bytes.now c.args.at c.start-size.result c.requires.low c.requires.place c.aft.ensures.bytes c.start-size.ensures in
    omega (arith, s.sound.apart, s.small, s.memory.ok.0)

pub overflow_add-self-2 : goal.overflow_add-self-2
overflow_add-self-2 c =
    let s = c.args.self.now in
    let i = moves_in s c.aft.result.bytes.now c.args.at c.start-size.result c.requires.low c.requires.place c.aft.ensures.bytes c.start-size.ensures in
    omega (arith, s.sound.apart, s.small, s.memory.ok.0)

pub copy_within-requires-clause-in_bounds : goal.copy_within-requires-clause-in_bounds
copy_within-requires-clause-in_bounds c =
    let s = c.args.self.now in
    let i = moves_in s c.aft.result.bytes.now c.args.at c.start-size.result c.requires.low c.requires.place c.aft.ensures.bytes c.start-size.ensures in
    omega (arith, s.sound.apart, s.small, s.memory.ok.0, c.as_mut_slice.ensures.len)

pub copy_within-requires-clause-dest_in_bounds : goal.copy_within-requires-clause-dest_in_bounds
copy_within-requires-clause-dest_in_bounds c =
    let s = c.args.self.now in
    let i = moves_in s c.aft.result.bytes.now c.args.at c.start-size.result c.requires.low c.requires.place c.aft.ensures.bytes c.start-size.ensures in
    omega (arith, s.sound.apart, s.small, s.memory.ok.0, c.as_mut_slice.ensures.len)

pub invariant_of-self : goal.invariant_of-self
invariant_of-self c =
    let s = c.args.self.now in
    let bytes : List ℕ = vec_items s.memory in
    let size : ℕ = c.start-size.result in
    let e = found s.gap bytes c.aft.result.bytes.now (c.args.at - s.gap.before) size s.sound (omega (arith, c.requires.place)) c.aft.ensures.bytes c.start-size.ensures in
    let h = moved s.memory s.gap s.sound c.args.at size c.copy_within.new.self c.as_mut_slice.result.now c.requires.low c.requires.place e c.as_mut_slice.ensures.value c.copy_within.ensures.after in
    let f = s.few in
    record {
      small = s.small;
      few = omega (arith, c.requires.low, c.requires.place);
      sound = now_sound _ _ _ h;
      held = now_held _ _ _ h (held_all s.gap bytes s.held);
    }

pub returns-clause-lines : goal.returns-clause-lines
returns-clause-lines c =
    let s = c.args.self.now in
    let bytes : List ℕ = vec_items s.memory in
    let size : ℕ = c.start-size.result in
    let e = found s.gap bytes c.aft.result.bytes.now (c.args.at - s.gap.before) size s.sound (omega (arith, c.requires.place)) c.aft.ensures.bytes c.start-size.ensures in
    read_back _ _ _ (moved s.memory s.gap s.sound c.args.at size c.copy_within.new.self c.as_mut_slice.result.now c.requires.low c.requires.place e c.as_mut_slice.ensures.value c.copy_within.ensures.after)
