use Rattle.std.proofs.Common.{◌≡◌, ℕ, ◌+◌, ◌≤◌, List, length, vec_items, vec_len, sym, ap, ◌∙◌, subst, arith}
use lib.Seq.{paste}
use Rattle.std.specs.Vec.{with_items}
use Rattle.std.specs.List.{insert}
use Rattle.std.proofs.lemmas.List.Edits.{length-insert}
use Rattle.line.specs.Lines.{Line}
use Rattle.line.specs.Stores.{charges}
use Rattle.line.proofs.Edits.{lines_inserted}
use Rattle.gap_store.specs.Records.{record_of, taken}
use Rattle.gap_store.specs.Gaps.{gap_lines, Holds}
use Rattle.gap_store.specs.declared.gap.Gap.{Gap}
use Rattle.gap_store.specs.declared.store.GapStore.{GapStore}
use Rattle.gap_store.specs.GapsLemmas.{length_lines, read_back}
use Rattle.gap_store.specs.Stored.{sound_charged, held_all, now_sound, now_held, written_holds}
use Rattle.gap_store.proofs.Moved.{length_filled, holds_inserted}
use Rattle.gap_store.proofs.store.GapStore.insert_line.Goals as goal

-- the gap is as wide wherever it lies
room_left : (s m : GapStore) (n : ℕ) → gap_lines m.gap (vec_items m.memory) ≡ gap_lines s.gap (vec_items s.memory) → vec_len m.memory ≡ vec_len s.memory → s.gap.front + n ≤ s.gap.back → m.gap.front + n ≤ m.gap.back
room_left s m n same long room =
    let was = sound_charged s.memory s.gap s.sound in
    let is = sound_charged m.memory m.gap m.sound in
    let charged = ap (charges taken) same in
    let a = s.sound.apart in
    let b = m.sound.apart in
    omega arith

-- a line written at the front of the gap of a store with these lines
written : (ls : List Line) (m : GapStore) (at n : ℕ) (line ws lent : List ℕ) → gap_lines m.gap (vec_items m.memory) ≡ ls → m.gap.before ≡ at → m.gap.front + taken (length line) ≤ m.gap.back → n ≡ length line → lent ≡ vec_items m.memory → ws ≡ paste lent m.gap.front (record_of line) (taken (length line)) → Holds (insert ls at line) record { before = m.gap.before + 1; behind = m.gap.behind; front = (m.gap.front + n) + 2; back = m.gap.back } (vec_items (with_items m.memory ws))
written ls m at n line ws lent lines there room size same is =
    let g = m.gap in
    let bytes : List ℕ = vec_items m.memory in
    let had : List Line = gap_lines g bytes in
    let new : ℕ → Gap = λ k. record { before = g.before + 1; behind = g.behind; front = (g.front + k) + 2; back = g.back } in
    let w = is ∙ ap (λ (xs : List ℕ). paste xs g.front (record_of line) (taken (length line))) same in
    let long = ap length w ∙ length_filled had g bytes m.sound at line there room ∙ sym m.memory.ok.0 in
    let P : List ℕ → Type 0 = Holds (insert had at line) (new n) in
    let Q : ℕ → Type 0 = λ k. Holds (insert had at line) (new k) (paste bytes g.front (record_of line) (taken (length line))) in
    let R : List Line → Type 0 = λ xs. Holds (insert xs at line) (new n) (vec_items (with_items m.memory ws)) in
    subst R lines (written_holds m.memory (new n) ws long (insert had at line) (subst P (sym w) (subst Q (sym size) (holds_inserted had g bytes m.sound at line there room))))

pub write_record-requires : goal.write_record-requires
write_record-requires c =
    let m = c.move_gap.new.self in
    let room = room_left c.args.self.now m (taken (length c.args.line.bytes.now)) c.move_gap.ensures.lines c.move_gap.ensures.memory c.requires.room in
    omega (arith, m.sound.within, m.memory.ok.0, c.as_mut_slice.ensures.len)

pub invariant_of-self : goal.invariant_of-self
invariant_of-self c =
    let s = c.args.self.now in
    let m = c.move_gap.new.self in
    let line : List ℕ = c.args.line.bytes.now in
    let ls : List Line = gap_lines s.gap (vec_items s.memory) in
    let room = room_left s m (taken (length line)) c.move_gap.ensures.lines c.move_gap.ensures.memory c.requires.room in
    let h = written ls m c.args.at (length c.bytes.result.now) line c.write_record.new.memory c.as_mut_slice.result.now c.move_gap.ensures.lines c.move_gap.ensures.there room (ap length c.bytes.ensures) c.as_mut_slice.ensures.value c.write_record.ensures in
    let n = length_lines s.gap (vec_items s.memory) in
    let i = length-insert ls c.args.at line (omega (arith, c.requires.place)) in
    let k = h.counted in
    record {
      small = m.small;
      few = omega (arith, c.requires.few);
      sound = now_sound _ _ _ h;
      held = now_held _ _ _ h (lines_inserted ls c.args.at line c.args.line.good (held_all s.gap (vec_items s.memory) s.held));
    }

pub returns-clause-lines : goal.returns-clause-lines
returns-clause-lines c =
    let s = c.args.self.now in
    let m = c.move_gap.new.self in
    let line : List ℕ = c.args.line.bytes.now in
    let ls : List Line = gap_lines s.gap (vec_items s.memory) in
    let room = room_left s m (taken (length line)) c.move_gap.ensures.lines c.move_gap.ensures.memory c.requires.room in
    read_back _ _ _ (written ls m c.args.at (length c.bytes.result.now) line c.write_record.new.memory c.as_mut_slice.result.now c.move_gap.ensures.lines c.move_gap.ensures.there room (ap length c.bytes.ensures) c.as_mut_slice.ensures.value c.write_record.ensures)
