-- What moving the gap, writing a line into it and widening it make of the lines. Assumes nothing.
use Rattle.std.proofs.Common.{◌≡◌, ℕ, suc, ◌+◌, ◌-◌, ◌<◌, ◌≤◌, List, [], ◌∷◌, ◌++◌, length, get_or, take, drop, set, sym, ap, ◌∙◌, add-zero, arith, drop-cons, take-add}
use lib.Seq.{paste, length-paste, take-paste, take-append-add, drop-append-add}
use Rattle.std.specs.List.{insert, remove}
use Rattle.std.proofs.lemmas.List.{append_assoc, append-nil, get_or-drop, length-append, length-take, length-drop, take_all, take-take, take_at, drop_at, drop-drop, drop-take, take-append-drop, drop-append-le, set_split}
use Rattle.std.proofs.lemmas.List.Edits.{length-insert, length-remove}
use Rattle.line.specs.Lines.{Line}
use Rattle.line.proofs.Pastes.{take_below, part_above}
use Rattle.gap_store.specs.Records.{record_of, packed}
use Rattle.gap_store.specs.Gaps.{Holds}
use Rattle.gap_store.specs.declared.gap.Gap.{Gap}
use Rattle.gap_store.specs.RecordsLemmas.{length_record, packed_append, take_packed, drop_packed}

-- what was written and what lies behind it
drop_at_paste : (d s : List ℕ) (at n : ℕ) → at ≤ length d → drop at (paste d at s n) ≡ take n s ++ drop (at + n) d
drop_at_paste d s at n h =
    ap (drop at) (append_assoc (take at d) (take n s) (drop (at + n) d))
    ∙ drop_at (take at d) (take n s ++ drop (at + n) d) at (simp length-take (omega arith))

module _ (ls : List Line) (g : Gap) (bytes : List ℕ) (h : Holds ls g bytes) where
  apart : g.front ≤ g.back
  apart = h.apart

  within : g.back ≤ length bytes
  within = h.within

  counted : g.before + g.behind ≡ length ls
  counted = h.counted

  -- the gap moves down to line `at`, which starts at `start`
  module _ (at start : ℕ) (place : at ≤ g.before) (e : start ≡ length (packed (take at ls))) where
    abbrev part : List Line
    part = take g.before ls

    same : take at part ≡ take at ls
    same = take-take at g.before ls place

    start_same : start ≡ length (packed (take at part))
    start_same = e ∙ ap (λ (r : List Line). length (packed r)) (sym same)

    pub start_low : start ≤ g.front
    start_low =
        let a = ap length (take_packed part at) in
        let b = length-take (length (packed (take at part))) (packed part) in
        let d = ap length h.fore in
        let f = length-take g.front bytes in
        omega (arith, start_same)

    abbrev size : ℕ
    size = g.front - start

    abbrev down : List ℕ
    down = paste bytes (g.back - size) (drop start bytes) size

    begins : g.back - size ≤ length bytes
    begins = omega (arith, within)

    enough : size ≤ length (drop start bytes)
    enough = simp length-drop (omega (arith, within, apart, start_low))

    pub length_down : length down ≡ length bytes
    length_down = length-paste bytes (g.back - size) (drop start bytes) size (omega (arith, within, apart, start_low)) enough

    -- the lines from `at` on that stood before the gap
    mid : take size (drop start bytes) ≡ packed (drop at part)
    mid =
        let z : start + size ≡ g.front = omega (arith, start_low) in
        sym (drop-take start size bytes)
        ∙ ap (λ (k : ℕ). drop start (take k bytes)) z
        ∙ ap (drop start) h.fore
        ∙ ap (λ (k : ℕ). drop k (packed part)) start_same
        ∙ drop_packed part at

    pub holds_down : Holds ls record { before = at; behind = g.behind + (g.before - at); front = start; back = g.back - size } down
    holds_down =
        let low = start_low in
        let ap' = apart in
        let wi = within in
        let co = counted in
        record {
          apart = omega arith;
          within = omega (arith, length_down);
          counted = omega arith;
          fore =
              take_below bytes (drop start bytes) (g.back - size) size begins enough start (omega arith)
              ∙ sym (take-take start g.front bytes low)
              ∙ ap (take start) h.fore
              ∙ ap (λ (k : ℕ). take k (packed part)) start_same
              ∙ take_packed part at
              ∙ ap packed same;
          aft =
              let z : (g.back - size) + size ≡ g.back = omega arith in
              let l : at ≤ length part = simp length-take (omega arith) in
              drop_at_paste bytes (drop start bytes) (g.back - size) size begins
              ∙ ap (λ (r : List ℕ). r ++ drop ((g.back - size) + size) bytes) mid
              ∙ ap (λ (k : ℕ). packed (drop at part) ++ drop k bytes) z
              ∙ ap (λ (r : List ℕ). packed (drop at part) ++ r) h.aft
              ∙ sym (packed_append (drop at part) (drop g.before ls))
              ∙ ap packed (sym (drop-append-le at part (drop g.before ls) l) ∙ ap (drop at) (take-append-drop g.before ls));
        }

  -- the gap moves up to line `at`, which starts `size` behind it
  module _ (at size : ℕ) (low : g.before ≤ at) (place : at ≤ g.before + g.behind) (e : size ≡ length (packed (take (at - g.before) (drop g.before ls)))) where
    abbrev rest : List Line
    rest = drop g.before ls

    abbrev more : ℕ
    more = at - g.before

    pub size_in : g.back + size ≤ length bytes
    size_in =
        let a = ap length (take_packed rest more) in
        let b = length-take (length (packed (take more rest))) (packed rest) in
        let d = ap length h.aft in
        let f = length-drop g.back bytes in
        omega (arith, e, within)

    begins_up : g.front ≤ length bytes
    begins_up = omega (arith, apart, within)

    enough_up : size ≤ length (drop g.back bytes)
    enough_up = simp length-drop (omega (arith, size_in))

    abbrev up : List ℕ
    up = paste bytes g.front (drop g.back bytes) size

    pub length_up : length up ≡ length bytes
    length_up = length-paste bytes g.front (drop g.back bytes) size (omega (arith, size_in, apart)) enough_up

    pub holds_up : Holds ls record { before = at; behind = g.behind - (at - g.before); front = g.front + size; back = g.back + size } up
    holds_up =
        let si = size_in in
        let ap' = apart in
        let wi = within in
        let co = counted in
        let z : g.before + more ≡ at = omega arith in
        record {
          apart = omega arith;
          within = omega (arith, length_up);
          counted = omega arith;
          fore =
              take-paste bytes g.front (drop g.back bytes) size begins_up enough_up
              ∙ ap (λ (r : List ℕ). r ++ take size (drop g.back bytes)) h.fore
              ∙ ap (λ (r : List ℕ). packed (take g.before ls) ++ take size r) h.aft
              ∙ ap (λ (k : ℕ). packed (take g.before ls) ++ take k (packed rest)) e
              ∙ ap (λ (r : List ℕ). packed (take g.before ls) ++ r) (take_packed rest more)
              ∙ sym (packed_append (take g.before ls) (take more rest))
              ∙ ap packed (sym (take-add g.before more ls) ∙ ap (λ (k : ℕ). take k ls) z);
          aft =
              part_above bytes (drop g.back bytes) g.front size begins_up enough_up (g.back + size) (omega arith)
              ∙ sym (drop-drop size g.back bytes)
              ∙ ap (drop size) h.aft
              ∙ ap (λ (k : ℕ). drop k (packed rest)) e
              ∙ drop_packed rest more
              ∙ ap packed (drop-drop more g.before ls ∙ ap (λ (k : ℕ). drop k ls) z);
        }

  -- a line is written at the front of the gap
  module _ (at : ℕ) (line : Line) (there : g.before ≡ at) (room : g.front + (length line + 2) ≤ g.back) where
    abbrev wide : ℕ
    wide = length line + 2

    begins_in : g.front ≤ length bytes
    begins_in = omega (arith, apart, within)

    enough_in : wide ≤ length (record_of line)
    enough_in = omega (arith, length_record line)

    abbrev filled : List ℕ
    filled = paste bytes g.front (record_of line) wide

    pub length_filled : length filled ≡ length bytes
    length_filled = length-paste bytes g.front (record_of line) wide (omega (arith, within)) enough_in

    pub holds_inserted : Holds (insert ls at line) record { before = g.before + 1; behind = g.behind; front = (g.front + length line) + 2; back = g.back } filled
    holds_inserted =
        let ap' = apart in
        let wi = within in
        let co = counted in
        let l : length (take at ls) ≡ at = simp length-take (omega arith) in
        let z : (g.front + length line) + 2 ≡ g.front + wide = omega arith in
        let n : length (take at ls) + 1 ≡ g.before + 1 = omega arith in
        let all : take wide (record_of line) ≡ record_of line = take_all wide (record_of line) (omega (arith, length_record line)) in
        record {
          apart = omega arith;
          within = omega (arith, length_filled);
          counted = let i = length-insert ls at line (omega arith) in omega arith;
          fore =
              ap (λ (k : ℕ). take k filled) z
              ∙ take-paste bytes g.front (record_of line) wide begins_in enough_in
              ∙ ap (λ (r : List ℕ). r ++ take wide (record_of line)) h.fore
              ∙ ap (λ (k : ℕ). packed (take k ls) ++ take wide (record_of line)) there
              ∙ ap (λ (r : List ℕ). packed (take at ls) ++ r) (all ∙ sym (append-nil (record_of line)))
              ∙ sym (packed_append (take at ls) (line ∷ []))
              ∙ ap packed (sym (take-append-add (take at ls) (line ∷ drop at ls) 1) ∙ ap (λ (k : ℕ). take k (insert ls at line)) n);
          aft =
              part_above bytes (record_of line) g.front wide begins_in enough_in g.back room
              ∙ h.aft
              ∙ ap (λ (k : ℕ). packed (drop k ls)) there
              ∙ ap packed (sym (drop-append-add (take at ls) (line ∷ drop at ls) 1) ∙ ap (λ (k : ℕ). drop k (insert ls at line)) n);
        }

  -- the gap takes the first line behind it
  module _ (at : ℕ) (there : g.before ≡ at) (place : at < length ls) where
    abbrev line_there : Line
    line_there = get_or ls at []

    behind_is : drop g.back bytes ≡ record_of line_there ++ packed (drop (suc at) ls)
    behind_is = h.aft ∙ ap (λ (k : ℕ). packed (drop k ls)) there ∙ ap packed (drop-cons ls at [] place)

    pub back_low : g.back < length bytes
    back_low =
        let a = ap length behind_is in
        let b = length-drop g.back bytes in
        omega arith

    pub length_there : get_or bytes g.back 0 ≡ length line_there
    length_there =
        ap (λ (k : ℕ). get_or bytes k 0) (sym (add-zero g.back))
        ∙ sym (get_or-drop g.back bytes 0 0)
        ∙ ap (λ (r : List ℕ). get_or r 0 0) behind_is

    pub holds_removed : (n : ℕ) → n ≡ length line_there → Holds (remove ls at) record { before = g.before; behind = g.behind - 1; front = g.front; back = (g.back + n) + 2 } bytes
    holds_removed n e =
        let ap' = apart in
        let wi = within in
        let co = counted in
        let l : length (take at ls) ≡ at = simp length-take (omega arith) in
        let w : g.back + (length line_there + 2) ≤ length bytes =
        let a = ap length behind_is in
        let b = length-drop g.back bytes in
        let d = length-append (record_of line_there) (packed (drop (suc at) ls)) in
        let r = length_record line_there in
        omega arith
        in
        let z : (g.back + n) + 2 ≡ g.back + (length (record_of line_there) + 0) = omega (arith, length_record line_there) in
        record {
          apart = omega arith;
          within = omega arith;
          counted = let i = length-remove ls at place in omega arith;
          fore = h.fore ∙ ap (λ (k : ℕ). packed (take k ls)) there ∙ ap packed (sym (take_at (take at ls) (drop (suc at) ls) g.before (l ∙ sym there)));
          aft =
              ap (λ (k : ℕ). drop k bytes) z
              ∙ sym (drop-drop (length (record_of line_there) + 0) g.back bytes)
              ∙ ap (drop (length (record_of line_there) + 0)) behind_is
              ∙ drop-append-add (record_of line_there) (packed (drop (suc at) ls)) 0
              ∙ ap packed (sym (drop_at (take at ls) (drop (suc at) ls) g.before (l ∙ sym there)));
        }

pub put_back : (ls : List Line) (at : ℕ) (line : Line) → at < length ls → insert (remove ls at) at line ≡ set ls at line
put_back ls at line h =
    let l : length (take at ls) ≡ at = simp length-take (omega arith) in
    rw (take_at (take at ls) (drop (suc at) ls) at l, drop_at (take at ls) (drop (suc at) ls) at l) (sym (set_split ls at line h))
