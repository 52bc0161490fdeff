-- Parts of bytes over which others were written. Assumes nothing.
use Rattle.std.proofs.Common.{◌≡◌, ℕ, suc, ◌+◌, ◌-◌, ◌<◌, ◌≤◌, List, [], ◌∷◌, ◌++◌, length, take, drop, set, sym, ap, ◌∙◌, arith}
use lib.Seq.{paste, drop-paste, take-length}
use borrow.Rule.Slice.PartMut.{put_mid}
use Rattle.std.proofs.lemmas.List.{append_assoc, drop-drop, drop-take, drop_at, take-take, take-append-le, length-take, length-append, take_more_set, drop-set-lt}

-- n bytes of s are written over d from a place on
module _ (d s : List ℕ) (at n : ℕ) (h : at ≤ length d) (l : n ≤ length s) where
  front : length (take at d) ≡ at
  front = simp length-take (omega arith)

  mid : length (take n s) ≡ n
  mid = simp length-take (omega arith)

  -- a part before the place is kept
  pub part_below : (from k : ℕ) → from + k ≤ at → take k (drop from (paste d at s n)) ≡ take k (drop from d)
  part_below from k b =
      let a : from + k ≤ length (take at d) = omega (arith, front) in
      let w : from + k ≤ length (take at d ++ take n s) = omega (arith, length-append (take at d) (take n s), front) in
      sym (drop-take from k (paste d at s n))
      ∙ ap (drop from)
      (take-append-le (from + k) (take at d ++ take n s) (drop (at + n) d) w
      ∙ take-append-le (from + k) (take at d) (take n s) a
      ∙ take-take (from + k) at d (omega arith))
      ∙ drop-take from k d

  pub take_below : (k : ℕ) → k ≤ at → take k (paste d at s n) ≡ take k d
  take_below k b = part_below 0 k (omega arith)

  -- what lies behind is kept
  pub part_above : (from : ℕ) → at + n ≤ from → drop from (paste d at s n) ≡ drop from d
  part_above from b =
      let k : ℕ = from - (at + n) in
      let e : (at + n) + k ≡ from = omega arith in
      rw (← e) (sym (drop-drop k (at + n) (paste d at s n)) ∙ ap (drop k) (drop-paste d at s n h l) ∙ drop-drop k (at + n) d)

  -- a part of what was written
  pub part_inside : (from k : ℕ) → from + k ≤ n → take k (drop (at + from) (paste d at s n)) ≡ take k (drop from s)
  part_inside from k b =
      let e : paste d at s n ≡ take at d ++ (take n s ++ drop (at + n) d) = append_assoc (take at d) (take n s) (drop (at + n) d) in
      let f : drop at (paste d at s n) ≡ take n s ++ drop (at + n) d = rw e (drop_at (take at d) (take n s ++ drop (at + n) d) at front) in
      let m : from + k ≤ length (take n s) = omega (arith, mid) in
      ap (take k) (sym (drop-drop from at (paste d at s n)) ∙ ap (drop from) f)
      ∙ sym (drop-take from k (take n s ++ drop (at + n) d))
      ∙ ap (drop from) (take-append-le (from + k) (take n s) (drop (at + n) d) m ∙ take-take (from + k) n s b)
      ∙ drop-take from k s

-- a length and the bytes behind it, written one after the other
pub put_mid_record : (d : List ℕ) (at : ℕ) (line : List ℕ) (k : ℕ) (ys : List ℕ) → at < length d → k ≡ length line → ys ≡ line → put_mid (at + 1) k (set d at (length line)) ys ≡ paste d at (length line ∷ line) (suc (length line))
put_mid_record d at line k ys h e f =
    let a : take (at + 1) (set d at (length line)) ≡ take at d ++ length line ∷ [] = take_more_set d at (length line) h in
    let b : drop (at + 1) (set d at (length line)) ≡ drop (at + 1) d = drop-set-lt (at + 1) d at (length line) (omega arith) in
    let g : (at + 1) + length line ≡ at + suc (length line) = omega arith in
    let t : take (length line) line ≡ line = take-length line in
    rw (f, e, a, b, drop-drop, g, t, append_assoc, append_assoc)
