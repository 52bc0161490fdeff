-- Edits keep what the marks say. Assumes nothing.
use Rattle.std.proofs.Common.{◌≡◌, ℕ, suc, ◌+◌, ◌-◌, ◌<◌, ◌≤◌, min, Bool, true, false, cond, ltb, leb, List, [], ◌∷◌, ◌++◌, length, take, drop, set, Some, None, sym, refl, ap, ◌∙◌, arith, length-set, length-take-le, take-take, drop-drop, drop-set-lt, ltb-true, leb-true}
use lib.Seq.{take-set-le, take-append-le, drop-append-add}
use Rattle.std.specs.List.{insert as inserted, remove as removed}
use Rattle.std.proofs.lemmas.List.Edits.{length-insert, length-remove}
use Rattle.line.specs.Lines.{Line}
use Rattle.line.specs.Stores.{Edit, Edit.replace, Edit.insert, Edit.remove, edited, place_fault}
use Rattle.page_rule.specs.declared.marks.Marks.{Marks}
use Rattle.page_rule.specs.Moving.{Moves}
use Rattle.page_rule.specs.Marks.{all_untouched, marks_after, all_edited, all_marked, AllAccepted, Marked, MarksLaw}

-- a test that gives no fault is true
pub passed : {F : Type 0} (b : Bool) (f : F) → cond b None (Some f) ≡ None → b ≡ true
passed true f h = refl
passed false f h = cc

module _ (old now : List Line) (marks : Marks) (m : Marked old now marks) where
  -- fewer items of the tail
  tail_less : (t : ℕ) → t ≤ marks.tail → drop (length now + 1 - t) now ≡ drop (length old + 1 - t) old
  tail_less t b =
      let tail = marks.tail in
      let k = m.tail_now in
      let l = m.tail_old in
      let n : length now + 1 - t ≡ length now + 1 - tail + (tail - t) = omega arith in
      let o : length old + 1 - tail + (tail - t) ≡ length old + 1 - t = omega arith in
      ap (λ i. drop i now) n
      ∙ sym (drop-drop (tail - t) (length now + 1 - tail) now)
      ∙ ap (drop (tail - t)) m.tails
      ∙ drop-drop (tail - t) (length old + 1 - tail) old
      ∙ ap (λ i. drop i old) o

  -- a text that is as it was in front of line `at`, and for `t` items at its end
  renew : (new : List Line) (h at t : ℕ) → h ≤ marks.head → h ≤ at → at ≤ length new → take h new ≡ take h now
      → t ≤ marks.tail → t ≤ length new + 1 → drop (length new + 1 - t) new ≡ drop (length now + 1 - t) now → Marked old new (record { head = h; tail = t })
  renew new h at t hh ha an front ht hn back = record {
    head_old = let l = m.head_old in omega arith;
    head_now = omega arith;
    tail_old = let l = m.tail_old in omega arith;
    tail_now = hn;
    heads = front ∙ sym (take-take h marks.head now hh) ∙ ap (take h) m.heads ∙ take-take h marks.head old hh;
    tails = back ∙ tail_less t ht;
  }

tail_lines : (old now : List Line) (marks : Marks) (i j : ℕ) → Marked old now marks → length now + 1 - j ≤ marks.tail → Moves (length old + 1) (length now + 1) i j → drop j now ≡ drop i old
tail_lines old now marks i j m w l =
    let t = length now + 1 - j in
    let past = j - (length now + 1) in
    let b = m.tail_old in
    let n : j ≡ length now + 1 - t + past = omega arith in
    let o : length old + 1 - t + past ≡ i = omega arith in
    ap (λ k. drop k now) n
    ∙ sym (drop-drop past (length now + 1 - t) now)
    ∙ ap (drop past) (tail_less old now marks m t w)
    ∙ drop-drop past (length old + 1 - t) old
    ∙ ap (λ k. drop k old) o

-- a front of what `inserted` and `removed` leave, and what stands behind the place
front_of : (ls more : List Line) (h at : ℕ) → h ≤ at → at ≤ length ls → take h (take at ls ++ more) ≡ take h ls
front_of ls more h at b c = let l = length-take-le at ls c in take-append-le h (take at ls) more (omega arith) ∙ take-take h at ls b

back_of : (ls more : List Line) (at k : ℕ) → at ≤ length ls → drop (at + k) (take at ls ++ more) ≡ drop k more
back_of ls more at k c = ap (λ n. drop (n + k) (take at ls ++ more)) (sym (length-take-le at ls c)) ∙ drop-append-add (take at ls) more k

one_more : (old now : List Line) (marks : Marks) (edit : Edit) → Marked old now marks → place_fault (length now) edit ≡ None → Marked old (edited now edit) (marks_after (length now) marks edit)
one_more old now marks (replace at l) m a =
    let b : at < length now = ltb-true at (length now) (passed (ltb at (length now)) _ a) in
    let n = length-set now at l in
    let h = min marks.head at in
    let t = min marks.tail (length now - at) in
    let same : length (set now at l) + 1 - t ≡ length now + 1 - t = omega arith in
    renew old now marks m (set now at l) h at t (omega arith) (omega arith) (omega arith)
    (take-set-le h now at l (omega arith)) (omega arith) (omega arith)
    (ap (λ k. drop k (set now at l)) same ∙ drop-set-lt (length now + 1 - t) now at l (omega arith))
one_more old now marks (insert at l) m a =
    let b : at ≤ length now = leb-true at (length now) (passed (leb at (length now)) _ a) in
    let n = length-insert now at l b in
    let h = min marks.head at in
    let t = min marks.tail (length now + 1 - at) in
    let k = length now + 1 - t - at in
    let to : length (inserted now at l) + 1 - t ≡ at + suc k = omega arith in
    let on : at + k ≡ length now + 1 - t = omega arith in
    renew old now marks m (inserted now at l) h at t (omega arith) (omega arith) (omega arith)
    (front_of now (l ∷ drop at now) h at (omega arith) b) (omega arith) (omega arith)
    (ap (λ n. drop n (inserted now at l)) to ∙ back_of now (l ∷ drop at now) at (suc k) b ∙ drop-drop k at now ∙ ap (λ n. drop n now) on)
one_more old now marks (remove at) m a =
    let b : at < length now = ltb-true at (length now) (passed (ltb at (length now)) _ a) in
    let n = length-remove now at b in
    let h = min marks.head at in
    let t = min marks.tail (length now - at) in
    let k = length now - t - at in
    let to : length (removed now at) + 1 - t ≡ at + k = omega arith in
    let on : suc at + k ≡ length now + 1 - t = omega arith in
    let c : at ≤ length now = omega arith in
    renew old now marks m (removed now at) h at t (omega arith) (omega arith) (omega arith)
    (front_of now (drop (suc at) now) h at (omega arith) c) (omega arith) (omega arith)
    (ap (λ n. drop n (removed now at)) to ∙ back_of now (drop (suc at) now) at k c ∙ drop-drop k (suc at) now ∙ ap (λ n. drop n now) on)

after_all : (old now : List Line) (marks : Marks) (edits : List Edit) → Marked old now marks → AllAccepted now edits → Marked old (all_edited now edits) (all_marked now marks edits)
after_all old now marks [] m a = m
after_all old now marks (e ∷ es) m a = after_all old (edited now e) (marks_after (length now) marks e) es (one_more old now marks e m a.0) a.1

falls : (n : ℕ) (marks : Marks) (edit : Edit) → ((marks_after n marks edit).head ≤ marks.head) × ((marks_after n marks edit).tail ≤ marks.tail)
falls n marks (replace at l) = (omega arith, omega arith)
falls n marks (insert at l) = (omega arith, omega arith)
falls n marks (remove at) = (omega arith, omega arith)

falls_all : (lines : List Line) (marks : Marks) (edits : List Edit) → ((all_marked lines marks edits).head ≤ marks.head) × ((all_marked lines marks edits).tail ≤ marks.tail)
falls_all lines marks [] = (omega arith, omega arith)
falls_all lines marks (e ∷ es) =
    let f = falls (length lines) marks e in
    let g = falls_all (edited lines e) (marks_after (length lines) marks e) es in
    (omega (arith, f.0, g.0), omega (arith, f.1, g.1))

-- the first edit
apart_first : (n : ℕ) (edit : Edit) → place_fault n edit ≡ None → (marks_after n (all_untouched (n + 1)) edit).head + (marks_after n (all_untouched (n + 1)) edit).tail ≤ n + 1
apart_first n (replace at l) a = let b = ltb-true at n (passed (ltb at n) _ a) in omega arith
apart_first n (insert at l) a = let b = leb-true at n (passed (leb at n) _ a) in omega arith
apart_first n (remove at) a = let b = ltb-true at n (passed (ltb at n) _ a) in omega arith

apart : (lines : List Line) (edits : List Edit) → AllAccepted lines edits → 0 < length edits
    → (all_marked lines (all_untouched (length lines + 1)) edits).head + (all_marked lines (all_untouched (length lines + 1)) edits).tail ≤ length lines + 1
apart lines [] a h = absurd (omega arith)
apart lines (e ∷ es) a h =
    let f = apart_first (length lines) e a.0 in
    let g = falls_all (edited lines e) (marks_after (length lines) (all_untouched (length lines + 1)) e) es in
    omega (arith, f, g.0, g.1)

at_first : (lines : List Line) → Marked lines lines (all_untouched (length lines + 1))
at_first lines = record { head_old = omega arith; head_now = omega arith; tail_old = omega arith; tail_now = omega arith; heads = refl; tails = refl }

pub marks_law : MarksLaw
marks_law = record {
  at_first = at_first;
  one_more = one_more;
  after_all = λ lines edits a. after_all lines lines (all_untouched (length lines + 1)) edits (at_first lines) a;
  tail_lines = tail_lines;
  falls = falls;
  apart = apart;
}
