-- A row put together from its columns. Assumes nothing.
use Rattle.std.proofs.Common.{◌≡◌, ℕ, ◌+◌, ◌-◌, ◌/◌, ◌<◌, ◌≤◌, true, List, [], ◌∷◌, ◌++◌, length, take, drop, replicate, ℤ, pos, negsuc, ◌≤ℤ◌, is_ok, Result, sym, refl, ap, ◌∙◌, append_assoc, div-le_self, arith, le-ltb, le-leb}
use borrow.Author.Tests.{lt-leb}
use borrow.Rule.Slice.PartMut.{put_mid}
use Rattle.std.specs.Fmt.{signed_decimal}
use Rattle.std.proofs.lemmas.Fmt.{length_signed_le, length-decimal-le}
use Rattle.std.proofs.lemmas.List.{take_at, drop_at, drop-drop, append-nil, length-append, length-replicate, replicate-append-replicate, take-append-drop, length-take-le, length-drop}
use Rattle.std.proofs.lemmas.Int.{ints}
use Rattle.numerals.specs.declared.write.FieldFault.{FieldFault}
use Rattle.numerals.specs.Fields.{field, placed, verdict}
use Rattle.numerals.proofs.RightAligned.{law}
use Rattle.engine.specs.Promise.{fronted}
use Rattle.division.specs.Floor.{quotient, remainder}
use Rattle.division.proofs.TowardZero.{floors}
use Rattle.numberer.specs.Rows.{padded, first_row, second_row, rows_of}

-- something is put over what stands behind a
pub over : (a old b new : List ℕ) (at k : ℕ) → length a ≡ at → length old ≡ k → put_mid at k (a ++ (old ++ b)) new ≡ a ++ (new ++ b)
over a old b new at k m n =
    ap (λ l. l ++ (new ++ drop k (drop at (a ++ (old ++ b))))) (take_at a (old ++ b) at m)
    ∙ ap (λ l. a ++ (new ++ drop k l)) (drop_at a (old ++ b) at m)
    ∙ ap (λ l. a ++ (new ++ l)) (drop_at old b k n)

pub placed_over : (a old b : List ℕ) (at width : ℕ) (z : ℤ) → length a ≡ at → length old ≡ width → placed (a ++ (old ++ b)) at width z ≡ a ++ (field width z ++ b)
placed_over a old b at width z m n =
    ap (λ l. take at (a ++ (old ++ b)) ++ (field width z ++ l)) (sym (drop-drop width at (a ++ (old ++ b)))) ∙ over a old b (field width z) at width m n

-- spaces in two parts
pub spaces : (k n : ℕ) → n ≤ k → replicate {A = ℕ} k 32 ≡ replicate n 32 ++ replicate (k - n) 32
spaces k n h = let e : n + (k - n) ≡ k = omega arith in ap (λ m. replicate {A = ℕ} m 32) (sym e) ∙ sym (replicate-append-replicate {A = ℕ} n (k - n) 32)

-- a text in its columns, from spaces on
pub texted : (row bytes text : List ℕ) → length text ≤ 60 → row ≡ replicate 72 32 → bytes ≡ text → put_mid 12 (12 + length text - 12) row bytes ≡ replicate 12 32 ++ padded 60 text
texted row bytes text h e f =
    let n = length text in
    let k : n ≡ 12 + n - 12 = omega arith in
    let parts : row ≡ replicate 12 32 ++ (replicate n 32 ++ replicate (60 - n) 32) = e ∙ ap (λ l. replicate 12 32 ++ l) (spaces 60 n h) in
    (λ i. put_mid 12 (12 + length text - 12) (parts i) (f i)) ∙ over (replicate 12 32) (replicate n 32) (replicate (60 - n) 32) text 12 (12 + length text - 12) refl (length-replicate n 32 ∙ k)

-- the first row, from the text in its columns on: the turn, and the stop
pub first : (row₀ row₁ row₂ text : List ℕ) (turn stop : ℤ) → row₀ ≡ replicate 12 32 ++ padded 60 text → row₁ ≡ placed row₀ 0 7 turn → row₂ ≡ placed row₁ 8 3 stop → row₂ ≡ field 7 turn ++ (32 ∷ (field 3 stop ++ (32 ∷ padded 60 text)))
first row₀ row₁ row₂ text turn stop e₀ e₁ e₂ =
    let t = field 7 turn in
    let p = field 3 stop in
    let a = t ++ (32 ∷ []) in
    let rest = padded 60 text in
    let la : length a ≡ 8 = length-append t (32 ∷ []) ∙ ap (λ m. m + 1) (law.wide 7 turn) in
    let s₁ : row₁ ≡ t ++ (replicate 5 32 ++ rest) = e₁ ∙ ap (λ r. placed r 0 7 turn) e₀ ∙ placed_over [] (replicate 7 32) (replicate 5 32 ++ rest) 0 7 turn refl refl in
    let s₂ : row₁ ≡ a ++ (replicate 3 32 ++ (32 ∷ rest)) = s₁ ∙ sym (append_assoc t (32 ∷ []) (replicate 4 32 ++ rest)) in
    e₂ ∙ ap (λ r. placed r 8 3 stop) s₂ ∙ placed_over a (replicate 3 32) (32 ∷ rest) 8 3 stop la refl ∙ append_assoc t (32 ∷ []) (p ++ (32 ∷ rest))

-- numbers of so many digits fit
pub fits : (size at width : ℕ) (z : ℤ) (r : Result (Unit {0}) FieldFault) → at + width ≤ size → length (signed_decimal z) ≤ width → r ≡ verdict size at width z → is_ok r ≡ true
fits size at width z r h w e = ap is_ok e ∙ simp (le-ltb size (at + width) h, le-ltb width (length (signed_decimal z)) w)

pub turn_size : (v : ℤ) (m : ℕ) → negsuc 99998 ≤ℤ v → v ≤ℤ pos 100000 → length (signed_decimal (quotient v m)) ≤ 7
turn_size (pos a) m low high =
    let h : a ≤ 100000 = grind (arith, ints) in
    length_signed_le 6 (pos (a / m)) (omega (arith, div-le_self a m)) (omega (arith, div-le_self a m))
turn_size (negsuc a) m low high =
    let h : a ≤ 99998 = grind (arith, ints) in
    length_signed_le 6 (negsuc (a / m)) (omega (arith, div-le_self a m)) (omega (arith, div-le_self a m))

pub stop_size : (v : ℤ) (m : ℕ) → 0 < m → m ≤ 256 → length (signed_decimal (pos (remainder v m))) ≤ 3
stop_size v m some few = let l = (floors v m some).low in length-decimal-le 3 (remainder v m) (omega arith) (omega arith) (omega arith)

-- one row at the front of the buffer
pub one_row : (turn : ℤ) (stop : ℕ) (text buffer row : List ℕ) → length text ≤ 60 → row ≡ first_row turn stop text → row ++ drop 72 buffer ≡ fronted (rows_of turn stop text) buffer
one_row turn stop text buffer row short e =
    let q : rows_of turn stop text ≡ row ∷ [] = simp (le-leb (length text) 60 short) (ap (λ r. r ∷ []) (sym e)) in
    ap (λ l. l ++ drop 72 buffer) (sym (append-nil row)) ∙ ap (λ rows. fronted rows buffer) (sym q)

-- two rows
pub two_rows : (turn : ℤ) (stop : ℕ) (text buffer row row' : List ℕ) → 60 < length text → length row ≡ 72 → 144 ≤ length buffer → row ≡ first_row turn stop text → row' ≡ second_row text → put_mid 72 72 (row ++ drop 72 buffer) row' ≡ fronted (rows_of turn stop text) buffer
two_rows turn stop text buffer row row' long size room e f =
    let q : rows_of turn stop text ≡ row ∷ row' ∷ [] = simp (lt-leb (length text) 60 long) (λ i. sym e i ∷ sym f i ∷ []) in
    let old = take 72 (drop 72 buffer) in
    let d : drop 72 buffer ≡ old ++ drop 144 buffer = sym (take-append-drop 72 (drop 72 buffer)) ∙ ap (λ l. old ++ l) (drop-drop 72 72 buffer) in
    let k : length old ≡ 72 = length-take-le 72 (drop 72 buffer) (simp length-drop (omega arith)) in
    ap (λ l. put_mid 72 72 (row ++ l) row') d
    ∙ over row old (drop 144 buffer) row' 72 72 size k
    ∙ sym (append_assoc row row' (drop 144 buffer))
    ∙ ap (λ l. (row ++ l) ++ drop 144 buffer) (sym (append-nil row'))
    ∙ ap (λ rows. fronted rows buffer) (sym q)
