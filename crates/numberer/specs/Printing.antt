-- Steps of the numberer: their rows are rows, and what the code computes is the turn and the stop. Assumes nothing.
use Rattle.std.specs.Prelude.{◌≡◌, ℕ, ◌-◌, ◌≤◌, Bool, true, false, cond, List, [], ◌∷◌, ◌++◌, length, take, drop, replicate, ℤ, pos, ◌+ℤ◌, ◌<ℤ◌, Some, Option, MatchOption, nat_le, unsigned_abs, int_lt, refl}
use Rattle.std.proofs.Common.{◌∙◌, arith}
use Rattle.std.proofs.lemmas.List.{length-append, length-replicate, length-take, length-drop}
use Rattle.std.proofs.lemmas.Option.{MatchOption-at_some}
use Rattle.std.proofs.lemmas.Int.{ints}
use Rattle.line.specs.Lines.{Line, is_line}
use Rattle.line.proofs.Edits.{line_short}
use Rattle.engine.specs.Model.{Stepped, Stepped.goes, Sized, SizedStep, no_line}
use Rattle.division.specs.declared.divisor.Divisor.{Divisor}
use Rattle.division.specs.Floor.{quotient, remainder}
use Rattle.numerals.proofs.RightAligned.{law}
use Rattle.numerals.specs.Fields.{field}
use Rattle.directive.specs.Grammar.{Said, Said.text, Said.directive, Said.malformed, said}
use Rattle.directive.proofs.Sound.{Sound, sound}
use Rattle.numberer.specs.declared.letter.NumberLetter.{NumberLetter}
use Rattle.numberer.specs.declared.letter.NumberLetter.TheVariants.{SetNumber, SetStops}
use Rattle.numberer.specs.Letters.{spelled, takes}
use Rattle.numberer.specs.Rows.{padded, first_row, second_row, rows_of}
use Rattle.numberer.specs.Numbering.{Numbering, number_limit, rows_at, printed, obeyed, numbering}

-- a row is as wide as a row is
length_padded : (width : ℕ) (t : List ℕ) → length t ≤ width → length (padded width t) ≡ width
length_padded width t h = length-append t (replicate (width - length t) 32) ∙ (let n = length-replicate {A = ℕ} (width - length t) 32 in omega arith)

first_wide : (turn : ℤ) (stop : ℕ) (t : List ℕ) → length (first_row turn stop t) ≡ 72
first_wide turn stop t =
    let a = law.wide 7 turn in
    let b = law.wide 3 (pos stop) in
    let k : length (take 60 t) ≤ 60 = simp length-take (omega arith) in
    let p = length_padded 60 (take 60 t) k in
    let n = length-append (field 3 (pos stop)) (32 ∷ padded 60 (take 60 t)) in
    let m = length-append (field 7 turn) (32 ∷ (field 3 (pos stop) ++ (32 ∷ padded 60 (take 60 t)))) in
    omega arith

second_wide : (t : List ℕ) → length t ≤ 120 → length (second_row t) ≡ 72
second_wide t h =
    let k : length (drop 60 t) ≤ 60 = simp length-drop (omega arith) in
    let p = length_padded 60 (drop 60 t) k in
    omega arith

sized_rows : (turn : ℤ) (stop : ℕ) (t : List ℕ) → length t ≤ 120 → Sized (rows_of turn stop t)
sized_rows turn stop t h =
    elim (nat_le (length t) 60) as (λ v. Sized (first_row turn stop t ∷ cond v [] (second_row t ∷ []))) [
      | true ↦ record { few = omega arith; wide = (first_wide turn stop t, tt) }
      | false ↦ record { few = omega arith; wide = (first_wide turn stop t, (second_wide t h, tt)) }
    ]

sized_printed : (m : Numbering) (t : List ℕ) → length t ≤ 120 → SizedStep (printed m t)
sized_printed m t h =
    elim (int_lt m.number number_limit) as (λ v. SizedStep {M = Numbering} (cond v (goes (record { number = m.number +ℤ pos 1; stops = m.stops }) (rows_at m t)) (Stepped.refuses 3 0))) [
      | true ↦ sized_rows (quotient m.number m.stops) (remainder m.number m.stops) t h
      | false ↦ tt
    ]

sized_obeyed : (m : Numbering) (n : ℕ) (s : Said NumberLetter) → Sound takes n s → n ≤ 120 → SizedStep (obeyed m s)
sized_obeyed m n (text t) p h = sized_printed m t (omega arith)
sized_obeyed m n (directive SetNumber v) p h = record { few = omega arith; wide = tt }
sized_obeyed m n (directive SetStops v) p h = record { few = omega arith; wide = tt }
sized_obeyed m n (malformed cause column) p h = tt

pub sized_step : (m : Numbering) (l : Line) → SizedStep (numbering.step m l)
sized_step m l = at (is_line l) refl
  where
    at : (b : Bool) → is_line l ≡ b → SizedStep (cond b (obeyed m (said spelled takes l)) no_line)
    at true e = sized_obeyed m (length l) (said spelled takes l) (sound takes spelled l) (line_short l e)
    at false e = tt

-- a step of a text line, as it is computed
pub printing : (n n' q r : ℤ) (m : ℕ) (t : List ℕ) → n <ℤ pos 100000 → n' ≡ n +ℤ pos 1 → q ≡ quotient n m → r ≡ pos (remainder n m) → printed (record { number = n; stops = m }) t ≡ goes (record { number = n'; stops = m }) (rows_of q (unsigned_abs r) t)
printing n n' q r m t h e f g =
    let b : int_lt n number_limit ≡ true = grind (arith, ints) in
    simp (b, e, f, g)

-- a divisor that was made has the value that it was made of
pub made_of : (o : Option Divisor) (d : Divisor) (P : Type 0) (v : ℤ) → o ≡ Some d → MatchOption o P (λ x. x.value ≡ v) → d.value ≡ v
made_of o d P v e h = MatchOption-at_some P (λ x. x.value ≡ v) d e h
