-- Lines, their bytes and their faults. Assumes nothing.
use Rattle.std.proofs.Common.{◌≡◌, ℕ, suc, ◌+◌, ◌<◌, Bool, true, false, cond, not, ◌&&◌, leb, List, [], ◌∷◌, length, get_or, drop, is_some, is_ok, Some, None, Ok, Err, Option, Result, sym, refl, ap, ◌∙◌, add-one, MatchResult}
use Rattle.std.proofs.lemmas.List.{at_drop_more}
use Rattle.std.specs.List.{position, position_from}
use Rattle.std.proofs.lemmas.Iterator.Adapters.{position_from-zero}
use Rattle.line.specs.declared.fault.StoreFault.{StoreFault}
use Rattle.line.specs.declared.fault.StoreFault.TheVariants.{TooLong}
use Rattle.line.specs.Lines.{printable, all_printable, bad_from, is_line, line_limit}
use Rattle.line.specs.Faults.{or_else, byte_fault, line_fault}

-- one byte on, by what it is
pub bad_more : (bytes : List ℕ) (i b : ℕ) → i < length bytes → get_or bytes i 0 ≡ b → printable b ≡ true → bad_from i (drop i bytes) ≡ bad_from (i + 1) (drop (i + 1) bytes)
bad_more bytes i b h e p =
    let s = at_drop_more (bad_from i) bytes i 0 h in
    s ∙ rw (e, p, add-one)

pub bad_here : (bytes : List ℕ) (i b : ℕ) → i < length bytes → get_or bytes i 0 ≡ b → printable b ≡ false → bad_from i (drop i bytes) ≡ Some i
bad_here bytes i b h e p =
    let s = at_drop_more (bad_from i) bytes i 0 h in
    s ∙ rw (e, p)

-- the first byte that is not printable is the first that a line may not hold
bad_position_from : (column : ℕ) (bytes : List ℕ) → position_from (λ b. not (printable b)) column bytes ≡ bad_from column bytes
bad_position_from column [] = refl
bad_position_from column (b ∷ bs) =
    elim (printable b) as (λ v. cond (not v) (Some column) (position_from (λ b. not (printable b)) (column + 1) bs) ≡ cond v (bad_from (suc column) bs) (Some column)) [ true ↦ ap (λ (k : ℕ). position_from (λ b. not (printable b)) k bs) (add-one column) ∙ bad_position_from (suc column) bs | false ↦ refl ]

pub bad_position : (bytes : List ℕ) → position (λ b. not (printable b)) bytes ≡ bad_from 0 bytes
bad_position bytes = position_from-zero (λ b. not (printable b)) bytes ∙ bad_position_from 0 bytes

-- no bad byte is found exactly where all are printable
pub none_bad : (column : ℕ) (bytes : List ℕ) → not (is_some (bad_from column bytes)) ≡ all_printable bytes
none_bad column [] = refl
none_bad column (b ∷ bs) =
    elim (printable b) as (λ v. not (is_some (cond v (bad_from (suc column) bs) (Some column))) ≡ v && all_printable bs) [ true ↦ none_bad (suc column) bs | false ↦ refl ]

some_fault : (o : Option ℕ) → is_some (byte_fault o) ≡ is_some o
some_fault None = refl
some_fault (Some column) = refl

flip : (b v : Bool) → not b ≡ v → b ≡ not v
flip true v e = ap not e
flip false v e = ap not e

-- bytes have a fault exactly where they are no line
pub fault_or_line : (bytes : List ℕ) → is_some (line_fault bytes) ≡ not (is_line bytes)
fault_or_line bytes =
    elim (leb (length bytes) line_limit) as (λ v. is_some (or_else (cond v None (Some (TooLong (length bytes)))) (byte_fault (bad_from 0 bytes))) ≡ not (v && all_printable bytes)) [ true ↦ some_fault (bad_from 0 bytes) ∙ flip _ _ (none_bad 0 bytes) | false ↦ refl ]

pub checked : (r : Result (Unit {0}) StoreFault) (bytes : List ℕ) → MatchResult r (λ _. line_fault bytes ≡ None) (λ f. line_fault bytes ≡ Some f) → is_ok r ≡ is_line bytes
checked (Ok u) bytes h = sym (flip _ _ (sym (fault_or_line bytes) ∙ ap is_some h))
checked (Err f) bytes h = sym (flip _ _ (sym (fault_or_line bytes) ∙ ap is_some h))
