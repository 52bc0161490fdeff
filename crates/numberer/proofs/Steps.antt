-- Steps of the numberer, as the code computes them. Assumes nothing.
use Rattle.std.proofs.Common.{◌≡◌, ℕ, true, List, ℤ, pos, ◌+ℤ◌, ◌<ℤ◌, arith}
use Rattle.std.specs.Prelude.{int_lt}
use Rattle.std.proofs.lemmas.Int.{ints}
use Rattle.engine.specs.Model.{Stepped.goes}
use Rattle.directive.proofs.Sound.{Taken}
use Rattle.numberer.specs.declared.letter.NumberLetter.{NumberLetter}
use Rattle.numberer.specs.declared.letter.NumberLetter.TheVariants.{SetNumber, SetStops}
use Rattle.numberer.specs.Letters.{takes, InItsRange}
use Rattle.numberer.specs.Numbering.{number_limit, rows_at, printed}

-- a step of a text line, as it is computed
pub printing_rows : (n n' : ℤ) (stops : ℕ) (t : List ℕ) → n <ℤ pos 100000 → n' ≡ n +ℤ pos 1 → printed (record { number = n; stops = stops }) t ≡ goes (record { number = n'; stops = stops }) (rows_at (record { number = n; stops = stops }) t)
printing_rows n n' stops t h e =
    let b : int_lt n number_limit ≡ true = grind (arith, ints) in
    simp (b, e)

-- a value that a letter takes is in its range
pub ranges : (letter : NumberLetter) (v : ℤ) → Taken (takes letter) v → InItsRange letter v
ranges SetNumber v h = (grind (arith, ints), grind (arith, ints))
ranges SetStops v h = (grind (arith, ints), grind (arith, ints))
