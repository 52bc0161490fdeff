-- The numberer's letters. Assumes nothing.
use Rattle.std.specs.Prelude.{ℕ, true, false, cond, ℤ, pos, negsuc, ◌≤ℤ◌, Some, None, Option, ◌==◌}
use Rattle.directive.specs.declared.kinds.Argument.{Argument}
use Rattle.numberer.specs.declared.letter.NumberLetter.{NumberLetter}
use Rattle.numberer.specs.declared.letter.NumberLetter.TheVariants.{SetNumber, SetStops}

-- `n` and `m`
abbrev pub spelled : ℕ → Option NumberLetter
spelled b = cond (b == 110) (Some SetNumber) (cond (b == 109) (Some SetStops) None)

-- `.n` takes a number of one to five digits, with a minus or without; `.m` one of one to three digits, from 1 to 256
abbrev pub takes : NumberLetter → Option Argument
takes SetNumber = Some (record { minus = true; digits = 5; low = negsuc 99998; high = pos 99999 })
takes SetStops = Some (record { minus = false; digits = 3; low = pos 1; high = pos 256 })

-- a value that may stand behind a letter
abbrev pub InItsRange : NumberLetter → ℤ → Type 0
InItsRange SetNumber v = (negsuc 99998 ≤ℤ v) × (v ≤ℤ pos 99999)
InItsRange SetStops v = (pos 1 ≤ℤ v) × (v ≤ℤ pos 256)
