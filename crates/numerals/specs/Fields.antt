-- A number at the right end of a field of a row. Assumes nothing.
use Rattle.std.specs.Prelude.{◌≡◌, ℕ, ◌+◌, ◌-◌, ◌≤◌, cond, List, ◌++◌, length, take, drop, replicate, ℤ, Ok, Err, Result, nat_lt}
use Rattle.std.specs.Fmt.{signed_decimal}
use Rattle.numerals.specs.declared.write.FieldFault.{FieldFault}
use Rattle.numerals.specs.declared.write.FieldFault.TheVariants.{Outside, TooWide}

-- right-aligned: the last bytes of spaces and the number, as many as the field is wide
abbrev pub field : ℕ → ℤ → List ℕ
field width z = drop (length (signed_decimal z)) (replicate width 32 ++ signed_decimal z)

-- every field is as wide as it is said to be, and one that its number fits into holds spaces, then a minus where the number is
-- below 0, then its shortest decimal digits
pub record FieldLaw : Type 0 where
  pub wide : (width : ℕ) (z : ℤ) → length (field width z) ≡ width
  pub holds : (width : ℕ) (z : ℤ) → length (signed_decimal z) ≤ width → field width z ≡ replicate (width - length (signed_decimal z)) 32 ++ signed_decimal z

-- the row with the field in it, from a column on
abbrev pub placed : List ℕ → ℕ → ℕ → ℤ → List ℕ
placed row at width z = take at row ++ (field width z ++ drop (at + width) row)

-- whether the field lies in a row of this size, and the number goes into the field
abbrev pub verdict : ℕ → ℕ → ℕ → ℤ → Result (Unit {0}) FieldFault
verdict size at width z = cond (nat_lt size (at + width)) (Err Outside) (cond (nat_lt width (length (signed_decimal z))) (Err TooWide) (Ok tt))
