-- Floor division of an integer by a positive number. Assumes nothing.
use Rattle.std.specs.Prelude.{◌≡◌, ℕ, ◌-◌, ◌/◌, ◌%◌, ◌<◌, ℤ, pos, negsuc, ◌+ℤ◌, ◌*ℤ◌}

-- the quotient, rounded down: `negsuc a` is -(a + 1), which lies one turn of m further down than a lies up
abbrev pub quotient : ℤ → ℕ → ℤ
quotient (pos a) m = pos (a / m)
quotient (negsuc a) m = negsuc (a / m)

-- what is left above it
abbrev pub remainder : ℤ → ℕ → ℕ
remainder (pos a) m = a % m
remainder (negsuc a) m = m - 1 - a % m

-- v is m times q and r more, r from 0 to m - 1
pub record Floors (v : ℤ) (m : ℕ) (q : ℤ) (r : ℕ) : Type 0 where
  pub sum : v ≡ pos m *ℤ q +ℤ pos r
  pub low : r < m

-- for every divisor above 0: quotient and remainder are such a pair, and the only one
abbrev pub FloorLaw : Type 0
FloorLaw = (v : ℤ) (m : ℕ) → 0 < m → Floors v m (quotient v m) (remainder v m) × ((q : ℤ) (r : ℕ) → Floors v m q r → (q ≡ quotient v m) × (r ≡ remainder v m))
