-- What a line is: 0 to 120 bytes, each from 32 to 126. Assumes nothing.
use Rattle.std.specs.Prelude.{ℕ, suc, Bool, true, cond, ◌&&◌, List, [], ◌∷◌, length, Some, None, Option, nat_le}

-- a line is its bytes
abbrev pub Line : Type 0
Line = List ℕ

-- the most bytes of a line
abbrev pub line_limit : ℕ
line_limit = 120

-- a byte that a line may hold
abbrev pub printable : ℕ → Bool
printable b = nat_le 32 b && nat_le b 126

abbrev pub all_printable : List ℕ → Bool
all_printable [] = true
all_printable (b ∷ bs) = printable b && all_printable bs

abbrev pub is_line : List ℕ → Bool
is_line bytes = nat_le (length bytes) line_limit && all_printable bytes

-- the first byte that a line may not hold, by its column; the bytes begin at a column
abbrev pub bad_from : ℕ → List ℕ → Option ℕ
bad_from column [] = None
bad_from column (b ∷ bs) = cond (printable b) (bad_from (suc column) bs) (Some column)
