-- Lines packed one after the other, each as its length, its bytes and its length again. Assumes nothing.
use Rattle.std.specs.Prelude.{◌≡◌, ℕ, zero, suc, ◌+◌, List, [], ◌∷◌, ◌++◌, length, take, drop, slice_index}
use Rattle.line.specs.Lines.{Line}

-- a line as it is stored
abbrev pub record_of : Line → List ℕ
record_of l = length l ∷ (l ++ length l ∷ [])

abbrev pub packed : List Line → List ℕ
packed [] = []
packed (l ∷ ls) = record_of l ++ packed ls

-- the first lines that bytes hold
abbrev pub unpacked : ℕ → List ℕ → List Line
unpacked zero bytes = []
unpacked (suc n) bytes = take (slice_index bytes 0) (drop 1 bytes) ∷ unpacked n (drop (slice_index bytes 0 + 2) bytes)

-- bytes hold so many lines and nothing else
abbrev pub Packed : ℕ → List ℕ → Type 0
Packed n bytes = packed (unpacked n bytes) ≡ bytes

-- what a line of so many bytes takes
abbrev pub taken : ℕ → ℕ
taken n = n + 2
