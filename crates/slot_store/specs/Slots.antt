-- Lines in whole slots of 128 bytes: line i in slot i, its length in the first byte and its bytes behind. Assumes nothing.
use Rattle.std.specs.Prelude.{◌≡◌, ℕ, zero, suc, ◌-◌, ◌*◌, ◌/◌, ◌<◌, min, true, List, [], ◌∷◌, length, take, drop, slice_index}
use Rattle.std.proofs.Math.Seq.{paste}
use Rattle.line.specs.Lines.{Line, is_line}
use Rattle.line.specs.Stores.{store_limit}

-- the bytes of a slot
abbrev pub slot_size : ℕ
slot_size = 128

-- the slots that so many bytes serve for
abbrev pub slots_in : ℕ → ℕ
slots_in bytes = min (bytes / slot_size) store_limit

-- the bytes of slot i
abbrev pub slot_at : List ℕ → ℕ → List ℕ
slot_at bytes i = take slot_size (drop (slot_size * i) bytes)

-- the line in a slot
abbrev pub slot_line : List ℕ → Line
slot_line slot = take (slice_index slot 0) (drop 1 slot)

-- the lines in the first slots
abbrev pub slots_of : ℕ → List ℕ → List Line
slots_of zero bytes = []
slots_of (suc n) bytes = slot_line (take slot_size bytes) ∷ slots_of n (drop slot_size bytes)

-- each of the first slots holds a line
abbrev pub Held : ℕ → List ℕ → Type 0
Held n bytes = (i : ℕ) → i < n → is_line (slot_line (slot_at bytes i)) ≡ true

-- the bytes with a line written into a slot
abbrev pub with_line : List ℕ → ℕ → List ℕ → List ℕ
with_line bytes at line = paste bytes (slot_size * at) (length line ∷ line) (suc (length line))

-- the bytes with the slots from `from` to `end` copied to those from `to` on
abbrev pub with_slots : List ℕ → ℕ → ℕ → ℕ → List ℕ
with_slots bytes from end to =
    paste bytes (slot_size * to) (drop (slot_size * from) bytes) (slot_size * end - slot_size * from)
