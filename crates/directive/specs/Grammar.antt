-- The grammar of directives, for the letters of any engine. Assumes nothing.
use Rattle.std.specs.Prelude.{ℕ, Bool, cond, ◌&&◌, List, [], ◌∷◌, ℤ, pos, Some, None, Ok, Err, Option, Result, ◌==◌, int_le}
use Rattle.engine.specs.declared.EngineFault.{EngineFault}
use Rattle.numerals.specs.Reads.{integer}
use Rattle.directive.specs.declared.kinds.Argument.{Argument}
use Rattle.directive.specs.declared.kinds.Parsed.{Parsed}
use Rattle.directive.specs.declared.kinds.Parsed.TheVariants.{Text, Directive}
use Rattle.directive.specs.declared.kinds.Malformed.{Malformed}
use Rattle.directive.specs.declared.kinds.Malformed.TheVariants.{UnknownLetter, NotBehindLetter, BadArgument}

-- what a line says: text, a directive with its argument (0 where it takes none), or neither, with a cause and a column
pub data Said (L : Type 0) : Type 0 where
  text : List ℕ → Said L
  directive : L → ℤ → Said L
  malformed : (cause column : ℕ) → Said L

-- from `low` to `high`
abbrev pub in_range : Argument → ℤ → Bool
in_range a z = int_le a.low z && int_le z a.high

-- an argument that is empty, malformed or out of range is cause 2 at column 3
abbrev pub ranged : {L : Type 0} → L → Argument → Option ℤ → Said L
ranged letter a None = malformed 2 3
ranged letter a (Some z) = cond (in_range a z) (directive letter z) (malformed 2 3)

-- what stands behind the letter: nothing, or one space and an argument that ends the line; anything else is cause 2 at column 2
abbrev pub behind : {L : Type 0} → L → Option Argument → List ℕ → Said L
behind letter None [] = directive letter (pos 0)
behind letter None (b ∷ bs) = malformed 2 2
behind letter (Some a) [] = malformed 2 2
behind letter (Some a) (b ∷ bs) = cond (b == 32) (ranged letter a (integer a.minus a.digits bs)) (malformed 2 2)

-- a letter that is not the engine's is cause 1 at column 1
abbrev pub lettered : {L : Type 0} → (L → Option Argument) → Option L → List ℕ → Said L
lettered takes None bs = malformed 1 1
lettered takes (Some letter) bs = behind letter (takes letter) bs

module _ {L : Type 0} (spelled : ℕ → Option L) (takes : L → Option Argument) where
  -- behind one dot: a second dot makes it text, without the first; a missing letter is cause 1 at column 1
  abbrev pub dotted : List ℕ → Said L
  dotted [] = malformed 1 1
  dotted (b ∷ bs) = cond (b == 46) (text (b ∷ bs)) (lettered takes (spelled b) bs)

  -- a line that begins with a dot is a directive, any other is text
  abbrev pub said : List ℕ → Said L
  said [] = text []
  said (b ∷ bs) = cond (b == 46) (dotted bs) (text (b ∷ bs))

-- the cause and the column of each refusal
abbrev pub fault_of : Malformed → EngineFault
fault_of UnknownLetter = record { cause = 1; column = 1 }
fault_of NotBehindLetter = record { cause = 2; column = 2 }
fault_of BadArgument = record { cause = 2; column = 3 }

-- an answer of the code, as the definition has it
abbrev pub answered : {L : Type 0} → Result (Parsed L) Malformed → Said L
answered (Ok (Text t)) = text t.now
answered (Ok (Directive letter value)) = directive letter value
answered (Err m) = malformed (fault_of m).cause (fault_of m).column
