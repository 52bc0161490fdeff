-- The faults of a line store: the number and the values of each, and which of them a line has. Assumes nothing.
use Rattle.std.specs.Prelude.{ℕ, cond, List, [], ◌∷◌, ◌++◌, length, Some, None, decimal, Option, nat_le}
use Rattle.line.specs.declared.layer.Layer.{Layer}
use Rattle.line.specs.declared.layer.Layer.TheVariants.{Store}
use Rattle.line.specs.declared.fault.StoreFault.{StoreFault}
use Rattle.line.specs.declared.fault.StoreFault.TheVariants.{NoLine, TooLong, BadByte, Full}
use Rattle.line.specs.Lines.{line_limit, bad_from}

-- what is known of a refusal: the layer that refuses, its number and its values
pub record Refusal : Type 0 where
  pub layer : Layer
  pub number : ℕ
  pub values : List ℕ

abbrev pub refused : Layer → ℕ → List ℕ → Refusal
refused layer number values = record { layer = layer; number = number; values = values }

abbrev pub number : StoreFault → ℕ
number (NoLine line count) = 1
number (TooLong length) = 2
number (BadByte column) = 3
number (Full charges capacity) = 4

abbrev pub values : StoreFault → List ℕ
values (NoLine line count) = line ∷ count ∷ []
values (TooLong length) = length ∷ []
values (BadByte column) = column ∷ []
values (Full charges capacity) = charges ∷ capacity ∷ []

abbrev pub refusal : StoreFault → Refusal
refusal f = refused Store (number f) (values f)

-- a refusal as text: its number and its values, one space between two
abbrev pub told : ℕ → List ℕ → List ℕ
told n [] = decimal n
told n (v ∷ vs) = decimal n ++ (32 ∷ told v vs)

-- the upper row of the table of faults counts first
abbrev pub or_else : Option StoreFault → Option StoreFault → Option StoreFault
or_else None later = later
or_else (Some f) later = Some f

abbrev pub byte_fault : Option ℕ → Option StoreFault
byte_fault None = None
byte_fault (Some column) = Some (BadByte column)

-- what keeps bytes from being a line, if anything does
abbrev pub line_fault : List ℕ → Option StoreFault
line_fault bytes =
    or_else (cond (nat_le (length bytes) line_limit) None (Some (TooLong (length bytes)))) (byte_fault (bad_from 0 bytes))
