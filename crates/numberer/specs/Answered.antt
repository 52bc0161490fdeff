-- What the numberer's code answers, in the engine's terms. Assumes nothing.
use Rattle.std.specs.Prelude.{ℕ, List, Ok, Err, Result}
use Rattle.engine.specs.declared.EngineFault.{EngineFault}
use Rattle.engine.specs.Model.{Stepped}
use Rattle.engine.specs.Promise.{Done, Refused}
use Rattle.directive.specs.Grammar as grammar
use Rattle.numberer.specs.declared.state.NumberState.{NumberState}
use Rattle.numberer.specs.declared.fault.NumberFault.{NumberFault}
use Rattle.numberer.specs.declared.fault.NumberFault.TheVariants.{NotALine, Malformed, NumberTooHigh}
use Rattle.numberer.specs.Numbering.{Numbering, meaning}

-- the cause and the column of each refusal
abbrev pub fault_of : NumberFault → EngineFault
fault_of NotALine = record { cause = 9; column = 0 }
fault_of (Malformed m) = grammar.fault_of m
fault_of NumberTooHigh = record { cause = 3; column = 0 }

-- the state after a step and the number of its rows, or a refusal with state and buffer as they were
abbrev pub Answered : Stepped Numbering → NumberState → List ℕ → Result (NumberState × ℕ) NumberFault → List ℕ → Type 0
Answered step state before (Ok next) after = Done meaning step before next.0 next.1 after
Answered step state before (Err fault) after = Refused meaning step state before state (fault_of fault) after
