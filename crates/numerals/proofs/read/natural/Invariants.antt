use Rattle.std.proofs.Common.{◌≡◌, ◌^◌, ◌<◌, drop}
use Rattle.numerals.proofs.ByDigit.{reading}
use Rattle.numerals.proofs.read.natural.Given as goal

-- what is left, behind the digits so far, gives the answer
abbrev pub invariant-loop-byte : goal.invariant-loop-byte
invariant-loop-byte l = (l.value < 10 ^ l.byte-index) × (reading l.value (drop l.byte-index l.text) ≡ reading 0 l.text)
