use Rattle.std.proofs.Common.{arith}
use Rattle.numerals.proofs.ByDigit.{room}
use Rattle.numerals.proofs.read.natural.Goals as goal

pub overflow_mul-value : goal.overflow_mul-value
overflow_mul-value c = omega (arith, room c.loop-byte.value c.loop-byte.byte-index c.loop-byte.invariant.0 (omega arith))

pub overflow_add-value : goal.overflow_add-value
overflow_add-value c = omega (arith, room c.loop-byte.value c.loop-byte.byte-index c.loop-byte.invariant.0 (omega arith))
