use Rattle.std.proofs.Common.{◌≡◌, ◌≤◌, length}
use Rattle.gap_store.specs.Records.{packed, unpacked}
use Rattle.gap_store.proofs.packed.PackedLines.backward.Given as goal

abbrev pub invariant-loop-line : goal.invariant-loop-line
invariant-loop-line l = (l.at ≤ l._line) × (l.start ≡ length (packed (unpacked l._line l.self.bytes.now)))
