use Rattle.std.proofs.Common.{ap, ◌∙◌, length, arith}
use lib.Seq.{paste}
use Rattle.gap_store.specs.Records.{record_of, taken}
use Rattle.gap_store.proofs.Written.{record_written}
use Rattle.gap_store.proofs.moves.write_record.Goals as goal

pub returns : goal.returns
returns c =
    let same = c.bytes-bytes.ensures in
    let e = record_written c.args.memory.now c.args.start c.bytes-bytes.result.now _ c.copy_from_slice.new.self (omega (arith, c.requires, ap length same)) (omega arith) c.copy_from_slice.ensures.after in
    e ∙ ap (λ line. paste c.args.memory.now c.args.start (record_of line) (taken (length line))) same
