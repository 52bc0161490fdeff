use Rattle.line.proofs.Edits.{line_short}
use Rattle.line.proofs.Pastes.{put_mid_record}
use Rattle.slot_store.specs.Slots.{slot_size, with_line}
use Rattle.std.proofs.Common.{◌*◌, length, ap, ◌∙◌, arith}
use Rattle.slot_store.proofs.bytes.write_line.Goals as goal

pub returns : goal.returns
returns c =
    let line = c.args.line.bytes.now in
    let same = c.bytes-bytes.ensures in
    let short = line_short line c.args.line.good in
    let e = put_mid_record c.args.memory.now (slot_size * c.args.at) c.bytes-bytes.result.now _ c.copy_from_slice.new.self (omega (arith, c.requires, ap length same)) (omega arith) c.copy_from_slice.ensures.after in
    e ∙ ap (with_line c.args.memory.now c.args.at) same
