use Rattle.std.proofs.Common.{ℕ, List, ap, ◌∙◌}
use Rattle.slot_store.specs.Slots.{with_line}
use Rattle.slot_store.proofs.bytes.insert_line.Goals as goal

pub returns : goal.returns
returns c =
    c.write_line.ensures ∙ ap (λ (xs : List ℕ). with_line xs c.args.at c.args.line.bytes.now) c.move_slots.ensures
