use Rattle.slot_store.proofs.bytes.move_slots.Goals as goal

pub returns : goal.returns
returns c = c.copy_within.ensures.after
