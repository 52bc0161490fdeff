use Rattle.std.proofs.Common.{◌≡◌, ℕ, ◌+◌, ◌-◌, ◌*◌, List, get_or, take, drop, sym, ap, ◌∙◌, arith}
use Rattle.slot_store.specs.Slots.{slot_size, slot_at}
use Rattle.slot_store.specs.SlotsLemmas.{length_byte, slot_part, held_length}
use Rattle.slot_store.proofs.bytes.line_in.Goals as goal

pub slice_bounds-result-end : goal.slice_bounds-result-end
slice_bounds-result-end c =
    let start : ℕ = slot_size * c.args.at in
    let same : (start + 1) - 1 ≡ start = omega arith in
    let byte : get_or c.args.memory.now ((start + 1) - 1) 0 ≡ get_or c.args.memory.now start 0 =
    ap (λ (k : ℕ). get_or c.args.memory.now k 0) same
    in
    let h = held_length c.args.memory.now c.args.at c.requires.whole c.requires.held in
    omega (arith, c.requires.whole)

pub returns : goal.returns
returns c =
    let bytes : List ℕ = c.args.memory.now in
    let start : ℕ = slot_size * c.args.at in
    let n : ℕ = get_or bytes start 0 in
    let same : (start + 1) - 1 ≡ start = omega arith in
    let byte : get_or bytes ((start + 1) - 1) 0 ≡ n = ap (λ (k : ℕ). get_or bytes k 0) same in
    let size : ((start + 1) + get_or bytes ((start + 1) - 1) 0) - (start + 1) ≡ n = omega (arith, byte) in
    let h = held_length bytes c.args.at c.requires.whole c.requires.held in
    ap (λ (k : ℕ). take k (drop (start + 1) bytes)) size
    ∙ sym (slot_part bytes c.args.at c.requires.whole n h)
    ∙ ap (λ (k : ℕ). take k (drop 1 (slot_at bytes c.args.at))) (sym (length_byte bytes c.args.at c.requires.whole))
