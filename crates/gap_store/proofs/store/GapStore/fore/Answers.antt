use Rattle.std.proofs.Common.{ℕ, List, take, vec_items, sym, subst}
use Rattle.gap_store.specs.Records.{Packed}
use Rattle.gap_store.specs.Gaps.{gap_lines}
use Rattle.gap_store.specs.GapsLemmas.{fore_packed}
use Rattle.gap_store.proofs.store.GapStore.fore.Goals as goal

pub new-requires : goal.new-requires
new-requires c =
    let s = c.args.self.now in
    let bytes : List ℕ = vec_items s.memory in
    let P : List ℕ → Type 0 = λ xs. Packed s.gap.before (take s.gap.front xs) in
    subst P (sym c.as_slice.ensures.value) (fore_packed (gap_lines s.gap bytes) s.gap bytes s.sound)
