use Rattle.std.proofs.Common.{ℕ, List, drop, vec_items, sym, ap, ◌∙◌, subst}
use Rattle.std.proofs.lemmas.List.{take_rest}
use Rattle.gap_store.specs.Records.{Packed}
use Rattle.gap_store.specs.Gaps.{gap_lines}
use Rattle.gap_store.specs.GapsLemmas.{aft_packed}
use Rattle.gap_store.proofs.store.GapStore.aft.Goals as goal

pub new-requires : goal.new-requires
new-requires c =
    let s = c.args.self.now in
    let bytes : List ℕ = vec_items s.memory in
    let P : List ℕ → Type 0 = Packed s.gap.behind in
    subst P (sym (take_rest c.as_slice.result.now s.gap.back ∙ ap (drop s.gap.back) c.as_slice.ensures.value)) (aft_packed (gap_lines s.gap bytes) s.gap bytes s.sound)
