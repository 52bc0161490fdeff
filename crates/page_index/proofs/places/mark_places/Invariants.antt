use Rattle.std.proofs.Common.{◌≡◌, ℕ, ◌<◌, false, ◌||◌, eqb, get_or, take}
use Rattle.std.specs.List.{list_any}
use Rattle.page_table.specs.Sound.{most_places}
use Rattle.page_index.proofs.places.mark_places.Given as goal

abbrev pub invariant-loop-page : goal.invariant-loop-page
invariant-loop-page l = (x : ℕ) → x < most_places → get_or l.used x false ≡ (get_or l.initial.used x false || list_any (λ p. eqb p.place x) (take l.page-index l.entries))
