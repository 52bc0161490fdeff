use Rattle.std.proofs.Common.{◌≡◌, ℕ, ◌<◌, ◌≤◌, false, ◌||◌, ltb, eqb, List, ◌++◌, length, get_or, take, replicate, ap, ◌∙◌, arith}
use Rattle.std.specs.List.{All, list_any}
use Rattle.std.proofs.lemmas.List.{get_or-replicate, get_or-take, length-take-le}
use Rattle.std.proofs.lemmas.List.Elements.{All-same}
use Rattle.page_table.specs.declared.entry.PageEntry.{PageEntry}
use Rattle.page_table.specs.Indexes.{index_of, users}
use Rattle.page_table.specs.Sound.{most_places}
use Rattle.page_table.proofs.Elements.{all_left, all_right}
use Rattle.page_index.proofs.Frees.{marked_both, lowest, found}
use Rattle.page_index.specs.declared.index.PageIndex.{PageIndex}
use Rattle.page_index.proofs.index.PageIndex.free_place.Goals as goal

-- places of pages are among the most places
within_most : (x : PageIndex) (ps qs : List PageEntry) → ps ≡ qs → All (λ p. p.place < x.table.places) qs → All (λ p. p.place < most_places) ps
within_most x ps qs are within k d h =
    let w = All-same (λ (p : PageEntry). p.place < x.table.places) ps qs are within k d h in
    let small = x.sound.sized.0.2 in
    omega arith

pub mark_places-requires : goal.mark_places-requires
mark_places-requires c =
    let x = c.args.self.now in
    let i = index_of x.table in
    within_most x c.pages.result.now i.pages c.pages.ensures (all_left (λ p. p.place < x.table.places) i.pages i.made x.sound.within)

pub mark_places-requires-2 : goal.mark_places-requires-2
mark_places-requires-2 c =
    let x = c.args.self.now in
    let i = index_of x.table in
    within_most x c.made.result.now i.made c.made.ensures (all_right (λ p. p.place < x.table.places) i.pages i.made x.sound.within)

pub returns : goal.returns
returns c =
    let x = c.args.self.now in
    let i = index_of x.table in
    let marked : (y : ℕ) → y < most_places → get_or c.mark_places-2.new.used y false ≡ ltb 0 (users (i.pages ++ i.made) y) =
    λ y h.
    marked_both i.pages i.made y (get_or (replicate 512 false) y false) (get_or c.mark_places.new.used y false) (get_or c.mark_places-2.new.used y false)
    (get_or-replicate 512 y false false h)
    (c.mark_places.ensures y h ∙ ap (λ (ps : List PageEntry). get_or (replicate 512 false) y false || list_any (λ p. eqb p.place y) ps) c.pages.ensures)
    (c.mark_places-2.ensures y h ∙ ap (λ (ps : List PageEntry). get_or c.mark_places.new.used y false || list_any (λ p. eqb p.place y) ps) c.made.ensures)
    in
    let used = c.mark_places-2.new.used in
    let n = x.table.places in
    let small = x.sound.sized.0.2 in
    let size : length used ≡ 512 = c.mark_places-2.array_long in
    let fits : n ≤ length used = omega arith in
    let long = length-take-le n used fits in
    let gives = lowest i used small marked (take n used) long (λ y h. get_or-take n used y false h) c.first_unused.result c.first_unused.ensures in
    record { place = gives; room = found i c.first_unused.result (x.sound) gives }
