use Rattle.std.proofs.Common.{◌≡◌, ◌<◌, length, get_or, arith}
use Rattle.std.proofs.lemmas.List.Edits.{map_over_more}
use Rattle.std.proofs.lemmas.List.{get_or_default}
use Rattle.page_table.specs.declared.entry.PageEntry.{PageEntry}
use Rattle.page_table.specs.Settled.{moved_entry}
use Rattle.page_index.proofs.settle.move_firsts.Goals as goal

pub loop-page-preserved : goal.loop-page-preserved
loop-page-preserved c =
    let n = c.args.numbers in
    let now = c.loop-page.pages in
    let k = c.loop-page.page-index in
    let d : PageEntry = record { first = 0; items = 0; rows = 0; place = 0 } in
    let x : PageEntry = get_or now k d in
    let within : k < length now = omega arith in
    let same : x ≡ get_or now k x = get_or_default now k d x within in
    map_over_more (moved_entry n.items_then n.items_now) c.args.pages.now now k x (omega arith) c.loop-page.invariant same
