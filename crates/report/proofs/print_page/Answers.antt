use Rattle.std.proofs.Common.{◌≡◌, [], ◌∷◌, ◌++◌, length, take, vec_items, ap, ◌∙◌, arith, rules}
use Rattle.std.proofs.lemmas.List.{take_all}
use Rattle.std.specs.Slice.Iter.{chunks_exact_rest, chunks_exact_size}
use Rattle.report.specs.Texts.{page_head}
use Rattle.report.proofs.Rows.{row_more, rows_begun, rows_done, headed}
use Rattle.report.proofs.print_page.Goals as goal

-- all of the body, also where it is cut as a part of itself
pub loop-row-init : goal.loop-row-init
loop-row-init c =
    let size : length c.args.body.now ≡ 2880 = search rules in
    let same = c.into_iter-row-iterator.ensures.into_iter_gives in
    let part : take 2880 c.args.body.now ≡ c.args.body.now = take_all 2880 c.args.body.now (omega (arith, size)) in
    let all : chunks_exact_rest c.chunks_exact-row-items.result ≡ c.args.body.now = search (part, c.chunks_exact-row-items.ensures.rest) in
    rows_begun 40 (vec_items c.push.new.self) c.args.body.now _ _ (ap chunks_exact_rest same ∙ all) size (ap chunks_exact_size same ∙ c.chunks_exact-row-items.ensures.size)

pub loop-row-preserved : goal.loop-row-preserved
loop-row-preserved c =
    let inv = c.loop-row.invariant in
    let s = c.in-Some.ensures.steps in
    let more = c.in_ok-push-2.ensures.items ∙ ap (λ l. l ++ (10 ∷ [])) c.in_ok-extend_from_slice.ensures.items in
    let p = row_more (vec_items c.loop-row.text) (vec_items c.push-in-loop-row.new.self) _ _ c.in-Some.row.now _ inv.0 inv.1 s.1.0 (s.1.1 ∙ inv.2) more inv.3 in
    (p.0, p.1, s.0 ∙ inv.2, p.2)

pub returns : goal.returns
returns c =
    let inv = c.loop-row.invariant in
    let short = rw inv.2 at c.in-None.ensures.steps.1.0 in
    let head : vec_items c.push.new.self ≡ page_head c.args.numbers ++ (10 ∷ []) =
    c.in_ok-push.ensures.items ∙ ap (λ l. l ++ (10 ∷ [])) (c.in_ok-text.ensures.items ∙ c.as_bytes.ensures.value ∙ c.in_ok-head.ensures.ok)
    in
    headed 40 _ (vec_items c.push.new.self) (page_head c.args.numbers) c.args.body.now (rows_done (vec_items c.loop-row.text) _ _ inv.0 inv.1 short inv.3) head
