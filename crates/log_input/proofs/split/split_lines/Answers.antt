use Rattle.std.proofs.Common.{rules, of_calls, ◌≡◌, ℕ, List, ◌++◌, ◌∷◌, [], map, vec_items, sym, ap, ◌∙◌, append_assoc, append-nil, nat_eq}
use Rattle.std.proofs.lemmas.Fn.{always_returns_same}
use Rattle.std.proofs.lemmas.List.{map_push}
use Rattle.log_input.specs.Splits.{split, line_feed}
use Rattle.log_input.proofs.Splitting.{first_part, stripped, without_feed, no_line}
use Rattle.log_input.proofs.split.split_lines.Goals as goal

pub loop-part-preserved : goal.loop-part-preserved
loop-part-preserved c =
    let rest : List ℕ = c.loop-part.part-iterator.rest.now in
    let after : List ℕ = c.next.new.self.rest.now in
    let done : List (List ℕ) = map (λ x. x.now) (vec_items c.loop-part.lines) in
    let steps = c.in-Some.ensures.steps in
    let test = steps.1.2 (λ b. nat_eq b line_feed) (always_returns_same _ _ _ (λ a r f k. search (rules, of_calls))) in
    let first = first_part rest c.in-Some.part.now after steps.1.0 steps.0 steps.1.1 steps.2 test.1 in
    let line = stripped c.in-Some.part c.strip_suffix.result c.strip_suffix.ensures.cases in
    let push : map (λ x. x.now) (vec_items c.push.new.self) ≡ done ++ (without_feed c.in-Some.part.now ∷ []) =
    ap (map (λ x. x.now)) c.in_ok-push.ensures.items
    ∙ map_push (λ x. x.now) (vec_items c.loop-part.lines) _
    ∙ ap (λ l. done ++ (l ∷ [])) (ap (λ x. x.now) c.unwrap_or-line.ensures ∙ line)
    in
    ap (λ l. l ++ split after) push
    ∙ append_assoc done (without_feed c.in-Some.part.now ∷ []) (split after)
    ∙ ap (λ l. done ++ l) (sym first)
    ∙ c.loop-part.invariant

pub returns-clause-lines : goal.returns-clause-lines
returns-clause-lines c =
    let done : List (List ℕ) = map (λ x. x.now) (vec_items c.loop-part.lines) in
    sym (append-nil done)
    ∙ ap (λ l. done ++ l) (sym (no_line c.loop-part.part-iterator.rest.now c.in-None.ensures.steps.0))
    ∙ c.loop-part.invariant
