use Rattle.std.proofs.Common.{◌≡◌, sym, subst, w32, SFits, rules}
use Rattle.std.proofs.lemmas.Int.{to_z-of_z}
use Rattle.directive.specs.Grammar.{Said.directive, said}
use Rattle.directive.proofs.Sound.{value_taken}
use Rattle.numberer.specs.Letters.{spelled, takes, InItsRange}
use Rattle.numberer.proofs.Steps.{ranges}
use Rattle.numberer.proofs.step_line.Goals as goal

pub set-requires : goal.set-requires
set-requires c =
    let letter = c.in-Directive.letter in
    let v = c.in-Directive.value in
    let f : SFits w32 v = search rules in
    let e : directive letter v ≡ said spelled takes c.args.line.now = search rules in
    subst (InItsRange letter) (sym (to_z-of_z w32 v f)) (ranges letter v (value_taken takes spelled c.args.line.now letter v e))
