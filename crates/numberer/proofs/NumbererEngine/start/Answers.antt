use Rattle.std.proofs.Common.{◌≡◌, pos, arith}
use Rattle.std.proofs.lemmas.Int.{ints}
use Rattle.std.proofs.lemmas.Option.{MatchOption-at_some}
use Rattle.numberer.proofs.NumbererEngine.start.Goals as goal

pub invariant_of-result-clause-few : goal.invariant_of-result-clause-few
invariant_of-result-clause-few c =
    let v : c.unwrap.result.value ≡ pos 22 = MatchOption-at_some _ (λ d. d.value ≡ pos 22) c.unwrap.result c.unwrap.ensures c.new.ensures in
    omega (arith, ints)
