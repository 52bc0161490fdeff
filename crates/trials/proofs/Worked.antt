-- The worked examples. Assumes nothing.
use Rattle.std.proofs.Common.{◌≡◌, [], ◌∷◌, ◌++◌, decimal, refl, ap, ◌∙◌, arith}
use Rattle.std.proofs.lemmas.Fmt.{decimal_digit, decimal_step}
use Rattle.trials.specs.Trials.{Trials}

one : decimal 1 ≡ 49 ∷ []
one = decimal_digit 1 (omega arith)

twenty_one : decimal 21 ≡ 50 ∷ 49 ∷ []
twenty_one = decimal_step 21 (omega arith) (omega arith) ∙ ap (λ l. l ++ (49 ∷ [])) (decimal_digit 2 (omega arith))

pub trials : Trials
trials = record {
  minus_one = (refl, refl);
  minus_22 = (refl, refl);
  minus_23 = (refl, refl);
  plus_22 = (refl, refl);
  lever = simp (one, twenty_one);
  no_lines = (refl, refl);
  forty = (refl, refl);
  forty_one = (refl, refl);
}
