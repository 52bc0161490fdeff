-- Rows in a body. Assumes nothing.
use Rattle.std.proofs.Common.{◌≡◌, ℕ, ◌-◌, ◌*◌, ◌≤◌, List, [], ◌∷◌, ◌++◌, length, take, drop, replicate, sym, refl, ap, ◌∙◌, append_assoc, arith, length-drop, drop_of_length-le, length-take}
use borrow.Rule.Slice.PartMut.{put_mid}
use Rattle.std.proofs.lemmas.List.{append-nil}
use Rattle.engine.specs.Model.{Row}
use Rattle.engine.specs.Promise.{joined}

pub cleared : (d ys : List ℕ) (rows : ℕ) → length d ≡ 2880 → rows ≤ 40 → ys ≡ replicate (length (take (2880 - rows * 72) (drop (rows * 72) d))) 32
    → put_mid (rows * 72) (2880 - rows * 72) d ys ≡ take (rows * 72) d ++ replicate ((40 - rows) * 72) 32
cleared d ys rows l b h =
    let n = length-drop (rows * 72) d in
    let k = length-take (2880 - rows * 72) (drop (rows * 72) d) in
    let w : length (take (2880 - rows * 72) (drop (rows * 72) d)) ≡ (40 - rows) * 72 = omega arith in
    let z : drop (2880 - rows * 72) (drop (rows * 72) d) ≡ [] = drop_of_length-le (drop (rows * 72) d) (omega arith) in
    ap (λ t. take (rows * 72) d ++ (ys ++ t)) z ∙ ap (λ t. take (rows * 72) d ++ t) (append-nil ys ∙ h ∙ ap (λ m. replicate m 32) w)

-- rows one behind another
pub joined_append : (rs ss : List Row) → joined (rs ++ ss) ≡ joined rs ++ joined ss
joined_append [] ss = refl
joined_append (r ∷ rs) ss = ap (λ l. r ++ l) (joined_append rs ss) ∙ sym (append_assoc r (joined rs) (joined ss))
