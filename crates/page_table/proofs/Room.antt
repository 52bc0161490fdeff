-- There is a free place wherever one is needed.
use Rattle.std.proofs.Common.{ℕ, ◌<◌, ◌++◌, inl, inr, arith}
use Rattle.std.proofs.lemmas.List.{length-append}
use Rattle.std.proofs.lemmas.Bool.{cases_lt}
use Rattle.page_table.specs.Indexes.{Index, users}
use Rattle.page_table.specs.Sound.{Sound}
use Rattle.page_table.specs.Free.{Free, NeedsPlace}
use Rattle.page_table.proofs.Users.{enough}
use Rattle.page_table.proofs.Changing.{made_is}

-- the pages that stand are at most half as many as the places, and those under way are fewer
pub place_left : (i : Index) → Sound i → NeedsPlace i → ((x : ℕ) → Free i x → ⊥) → ⊥
place_left i sound needs none =
    let used : (x : ℕ) → x < i.places → 0 < users (i.pages ++ i.made) x =
    λ x h. elim (cases_lt 0 (users (i.pages ++ i.made) x)) [ inl l ↦ l | inr l ↦ absurd (none x (record { within = h; unused = omega arith })) ]
    in
    let e = enough i.places (i.pages ++ i.made) used in
    let n = length-append i.pages i.made in
    let m = made_is i needs.way sound needs.resumed in
    let b = needs.below in
    let s = sound.sized.1 in
    omega arith
