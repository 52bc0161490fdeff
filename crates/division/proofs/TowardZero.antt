-- Floor division: what it is, that nothing else is, and how it comes from division toward zero. Assumes nothing.
use Rattle.std.proofs.Common.{◌≡◌, ℕ, zero, suc, ◌+◌, ◌-◌, ◌*◌, ◌/◌, ◌%◌, ◌<◌, ℤ, pos, negsuc, ◌+ℤ◌, ◌-ℤ◌, neg_ℤ, ◌≤ℤ◌, ◌<ℤ◌, sym, refl, ap, ◌∙◌, mod-lt, div-add-mod', div-le_self, arith, w32, SFits, nat_abs}
use lib.Signed.{mag_rem, quot_z, rem_z}
use mir.Syntax.{Width}
use Rattle.std.proofs.lemmas.Int.{ints}
use Rattle.std.proofs.lemmas.Nat.{div-mul-add, mod-mul-add}
use Rattle.division.specs.Floor.{quotient, remainder, Floors, FloorLaw}

-- a quotient and a remainder are known by the sum
parts : (a m b s : ℕ) → s < m → a ≡ b * m + s → (a / m ≡ b) × (a % m ≡ s)
parts a m b s h e = (ap (λ n. n / m) e ∙ div-mul-add b m s h, ap (λ n. n % m) e ∙ mod-mul-add b m s h)

pub floors : (v : ℤ) (m : ℕ) → 0 < m → Floors v m (quotient v m) (remainder v m)
floors (pos a) m h = record { sum = omega (arith, ints, div-add-mod' a m); low = mod-lt a h }
floors (negsuc a) m h =
    record { sum = omega (arith, ints, div-add-mod' a m, mod-lt a h); low = omega (arith, mod-lt a h) }

pub only : (v : ℤ) (m : ℕ) → 0 < m → (q : ℤ) (r : ℕ) → Floors v m q r → (q ≡ quotient v m) × (r ≡ remainder v m)
only (pos a) m h (pos b) r f =
    let e : a ≡ b * m + r = omega (arith, ints, f.sum) in
    let p = parts a m b r f.low e in
    (ap pos (sym p.0), sym p.1)
only (pos a) m h (negsuc b) r f = absurd (omega (arith, ints, f.sum, f.low))
only (negsuc a) m h (pos b) r f = absurd (omega (arith, ints, f.sum))
only (negsuc a) m h (negsuc b) r f =
    let l : r < m = f.low in
    let e : a ≡ b * m + (m - 1 - r) = omega (arith, ints, f.sum) in
    let p = parts a m b (m - 1 - r) (omega arith) e in
    (ap negsuc (sym p.0), omega (arith, p.1))

pub law : FloorLaw
law v m h = (floors v m h, only v m h)

-- toward zero, with a remainder below 0: the quotient is one less
pub from_below : (v : ℤ) (m : ℕ) → 0 < m → rem_z v (pos m) <ℤ pos 0 → (quot_z v (pos m) -ℤ pos 1 ≡ quotient v m) × (rem_z v (pos m) +ℤ pos m ≡ pos (remainder v m))
from_below (pos a) m h lt = absurd (omega (arith, ints, lt))
from_below (negsuc a) m h lt =
    let s : 0 < suc a % m = omega (arith, ints, lt) in
    let e : a ≡ suc a / m * m + (suc a % m - 1) = omega (arith, div-add-mod' (suc a) m) in
    let p = parts a m (suc a / m) (suc a % m - 1) (omega (arith, mod-lt (suc a) h)) e in
    (omega (arith, ints, p.0), omega (arith, ints, p.1, mod-lt (suc a) h))

-- toward zero, with a remainder at or above 0: the same
pub from_above : (v : ℤ) (m : ℕ) → 0 < m → pos 0 ≤ℤ rem_z v (pos m) → (quot_z v (pos m) ≡ quotient v m) × (rem_z v (pos m) ≡ pos (remainder v m))
from_above (pos a) m h le = (refl, refl)
from_above (negsuc a) m h le = at (suc a / m) refl
  where
    none : suc a % m ≡ 0
    none = omega (arith, ints, le)

    at : (q : ℕ) → suc a / m ≡ q → (neg_ℤ (pos (suc a / m)) ≡ negsuc (a / m)) × (neg_ℤ (pos (suc a % m)) ≡ pos (m - 1 - a % m))
    at zero e = absurd (omega (arith, none, div-add-mod' (suc a) m, ap (λ n. n * m) e))
    at (suc b) e =
        let f : a ≡ b * m + (m - 1) = omega (arith, none, div-add-mod' (suc a) m, ap (λ n. n * m) e) in
        let p = parts a m b (m - 1) (omega arith) f in
        (omega (arith, ints, p.0, e), omega (arith, ints, p.1, none))

-- the same by a divisor above 0, with the fact that the remainder stays in range
pub below : (v d : ℤ) → pos 0 <ℤ d → SFits w32 d → rem_z v d <ℤ pos 0 → (quot_z v d -ℤ pos 1 ≡ quotient v (nat_abs d)) × (rem_z v d +ℤ d ≡ pos (remainder v (nat_abs d))) × SFits w32 (pos (remainder v (nat_abs d)))
below v (pos m) h f lt =
    let some : 0 < m = omega (arith, ints, h) in
    let p = from_below v m some lt in
    (p.0, p.1, record { sfits = omega (arith, f.sfits, (floors v m some).low) })
below v (negsuc m) h f lt = absurd (omega (arith, ints, h))

pub above : (v d : ℤ) → pos 0 <ℤ d → pos 0 ≤ℤ rem_z v d → (quot_z v d ≡ quotient v (nat_abs d)) × (rem_z v d ≡ pos (remainder v (nat_abs d)))
above v (pos m) h le = from_above v m (omega (arith, ints, h)) le
above v (negsuc m) h le = absurd (omega (arith, ints, h))

-- all of these stay in the range of v
pub quotient_fits : (w : Width) (v : ℤ) (m : ℕ) → SFits w v → SFits w (quotient v m)
quotient_fits w (pos a) m f = record { sfits = omega (arith, div-le_self a m, f.sfits) }
quotient_fits w (negsuc a) m f = record { sfits = omega (arith, div-le_self a m, f.sfits) }

pub quot_fits : (w : Width) (v : ℤ) (m : ℕ) → SFits w v → SFits w (quot_z v (pos m))
quot_fits w (pos a) m f = record { sfits = omega (arith, div-le_self a m, f.sfits) }
quot_fits w (negsuc a) m f =
    record { sfits = omega (arith, ints, div-le_self (suc a) m, f.sfits) }

pub rem_fits : (w : Width) (v : ℤ) (m : ℕ) → SFits w v → SFits w (rem_z v (pos m))
rem_fits w v m f = record { sfits = omega (arith, mag_rem v (pos m), f.sfits) }
