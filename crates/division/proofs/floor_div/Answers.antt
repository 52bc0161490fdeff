use Rattle.std.proofs.Common.{◌<◌, pos, ◌<ℤ◌, ◌≤ℤ◌, nat_abs, arith, w32, SFits, rules}
use lib.Signed.{rem_z}
use Rattle.std.proofs.lemmas.Int.{ints}
use Rattle.division.proofs.TowardZero.{floors, below, above, law}
use Rattle.division.proofs.floor_div.Goals as goal

pub returns-then-remainder-lt0 : goal.returns-then-remainder-lt0
returns-then-remainder-lt0 c =
    let v = c.args.v in
    let d = c.args.by.value in
    let some : 0 < nat_abs d = omega (arith, ints, c.args.by.positive) in
    let f : SFits w32 d = search rules in
    let lt : rem_z v d <ℤ pos 0 = search rules in
    let p = below v d c.args.by.positive f lt in
    record { quotient = search rules; remainder = search rules; floors = search (rules, floors v (nat_abs d) some); only = law }

pub returns-else-remainder-lt0 : goal.returns-else-remainder-lt0
returns-else-remainder-lt0 c =
    let v = c.args.v in
    let d = c.args.by.value in
    let some : 0 < nat_abs d = omega (arith, ints, c.args.by.positive) in
    let le : pos 0 ≤ℤ rem_z v d = search rules in
    let p = above v d c.args.by.positive le in
    record { quotient = search rules; remainder = search rules; floors = search (rules, floors v (nat_abs d) some); only = law }
