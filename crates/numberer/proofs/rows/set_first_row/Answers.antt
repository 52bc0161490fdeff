use Rattle.std.proofs.Common.{◌≡◌, ◌≤◌, length, pos, nat_abs, arith, rules}
use Rattle.std.proofs.lemmas.Int.{ints}
use Rattle.division.specs.Floor.{quotient, remainder}
use Rattle.numerals.specs.Fields.{placed, verdict}
use Rattle.numberer.proofs.Columns.{first, fits, turn_size, stop_size}
use Rattle.numberer.proofs.rows.set_first_row.Goals as goal

pub unwrap-requires : goal.unwrap-requires
unwrap-requires c =
    let s = c.args.state in
    let stops = nat_abs s.stops.value in
    let size : 7 ≤ length c.set_text.new.row = search rules in
    let v : c.put_number.result ≡ verdict (length c.set_text.new.row) 0 7 (quotient s.number stops) = search rules in
    fits (length c.set_text.new.row) 0 7 (quotient s.number stops) c.put_number.result size (turn_size s.number stops s.low s.high) v

pub unwrap-requires-2 : goal.unwrap-requires-2
unwrap-requires-2 c =
    let s = c.args.state in
    let stops = nat_abs s.stops.value in
    let size : 11 ≤ length c.put_number.new.row = search rules in
    let v : c.put_number-2.result ≡ verdict (length c.put_number.new.row) 8 3 (pos (remainder s.number stops)) = search rules in
    fits (length c.put_number.new.row) 8 3 (pos (remainder s.number stops)) c.put_number-2.result size (stop_size s.number stops (omega (arith, ints)) (omega (arith, ints))) v

pub returns : goal.returns
returns c =
    let s = c.args.state in
    let turn = quotient s.number (nat_abs s.stops.value) in
    let stop = pos (remainder s.number (nat_abs s.stops.value)) in
    let t : c.put_number.new.row ≡ placed c.set_text.new.row 0 7 turn = search rules in
    let p : c.put_number-2.new.row ≡ placed c.put_number.new.row 8 3 stop = search rules in
    first c.set_text.new.row c.put_number.new.row c.put_number-2.new.row c.args.text.now turn stop c.set_text.ensures t p
