use Rattle.std.proofs.Common.{◌≡◌, ◌≤◌, ◌<◌, length, nat_abs, rules}
use Rattle.std.proofs.lemmas.List.{take_min, drop_min}
use Rattle.division.specs.Floor.{quotient, remainder}
use Rattle.numberer.specs.Rows.{first_row, second_row}
use Rattle.numberer.proofs.Columns.{one_row, two_rows}
use Rattle.numberer.proofs.rows.print_rows.Goals as goal

pub returns-then-is_empty-clause-buffer : goal.returns-then-is_empty-clause-buffer
returns-then-is_empty-clause-buffer c =
    let s = c.args.state in
    let text = c.args.text.now in
    let turn = quotient s.number (nat_abs s.stops.value) in
    let stop = remainder s.number (nat_abs s.stops.value) in
    let short : length text ≤ 60 = search rules in
    let e : c.set_first_row.new.row ≡ first_row turn stop text = search (rules, take_min) in
    one_row turn stop text c.args.rows.now c.set_first_row.new.row short e

pub returns-clause-buffer : goal.returns-clause-buffer
returns-clause-buffer c =
    let s = c.args.state in
    let text = c.args.text.now in
    let turn = quotient s.number (nat_abs s.stops.value) in
    let stop = remainder s.number (nat_abs s.stops.value) in
    let long : 60 < length text = search rules in
    let size : length c.set_first_row.new.row ≡ 72 = search rules in
    let room : 144 ≤ length c.args.rows.now = search rules in
    let e : c.set_first_row.new.row ≡ first_row turn stop text = search (rules, take_min) in
    let f : c.set_text.new.row ≡ second_row text = search (rules, drop_min) in
    two_rows turn stop text c.args.rows.now c.set_first_row.new.row c.set_text.new.row long size room e f
