use Rattle.std.proofs.Common.{◌≡◌, length, rules}
use Rattle.page_maker.proofs.Rows.{cleared}
use Rattle.page_maker.proofs.put.clear_rows.Goals as goal

pub returns : goal.returns
returns c =
    let size : length c.args.body.now ≡ 2880 = search rules in
    cleared c.args.body.now c.fill.new.self c.args.rows.count size c.args.rows.within (c.fill.ensures.after (λ y e. e))
