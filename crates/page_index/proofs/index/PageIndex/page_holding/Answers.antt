use Rattle.std.proofs.Common.{rules}
use Rattle.page_table.specs.Indexes.{index_of}
use Rattle.page_index.proofs.Meeting.{holder_gives}
use Rattle.page_index.proofs.index.PageIndex.page_holding.Goals as goal

pub returns : goal.returns
returns c = holder_gives (index_of c.args.self.now.table) c.args.item c.pages.result.now c.pages.ensures _ c.find_page.result c.find_page.ensures (λ p b met. search rules)
