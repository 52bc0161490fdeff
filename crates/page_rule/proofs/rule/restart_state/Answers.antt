use Rattle.page_rule.proofs.Head.{head_law}
use Rattle.page_rule.proofs.rule.restart_state.Goals as goal

pub returns-clause-law : goal.returns-clause-law
returns-clause-law g c = head_law (g.E.Engine.model c.args.engine.now)
