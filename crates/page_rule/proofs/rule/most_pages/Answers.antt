use Rattle.page_rule.proofs.Shape.{shape_law}
use Rattle.page_rule.proofs.rule.most_pages.Goals as goal

pub returns-clause-shape : goal.returns-clause-shape
returns-clause-shape g c = let engine = c.args.engine.now in shape_law (g.E.Engine.model engine) (g.met.E.Engine.steps engine) (g.met.E.Engine.closes engine)
