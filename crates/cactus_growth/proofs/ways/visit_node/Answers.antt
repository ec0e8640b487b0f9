use Rattle.std.proofs.Common.{◌∙◌, sym}
use Rattle.cactus_growth.proofs.ways.visit_node.Goals as goal

pub returns-then-has_vertex-clause-found : goal.returns-then-has_vertex-clause-found
returns-then-has_vertex-clause-found c = λ x h. (c.args.node.now, h, sym c.has_vertex.ensures ∙ c.if-has_vertex.true)
