-- One component makes the graph connected.
use Rattle.std.proofs.Common.{arith}
use Rattle.weighted_graph.proofs.OneComponent.{law_of_one_component}
use Rattle.least_cut.proofs.lightest.lower_bound.Goals as goal

pub returns : goal.returns
returns c = c.least_if_connected.ensures ((law_of_one_component c.args.graph.now c.in_ok-components.field-0 c.in_ok-components.ensures.counted).0 (omega (arith, c.if-branch-ne1.false)))
