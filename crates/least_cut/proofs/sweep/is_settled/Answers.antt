-- One component makes the graph connected.
use Rattle.std.proofs.Common.{arith}
use Rattle.std.proofs.lemmas.Bool.{eqb-true}
use Rattle.weighted_graph.proofs.OneComponent.{law_of_one_component}
use Rattle.least_cut.proofs.sweep.is_settled.Goals as goal

pub returns : goal.returns
returns c = λ is.
    let g = c.args.graph.now in
    let connected = (law_of_one_component g c.in_ok-components.components c.in_ok-components.ensures.counted).0 (eqb-true c.in_ok-components.components 1 is) in
    omega (arith, c.least_if_connected-least.ensures connected, c.if-weight-least.false)
