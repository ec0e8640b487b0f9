-- The least degree is no less than the value, and what is left tells it.
use Rattle.std.proofs.Common.{arith}
use Rattle.least_cut.proofs.ByDegrees.{degrees_fit}
use Rattle.forest_contraction.proofs.Lessening.{least_above}
use Rattle.forest_contraction.proofs.shrinking.contract_with_ties.Goals as goal

pub returns-then-len-le-FEW_EDGES-clause-left : goal.returns-then-len-le-FEW_EDGES-clause-left
returns-then-len-le-FEW_EDGES-clause-left c = least_above c.args.list.now c.n-n.ensures.edge_list.is_graph c.requires c.in_ok-least.least c.in_ok-least.ensures

pub shrunk-requires-clause-fits : goal.shrunk-requires-clause-fits
shrunk-requires-clause-fits c = degrees_fit c.args.list.now c.n-n.ensures.edge_list.is_graph c.in_ok-least.least c.in_ok-least.ensures.least (omega (arith, c.requires))

pub other_pass-requires-clause-fits : goal.other_pass-requires-clause-fits
other_pass-requires-clause-fits c = degrees_fit c.args.list.now c.n-n.ensures.edge_list.is_graph c.in_ok-least.least c.in_ok-least.ensures.least (omega (arith, c.requires))

pub contract_rest-requires : goal.contract_rest-requires
contract_rest-requires c = omega (arith, c.in_ok-other.ensures.at_most, degrees_fit c.args.list.now c.n-n.ensures.edge_list.is_graph c.in_ok-least.least c.in_ok-least.ensures.least (omega (arith, c.requires)))

pub returns-in_default-clause-left : goal.returns-in_default-clause-left
returns-in_default-clause-left c =
    let g = c.args.list.now in
    c.in_ok-contracted.ensures g c.in_ok-least.least c.requires (least_above g c.n-n.ensures.edge_list.is_graph c.requires c.in_ok-least.least c.in_ok-least.ensures) c.in_ok-other.ensures

pub contract_rest-requires-2 : goal.contract_rest-requires-2
contract_rest-requires-2 c =
    let made = c.in_ok-made.ensures c.args.list.now c.requires (rw c.in-Some.is at c.in_ok-small.ensures.left) in
    omega (arith, made.at_most, degrees_fit c.args.list.now c.n-n.ensures.edge_list.is_graph c.in_ok-least.least c.in_ok-least.ensures.least (omega (arith, c.requires)))

pub returns-clause-left : goal.returns-clause-left
returns-clause-left c =
    let g = c.args.list.now in
    let made = c.in_ok-made.ensures g c.requires (rw c.in-Some.is at c.in_ok-small.ensures.left) in
    c.in_ok-contracted-2.ensures g c.in_ok-least.least c.requires (least_above g c.n-n.ensures.edge_list.is_graph c.requires c.in_ok-least.least c.in_ok-least.ensures) made

pub returns-clause-ties : goal.returns-clause-ties
returns-clause-ties c =
    rw c.in-Some.is at (c.in_ok-small.ensures.ties (least_above c.args.list.now c.n-n.ensures.edge_list.is_graph c.requires c.in_ok-least.least c.in_ok-least.ensures))
