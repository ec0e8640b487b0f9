-- The least degree is no less than the value, and what is left tells it.
use Rattle.std.proofs.Common.{arith}
use Rattle.least_cut.proofs.ByDegrees.{degrees_fit}
use Rattle.forest_contraction.proofs.Lessening.{least_above, lowered_above_value}
use Rattle.forest_contraction.proofs.shrinking.contract_measured.Goals as goal

pub returns-then-len-le-FEW_EDGES : goal.returns-then-len-le-FEW_EDGES
returns-then-len-le-FEW_EDGES c = least_above c.args.list.now c.n-n.ensures.edge_list.is_graph c.requires.enough c.args.least c.requires.least

pub pass-requires-clause-fits : goal.pass-requires-clause-fits
pass-requires-clause-fits c = degrees_fit c.args.list.now c.n-n.ensures.edge_list.is_graph c.args.least c.requires.least.least (omega (arith, c.requires.enough))

pub other_pass-requires-clause-fits : goal.other_pass-requires-clause-fits
other_pass-requires-clause-fits c = omega (arith, c.in_ok-bound.ensures.at_most, degrees_fit c.args.list.now c.n-n.ensures.edge_list.is_graph c.args.least c.requires.least.least (omega (arith, c.requires.enough)))

pub contract_rest-requires : goal.contract_rest-requires
contract_rest-requires c =
    omega (arith, c.in_ok-other.ensures.at_most, c.in_ok-bound.ensures.at_most, degrees_fit c.args.list.now c.n-n.ensures.edge_list.is_graph c.args.least c.requires.least.least (omega (arith, c.requires.enough)))

pub contract_rest-requires-2 : goal.contract_rest-requires-2
contract_rest-requires-2 c = omega (arith, c.in_ok-bound.ensures.at_most, degrees_fit c.args.list.now c.n-n.ensures.edge_list.is_graph c.args.least c.requires.least.least (omega (arith, c.requires.enough)))

pub returns-in_default : goal.returns-in_default
returns-in_default c =
    let g = c.args.list.now in
    let lowered = rw c.in_default.is at c.in_ok-bound.ensures.left in
    let high = lowered_above_value g c.args.least c.in_ok-bound.field-0.bound c.requires.enough (least_above g c.n-n.ensures.edge_list.is_graph c.requires.enough c.args.least c.requires.least) lowered in
    c.contract_rest.ensures g c.in_ok-bound.field-0.bound c.requires.enough high c.in_ok-other.ensures

pub returns : goal.returns
returns c =
    let g = c.args.list.now in
    let high = least_above g c.n-n.ensures.edge_list.is_graph c.requires.enough c.args.least c.requires.least in
    c.contract_rest-2.ensures g c.args.least c.requires.enough high (record { at_most = c.in_ok-bound.ensures.at_most; left = rw c.in-Some.is at c.in_ok-bound.ensures.left })
