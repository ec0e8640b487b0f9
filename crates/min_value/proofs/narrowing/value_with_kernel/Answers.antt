-- A sweep up to what no cut outweighs tells the value, or a number above it.
use Rattle.std.proofs.Common.{◌^◌, subst, arith}
use Rattle.min_value.specs.Left.{TellsLesser}
use Rattle.min_value.proofs.Scanned.{value_fits}
use Rattle.min_value.proofs.narrowing.value_with_kernel.Goals as goal

pub value_by_narrowing-requires-clause-bound : goal.value_by_narrowing-requires-clause-bound
value_by_narrowing-requires-clause-bound g c =
    let graph = c.args.graph.now in
    let told = subst (TellsLesser graph (2 ^ 61)) c.in-Part.is c.in_ok-weight.ensures in
    omega (arith, told.0, value_fits graph c.n-n.ensures.edge_list.is_graph c.requires.enough)

pub returns-in-Whole-clause-value : goal.returns-in-Whole-clause-value
returns-in-Whole-clause-value g c =
    let graph = c.args.graph.now in
    let told = subst (TellsLesser graph (2 ^ 61)) c.in-Whole.is c.in_ok-weight.ensures in
    omega (arith, told.0, value_fits graph c.n-n.ensures.edge_list.is_graph c.requires.enough)
