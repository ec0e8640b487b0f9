-- The lesser of the value and what no cut outweighs is the value.
use Rattle.std.proofs.Common.{arith}
use Rattle.min_value.proofs.Scanned.{value_fits}
use Rattle.min_value.proofs.by_list.value_of_list.Goals as goal

pub returns : goal.returns
returns g c = omega (arith, c.in_ok-weight.ensures, value_fits c.args.list c.n-n.ensures.edge_list.is_graph c.requires)
