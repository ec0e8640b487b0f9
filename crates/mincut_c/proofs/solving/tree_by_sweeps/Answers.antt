use Rattle.std.proofs.Common.{arith}
use Rattle.cactus_solver.proofs.Connected.{connected_by_value}
use Rattle.mincut_c.proofs.solving.tree_by_sweeps.Goals as goal

pub tree_of_cuts-requires-clause-connected : goal.tree_of_cuts-requires-clause-connected
tree_of_cuts-requires-clause-connected c =
    connected_by_value c.args.graph.now c.n-n.ensures.edge_list.is_graph c.requires (omega (arith, c.in_ok-least.ensures, c.if-least-eq0.false))
