-- The smaller graph is connected too.
use Rattle.cactus_solver.proofs.Standing.{kept_can_stand}
use Rattle.cactus_solver.proofs.solver.tree_at_value.Goals as goal

pub tree_of_cuts-requires-clause-connected : goal.tree_of_cuts-requires-clause-connected
tree_of_cuts-requires-clause-connected g c =
    let k = c.in-Some.kernel in
    (kept_can_stand c.args.graph.now k.graph c.n-n.ensures.edge_list.is_graph c.n-small.ensures.edge_list.is_graph k.value k.labels (rw c.in-Some.is at c.in_ok-kernel.ensures.kept)).connected c.requires.connected
