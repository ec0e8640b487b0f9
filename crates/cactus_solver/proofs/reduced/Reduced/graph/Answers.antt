-- What is kept of the list has its value, and is connected where it is.
use Rattle.cut_definitions.specs.Cuts.{value}
use Rattle.cactus_solver.proofs.Standing.{kept_can_stand}
use Rattle.cactus_solver.proofs.reduced.Reduced.graph.Goals as goal

pub returns-in-Kernel-clause-stands : goal.returns-in-Kernel-clause-stands
returns-in-Kernel-clause-stands c =
    let r = c.in-Kernel in
    rw r.is (kept_can_stand r.list r.graph c.n-n.ensures.edge_list.is_graph c.n-small.ensures.edge_list.is_graph (value r.graph) r.labels (rw r.is at c.requires))
