-- The value is a weight of the graph, which fits.
use Rattle.std.proofs.Common.{arith}
use Rattle.node_tree.proofs.PartWeights.{weight_small}
use Rattle.region_sweep.proofs.Members.{least_weight}
use Rattle.cactus_solver.proofs.by_growth.tree_by_growth.Goals as goal

pub grown_kernel-requires-clause-fits : goal.grown_kernel-requires-clause-fits
grown_kernel-requires-clause-fits o c =
    let g = c.args.graph.now in
    let ok = c.n-n.ensures.edge_list.is_graph in
    let least = least_weight g ok c.requires.enough in
    omega (arith, c.requires.value, weight_small g ok least.some, least.weighs)
