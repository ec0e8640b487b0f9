-- Once the search is done, its tree is that of the minimum cuts.
use Rattle.std.proofs.Common.{arith}
use Rattle.node_tree.proofs.Branching.{none_done}
use Rattle.node_tree.proofs.TreeGraphs.{branching_finished}
use Rattle.node_tree.proofs.branches.tree_of_branches.Goals as goal

pub loop-node-init : goal.loop-node-init
loop-node-init c = none_done c.args.graph.now c.args.value c.n.result c.in_ok-branches.branches c.n.ensures.value c.in_ok-branches.ensures.search

pub returns : goal.returns
returns c =
    branching_finished c.args.graph.now c.loop-node.branches c.loop-node.node c.n-n.ensures.edge_list.is_graph c.requires.connected (rw c.requires.value at c.loop-node.invariant)
    (omega (arith, c.if-len-n.false, c.len-2.ensures, c.loop-node-test.false, c.loop-node.auto.node-end))
