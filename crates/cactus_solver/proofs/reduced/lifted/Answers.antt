-- The tree with the vertices of each class in place of the class.
use Rattle.std.proofs.Common.{arith}
use Rattle.cut_definitions.proofs.Results.{if_both}
use Rattle.cut_definitions.specs.Cuts.{value}
use Rattle.node_tree.specs.Finished.{IsFinished}
use Rattle.cactus_solver.proofs.Lifting.{classes_within, lifted_finished}
use Rattle.cactus_solver.proofs.Standing.{enough_in}
use Rattle.cactus_solver.proofs.reduced.lifted.Goals as goal

pub spread-requires : goal.spread-requires
spread-requires c = rw c.as_slice.ensures.value (classes_within c.args.list.now c.args.graph.now (value c.args.graph.now) c.args.labels.now c.args.tree c.requires.kept c.requires.tree)

pub returns : goal.returns
returns c =
    let list = c.args.list.now in
    let graph = c.args.graph.now in
    let labels = c.args.labels.now in
    if_both c.spread.result _ _ (IsFinished list)
    (λ u tree homes. lifted_finished list graph (value graph) labels c.args.tree u c.n-n.ensures.edge_list.is_graph c.n-small.ensures.edge_list.is_graph (omega (arith, enough_in list graph (value graph) labels c.requires.kept)) c.requires.kept c.requires.tree tree homes)
    c.spread.ensures.tree (rw c.as_slice.ensures.value at c.spread.ensures.homes)
