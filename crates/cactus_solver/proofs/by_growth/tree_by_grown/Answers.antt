-- The graph on grown sets has no lighter cut, and its tree with the noted vertices is that of all minimum cuts.
use Rattle.std.proofs.Common.{◌+◌, ℕ, sym, ◌∙◌, subst, ap, arith}
use Rattle.cut_definitions.specs.Components.{IsConnected}
use Rattle.cut_definitions.specs.Cuts.{value}
use Rattle.cut_definitions.specs.Graph.{Graph}
use Rattle.cut_definitions.proofs.ContractionLaws.{vertices-relabel}
use Rattle.weighted_graph.proofs.Contraction.{law_of_contracted_connection}
use Rattle.node_tree.specs.Finished.{arrays_of}
use Rattle.node_tree.specs.Grafted.{IsTreeAt}
use Rattle.node_tree.proofs.PartWeights.{weight_small}
use Rattle.region_sweep.proofs.Members.{least_weight}
use Rattle.cactus_solver.proofs.by_growth.tree_by_grown.Goals as goal

pub tree_at_amount-requires-clause-connected : goal.tree_at_amount-requires-clause-connected
tree_at_amount-requires-clause-connected o c = λ _ _.
    let k = c.requires.grown in
    subst IsConnected (sym k.small) (law_of_contracted_connection c.args.graph.now c.n-n.ensures.edge_list.is_graph c.args.grown.labels k.labelled c.requires.connected)

pub tree_at_amount-requires-clause-small : goal.tree_at_amount-requires-clause-small
tree_at_amount-requires-clause-small o c =
    let g = c.args.graph.now in
    let ok = c.n-n.ensures.edge_list.is_graph in
    let least = least_weight g ok c.requires.enough in
    omega (arith, c.requires.value, weight_small g ok least.some, least.weighs)

pub tree_at_amount-requires-clause-no_less : goal.tree_at_amount-requires-clause-no_less
tree_at_amount-requires-clause-no_less o c = λ _ _ two.
    let k = c.requires.grown in
    let many = ap (λ (h : Graph). h.vertices) k.small ∙ vertices-relabel c.args.graph.now c.args.grown.labels in
    let same = ap value k.small in
    let low = k.kept.no_less (omega (arith, two, many)) in
    omega (arith, c.requires.value, low, same)

pub tree_with_leaves-requires-clause-long : goal.tree_with_leaves-requires-clause-long
tree_with_leaves-requires-clause-long o c = c.in_ok-tree.ensures.long ∙ ap (λ (h : Graph). h.vertices + 1) c.requires.grown.small

pub tree_with_leaves-requires-clause-tree : goal.tree_with_leaves-requires-clause-tree
tree_with_leaves-requires-clause-tree o c =
    subst (λ (h : Graph). IsTreeAt (value c.args.graph.now) h (arrays_of c.in_ok-tree.tree)) c.requires.grown.small
    (subst (λ (k : ℕ). IsTreeAt k c.args.grown.graph (arrays_of c.in_ok-tree.tree)) c.requires.value c.in_ok-tree.ensures.tree)
