-- The cuts of the graph of a region weigh no less than those of the whole graph.
use Rattle.std.proofs.Common.{subst, sym, arith}
use Rattle.cut_definitions.specs.Components.{IsConnected}
use Rattle.cut_definitions.specs.Contraction.{relabel}
use Rattle.cut_definitions.specs.Graph.{Graph}
use Rattle.cut_definitions.proofs.Results.{if_both, if_ok_more}
use Rattle.weighted_graph.proofs.Contraction.{law_of_contracted_connection}
use Rattle.node_tree.specs.Finished.{IsFinished}
use Rattle.region_sweep.specs.Shares.{IsPartTree}
use Rattle.region_sweep.proofs.Grafts.{finished_part, no_cut, no_light_cut, part_value, root_part_of}
use Rattle.region_sweep.proofs.Members.{least_weight}
use Rattle.node_tree.proofs.PartWeights.{weight_small}
use Rattle.region_sweep.proofs.shares.tree_of_part.Goals as goal

pub returns-then-n-lt2 : goal.returns-then-n-lt2
returns-then-n-lt2 c =
    let part = c.in_ok-part.part in
    let h = relabel c.args.graph.now c.args.labels.now in
    if_both c.of_root.result _ _ (IsPartTree c.args.value h)
    (λ t tree homes. root_part_of h part t c.args.value c.n-n-2.result c.in_ok-part.ensures c.n-n-2.ensures.value tree homes
    (λ x cut weighs. no_cut part.vertices x (omega (arith, c.if-n-lt2.true, c.n-n-2.ensures.value)) cut))
    c.of_root.ensures.tree c.of_root.ensures.homes

pub is_heavier-requires-clause-small : goal.is_heavier-requires-clause-small
is_heavier-requires-clause-small c =
    let g = c.args.graph.now in
    let ok = c.n-n.ensures.edge_list.is_graph in
    let least = least_weight g ok c.requires.enough in
    omega (arith, c.requires.value, weight_small g ok least.some, least.weighs)

pub returns-then-branch : goal.returns-then-branch
returns-then-branch c =
    let part = c.in_ok-part.part in
    let h = relabel c.args.graph.now c.args.labels.now in
    if_both c.of_root-then-branch.result _ _ (IsPartTree c.args.value h)
    (λ t tree homes. root_part_of h part t c.args.value c.n-n-2.result c.in_ok-part.ensures c.n-n-2.ensures.value tree homes
    (λ x cut weighs. no_light_cut part c.args.value x c.n-n-2.ensures.edge_list.is_graph (c.in_ok-is_heavier.ensures.yes c.if-branch.true) cut weighs))
    c.of_root-then-branch.ensures.tree c.of_root-then-branch.ensures.homes

pub tree_of-requires-clause-connected : goal.tree_of-requires-clause-connected
tree_of-requires-clause-connected c =
    let g = c.args.graph.now in
    subst IsConnected (sym c.in_ok-part.ensures) (law_of_contracted_connection g c.n-n.ensures.edge_list.is_graph c.args.labels.now c.requires.labelled c.requires.connected)

pub tree_of-requires-clause-value : goal.tree_of-requires-clause-value
tree_of-requires-clause-value c =
    part_value c.args.graph.now c.in_ok-part.part c.args.labels.now c.args.value c.n-n-2.result c.n-n.ensures.edge_list.is_graph c.requires.labelled c.in_ok-part.ensures c.requires.value
    c.n-n-2.ensures.value (omega (arith, c.if-n-lt2.false)) (c.in_ok-is_heavier.ensures.no c.if-branch.false)

pub returns : goal.returns
returns c =
    let part = c.in_ok-part.part in
    if_ok_more (IsFinished part) (IsPartTree c.args.value (relabel c.args.graph.now c.args.labels.now)) c.tree_of.result
    (λ t done. subst (λ (h : Graph). IsPartTree c.args.value h t) c.in_ok-part.ensures (finished_part part t c.args.value c.n-n-2.ensures.edge_list.is_graph done (part_value c.args.graph.now part c.args.labels.now c.args.value c.n-n-2.result c.n-n.ensures.edge_list.is_graph c.requires.labelled c.in_ok-part.ensures c.requires.value
    c.n-n-2.ensures.value (omega (arith, c.if-n-lt2.false)) (c.in_ok-is_heavier.ensures.no c.if-branch.false))))
    c.tree_of.ensures
