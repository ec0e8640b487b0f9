-- The tree of all minimum cuts, where the amount is the value, and else the root alone.
use Rattle.std.proofs.Common.{◌≡◌, refl, arith}
use Rattle.cut_definitions.specs.Cuts.{value}
use Rattle.cut_definitions.proofs.Results.{if_both, if_ok_more}
use Rattle.node_tree.specs.Finished.{IsFinished}
use Rattle.region_sweep.specs.Shares.{IsPartTree}
use Rattle.region_sweep.proofs.Grafts.{finished_part, no_cut, no_light_cut, root_part_of}
use Rattle.region_sweep.proofs.at_amount.tree_at_amount.Goals as goal

pub returns-then-n-lt2 : goal.returns-then-n-lt2
returns-then-n-lt2 g c =
    let graph = c.args.graph.now in
    if_both c.of_root.result _ _ (IsPartTree c.args.amount graph)
    (λ t tree homes. root_part_of graph graph t c.args.amount c.n-n.result refl c.n-n.ensures.value tree homes
    (λ x cut weighs. no_cut graph.vertices x (omega (arith, c.if-n-lt2.true, c.n-n.ensures.value)) cut))
    c.of_root.ensures.tree c.of_root.ensures.homes

pub returns-then-branch : goal.returns-then-branch
returns-then-branch g c =
    let graph = c.args.graph.now in
    if_both c.of_root-then-branch.result _ _ (IsPartTree c.args.amount graph)
    (λ t tree homes. root_part_of graph graph t c.args.amount c.n-n.result refl c.n-n.ensures.value tree homes
    (λ x cut weighs. no_light_cut graph c.args.amount x c.n-n.ensures.edge_list.is_graph (c.in_ok-is_heavier.ensures.yes c.if-branch.true) cut weighs))
    c.of_root-then-branch.ensures.tree c.of_root-then-branch.ensures.homes

pub tree_by_workers-requires-clause-value : goal.tree_by_workers-requires-clause-value
tree_by_workers-requires-clause-value g c =
    let no_more = c.in_ok-is_heavier.ensures.no c.if-branch.false in
    let no_less = c.requires.no_less (omega (arith, c.if-n-lt2.false, c.n-n.ensures.value)) in
    omega (arith, no_more, no_less)

pub returns : goal.returns
returns g c =
    let graph = c.args.graph.now in
    let no_more = c.in_ok-is_heavier.ensures.no c.if-branch.false in
    let no_less = c.requires.no_less (omega (arith, c.if-n-lt2.false, c.n-n.ensures.value)) in
    let same : c.args.amount ≡ value graph = omega (arith, no_more, no_less) in
    if_ok_more (IsFinished graph) (IsPartTree c.args.amount graph) c.tree_by_workers.result
    (λ t done. finished_part graph t c.args.amount c.n-n.ensures.edge_list.is_graph done same) c.tree_by_workers.ensures
