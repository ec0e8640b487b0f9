use Rattle.std.proofs.Common.{◌∙◌, ap, arith}
use Rattle.cut_definitions.specs.Graph.{Graph}
use Rattle.cut_definitions.proofs.ContractionLaws.{vertices-relabel}
use Rattle.min_value.proofs.Kept.{kept_by_classes, no_more_vertices}
use Rattle.min_value.proofs.kept_graph.contract_safely.Goals as goal

pub returns-clause-kept : goal.returns-clause-kept
returns-clause-kept _ c =
    let step = c.requires.step in
    kept_by_classes c.args.graph.now c.n-n.ensures.edge_list.is_graph c.args.labels c.args.value c.in_ok-small.small
    c.requires.enough c.requires.value step.labelled (step.safe (omega (arith, c.requires.value))) c.in_ok-small.ensures

pub returns-clause-few : goal.returns-clause-few
returns-clause-few _ c = ap (λ (h : Graph). h.vertices) c.in_ok-small.ensures ∙ vertices-relabel c.args.graph.now c.args.labels

pub returns-clause-at_most : goal.returns-clause-at_most
returns-clause-at_most _ c = no_more_vertices c.args.graph.now c.in_ok-small.small c.args.labels c.requires.step.labelled c.in_ok-small.ensures
