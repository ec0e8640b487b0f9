use Rattle.std.proofs.Common.{◌≡◌, refl, ◌∙◌, ap, arith}
use Rattle.cut_definitions.specs.Graph.{Graph}
use Rattle.cut_definitions.specs.Cuts.{value}
use Rattle.cut_definitions.specs.Contraction.{classes}
use Rattle.cut_definitions.proofs.ContractionLaws.{vertices-relabel}
use Rattle.min_value.proofs.Kept.{kept_by_classes}
use Rattle.min_value.proofs.narrowing.narrow.Goals as goal

pub returns-clause-narrowed : goal.returns-clause-narrowed
returns-clause-narrowed _ c =
    let g = c.args.graph.now in
    let found = c.in_ok-found.found in
    let e = c.in_ok-found.ensures in
    record {
      kept = kept_by_classes g c.n-n.ensures.edge_list.is_graph found.labels (value g) c.in_ok-small.small c.requires.enough refl e.labelled
          (e.safe (omega (arith, e.at_least, c.requires.bound))) c.in_ok-small.ensures;
      at_least = omega (arith, e.at_least, c.requires.bound);
      fits = omega (arith, e.at_most, c.requires.small);
    }

pub returns-clause-less : goal.returns-clause-less
returns-clause-less _ c =
    let labels = c.in_ok-found.found.labels in
    let few : c.in_ok-small.small.vertices ≡ classes labels = ap (λ (h : Graph). h.vertices) c.in_ok-small.ensures ∙ vertices-relabel c.args.graph.now labels in
    omega (arith, few, c.is_worth_another.ensures c.if-not-is_worth_another.false)
