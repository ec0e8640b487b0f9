use Rattle.std.proofs.Common.{◌≡◌, ◌∙◌, ap, arith}
use Rattle.cut_definitions.specs.Graph.{Graph}
use Rattle.cut_definitions.specs.Contraction.{classes}
use Rattle.cut_definitions.proofs.ContractionLaws.{vertices-relabel}
use Rattle.min_value.proofs.Scanned.{left_classes}
use Rattle.min_value.proofs.scans.scan_or_sweep.Goals as goal

pub returns-then-is_worth_another : goal.returns-then-is_worth_another
returns-then-is_worth_another g c =
    let graph = c.args.graph.now in
    let found = c.in_ok-found.found in
    let e = c.in_ok-found.ensures in
    let small = c.in_ok-smaller.smaller in
    let few : small.vertices ≡ classes found.labels = ap (λ (h : Graph). h.vertices) c.in_ok-smaller.ensures ∙ vertices-relabel graph found.labels in
    record {
      at_most = e.at_most;
      told = left_classes graph c.n-n.ensures.edge_list.is_graph found.labels c.args.bound found.bound small c.requires.enough e.at_most e.at_least e.labelled (λ less. e.safe (omega (arith, less))) c.in_ok-smaller.ensures;
      less = omega (arith, c.is_worth_another.ensures c.if-is_worth_another.true, few);
    }
