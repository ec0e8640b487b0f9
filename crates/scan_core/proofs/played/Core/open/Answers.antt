use Rattle.std.proofs.Common.{◌≡◌, ◌+◌, ◌∙◌, ℕ, List, false, length, ap, sym, subst}
use Rattle.std.proofs.lemmas.List.{length-replicate}
use Rattle.cut_definitions.specs.Graph.{Graph, IsEdgeList}
use Rattle.cut_definitions.specs.Cuts.{value}
use Rattle.scan_core.specs.Shown.{ArePartedEdges}
use Rattle.scan_core.proofs.played.Core.open.Goals as goal

pub invariant_of-result : goal.invariant_of-result
invariant_of-result c =
    let edges = c.in_ok-edges.ensures.items ∙ c.edge_list.ensures.value in
    let graph : c.in_ok-graph.graph ≡ c.args.graph.now = c.in_ok-graph.ensures ∙ (c.from_edges.ensures ∙ (λ i. record { vertices = c.n-2.ensures.value i; edges = edges i })) in
    let marked = ap length (c.in_ok-marked.ensures.items_if_clones_equal (λ y e. e)) ∙ length-replicate c.edges.result false in
    let taken = ap length (c.in_ok-taken.ensures.items_if_clones_equal (λ y e. e)) ∙ length-replicate (c.n.result + 1) false in (
      subst IsEdgeList (sym graph) c.edge_list.ensures.edge_list,
      c.requires.value ∙ ap value (sym graph),
      subst (λ (g : Graph). ArePartedEdges g c.in_ok-parted.parted.items) (sym graph) (subst (λ (l : List ℕ). ArePartedEdges c.args.graph.now l) (sym c.in_ok-parted.ensures.items) c.requires.parted),
      marked ∙ (c.edges.ensures ∙ ap (λ (g : Graph). length g.edges) (sym graph)),
      taken ∙ ap (λ (n : ℕ). n + 1) (c.n.ensures.value ∙ ap (λ (g : Graph). g.vertices) (sym graph)),
    )
