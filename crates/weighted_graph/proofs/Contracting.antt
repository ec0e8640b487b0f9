-- What the sorted edges between the classes of a graph keep.
use Rattle.std.proofs.Common.{ℕ, ◌≤◌, List, arith}
use Rattle.std.specs.List.{flat_map}
use Rattle.std.specs.List.Sorted.{IsPermutation}
use Rattle.std.proofs.lemmas.List.Elements.{All-weaker}
use Rattle.std.proofs.lemmas.List.Sorted.{All-permutation, length_permutation, sum_by-IsPermutation}
use Rattle.cut_definitions.specs.declared.edge_list.Edge.{Edge}
use Rattle.cut_definitions.specs.Graph.{Graph, IsEdgeWithin, IsEdgeList}
use Rattle.cut_definitions.specs.Contraction.{label, classes}
use Rattle.weighted_graph.specs.ContractionLaws.{IsLabelled}
use Rattle.weighted_graph.specs.Merging.{between_classes, AreMergeable, IsSortedByEnds}
use Rattle.weighted_graph.proofs.Contraction.{fits_graph}
use Rattle.weighted_graph.proofs.Labelling.{classes_le}
use Rattle.weighted_graph.proofs.Sorted.{ascend_from_sorted}
use Rattle.weighted_graph.proofs.Relabelled.{mapped_within, mapped_total, mapped_few}

pub may_be_merged : (g : Graph) → IsEdgeList g → (labels : List ℕ) → IsLabelled g labels → (sorted : List Edge) → IsPermutation (flat_map (between_classes labels) g.edges) sorted →
    IsSortedByEnds sorted → AreMergeable (classes labels) sorted
may_be_merged g is labels h sorted perm in_order =
    let mapped = flat_map (between_classes labels) g.edges in
    let k = classes labels in
    let fits = fits_graph g labels h in
    let ends = All-weaker (IsEdgeWithin g.vertices) (λ e. (1 ≤ label labels e.u) × (label labels e.u ≤ k) × (1 ≤ label labels e.v) × (label labels e.v ≤ k) × (1 ≤ e.w))
    (λ e b.
    let u_in : e.u ≤ g.vertices = omega (arith, b.1, b.2) in
    let v_from : 1 ≤ e.v = omega (arith, b.0, b.1) in
    (fits.from_one e.u b.0 u_in, fits.to_classes e.u b.0 u_in, fits.from_one e.v v_from b.2, fits.to_classes e.v v_from b.2, b.3)) g.edges is.is_graph.in_range in
    record {
      within = All-permutation (IsEdgeWithin k) mapped sorted perm (mapped_within k labels g.edges ends);
      ascending = ascend_from_sorted sorted in_order;
      few_vertices = omega (arith, classes_le labels h.are_labels, h.long, is.few_vertices);
      few_edges = omega (arith, length_permutation mapped sorted perm, mapped_few labels g.edges, is.few_edges);
      total = omega (arith, sum_by-IsPermutation (λ (e : Edge). e.w) mapped sorted perm, mapped_total labels g.edges, is.is_graph.total);
    }
