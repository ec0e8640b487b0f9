-- The sorted edges between classes, merged, are those of the contracted graph.
use Rattle.std.proofs.Common.{List, take_at, ap, subst, sym, ◌∙◌, arith}
use Rattle.std.specs.List.{flat_map, sum_by}
use Rattle.std.specs.List.Sorted.{IsPermutation}
use Rattle.cut_definitions.specs.declared.edge_list.Edge.{Edge}
use Rattle.weighted_graph.specs.ContractionLaws.{IsLabelled}
use Rattle.weighted_graph.specs.Merging.{between_classes, term, AreMergeable}
use Rattle.weighted_graph.proofs.Contracting.{may_be_merged}
use Rattle.weighted_graph.proofs.Relabelled.{merged_is_relabel}
use Rattle.weighted_graph.proofs.relabel.relabel_list.Goals as goal

pub merged_list-requires : goal.merged_list-requires
merged_list-requires c =
    let g = c.args.list.now in
    let labels = c.args.labels.now in
    let sorted = c.sort_by_ends.new.edges in
    let labelled : IsLabelled g labels = record { are_labels = c.classes-classes.ensures.labels; long = c.requires } in
    let same = c.deref_mut.ensures.value ∙ (c.in_ok-between.ensures ∙ ap (flat_map (between_classes labels)) c.edges.ensures.value) in
    let perm = subst (λ (xs : List Edge). IsPermutation xs sorted) same c.sort_by_ends.ensures.permutation in
    let written = take_at sorted _ c.in_ok-between.between.len (omega (arith, c.sort_by_ends.auto.edges, c.deref_mut.ensures.len)) in
    subst (AreMergeable c.classes-classes.result) (sym written)
    (rw c.classes-classes.ensures.value (may_be_merged g c.edges.ensures.edge_list labels labelled sorted perm c.sort_by_ends.ensures.sorted))

pub returns : goal.returns
returns c =
    let g = c.args.list.now in
    let labels = c.args.labels.now in
    let sorted = c.sort_by_ends.new.edges in
    let labelled : IsLabelled g labels = record { are_labels = c.classes-classes.ensures.labels; long = c.requires } in
    let same = c.deref_mut.ensures.value ∙ (c.in_ok-between.ensures ∙ ap (flat_map (between_classes labels)) c.edges.ensures.value) in
    let perm = subst (λ (xs : List Edge). IsPermutation xs sorted) same c.sort_by_ends.ensures.permutation in
    let written = take_at sorted _ c.in_ok-between.between.len (omega (arith, c.sort_by_ends.auto.edges, c.deref_mut.ensures.len)) in
    merged_is_relabel g c.edges.ensures.edge_list.is_graph labels labelled sorted c.merged_list.result perm
    (c.merged_list.ensures.vertices ∙ c.classes-classes.ensures.value) c.merged_list.ensures.edge_list
    (λ f. c.merged_list.ensures.weights f ∙ ap (sum_by (term f)) written)
