-- The merged edges are at the front of the list, which is cut off after them.
use Rattle.std.proofs.Common.{◌≡◌, List, length, ap, subst, sym, ◌∙◌, arith}
use Rattle.std.specs.Prelude.{All}
use Rattle.std.specs.List.{sum_by}
use Rattle.cut_definitions.specs.declared.edge_list.Edge.{Edge}
use Rattle.cut_definitions.specs.Graph.{Graph, IsEdgeWithin, IsEdgeList}
use Rattle.weighted_graph.specs.Merging.{term}
use Rattle.weighted_graph.proofs.MergedInPlace.{taken_front}
use Rattle.weighted_graph.proofs.merging.merged_list.Goals as goal

pub from_edges-requires : goal.from_edges-requires
from_edges-requires c =
    let merged = c.merge-count.ensures in
    let long : length c.merge-count.new.edges ≡ c.args.sorted.len = omega (arith, merged.long, c.deref_mut.ensures.len) in
    let written = c.shrink_to_fit.ensures.items ∙ (c.truncate.ensures.items ∙ taken_front c.merge-count.new.edges _ c.args.sorted.len c.merge-count.result long) in
    let within = subst (All (IsEdgeWithin c.args.n)) (sym c.deref_mut.ensures.value) c.requires.within in
    subst (λ (es : List Edge). IsEdgeList (record { vertices = c.args.n; edges = es })) (sym written) (merged.edge_list c.args.n c.requires.few_vertices within)

pub returns-clause-weights : goal.returns-clause-weights
returns-clause-weights c = λ f.
    let merged = c.merge-count.ensures in
    let long : length c.merge-count.new.edges ≡ c.args.sorted.len = omega (arith, merged.long, c.deref_mut.ensures.len) in
    let written = c.shrink_to_fit.ensures.items ∙ (c.truncate.ensures.items ∙ taken_front c.merge-count.new.edges _ c.args.sorted.len c.merge-count.result long) in
    let within = subst (All (IsEdgeWithin c.args.n)) (sym c.deref_mut.ensures.value) c.requires.within in
    ap (λ (g : Graph). sum_by (term f) g.edges) c.from_edges.ensures
    ∙ (ap (sum_by (term f)) written ∙ (merged.weights c.args.n within f ∙ ap (sum_by (term f)) c.deref_mut.ensures.value))
