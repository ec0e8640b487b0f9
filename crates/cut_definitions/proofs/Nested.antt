-- Minimum cuts that part the ends of one edge are nested.
use Rattle.std.proofs.Common.{◌≡◌, ◌≤◌, Bool, true, get_or, ap, arith}
use Rattle.std.specs.Prelude.{if◌then◌else◌}
use Rattle.std.specs.List.{Contains}
use Rattle.std.proofs.lemmas.List.Sums.{get_or-le-sum_by}
use Rattle.cut_definitions.specs.declared.edge_list.Edge.{Edge}
use Rattle.cut_definitions.specs.Graph.{Graph}
use Rattle.cut_definitions.specs.Weight.{VertexSet, joins, between}
use Rattle.cut_definitions.proofs.WeightLaws.{join_term}

-- an edge that two sets join counts in the weight between them
pub edge-le-between : (g : Graph) (s t : VertexSet) (e : Edge) → Contains g.edges e → joins s t e.u e.v ≡ true → e.w ≤ between g s t
edge-le-between g s t e h j =
    let term : join_term s t (get_or g.edges h.0 e) ≡ join_term s t e = ap (join_term s t) h.2 in
    let counts : join_term s t e ≡ e.w = ap (λ (b : Bool). if b then e.w else 0) j in
    omega (arith, get_or-le-sum_by (join_term s t) g.edges h.0 e h.1)
