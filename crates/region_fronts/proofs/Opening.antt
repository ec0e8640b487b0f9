-- If all edges stay inside regions, a connected graph has none.
use Rattle.std.proofs.Common.{◌≡◌, ℕ, ◌<◌, ◌≤◌, ◌⊎◌, inl, inr, ⊎_elim, Bool, true, false, not, List, get_or, eqb, refl, sym, ◌∙◌, subst, ap, arith}
use Rattle.std.specs.Prelude.{if◌then◌else◌}
use Rattle.std.specs.List.{Contains}
use Rattle.std.proofs.lemmas.Bool.{cases_lt, eq-eqb, eqb-true, ne_eqb, false≢true, not-true, not_from_false}
use Rattle.std.proofs.lemmas.List.{get_or_default}
use Rattle.std.proofs.lemmas.List.Elements.{All-contains}
use Rattle.cut_definitions.specs.declared.edge_list.Edge.{Edge}
use Rattle.cut_definitions.specs.Graph.{Graph, IsGraph, IsEdgeWithin}
use Rattle.cut_definitions.specs.Weight.{VertexSet, parts, IsCut}
use Rattle.cut_definitions.specs.Chain.{IsJoined}
use Rattle.weighted_graph.specs.declared.graph.Arc.{Arc}
use Rattle.weighted_graph.specs.Rows.{row_of}
use Rattle.weighted_graph.specs.RowLaws.{IsArcAt, no_edge, edge_at, StandsInRows}
use Rattle.weighted_graph.proofs.RowLaws.{law_of_edges_in_rows}
use Rattle.region_fronts.specs.Open.{IsShutAt, LawOfOpenVertices}
use Rattle.cut_definitions.proofs.WeightLaws.{some_term}

-- the arcs of an edge of the list
pub stands : (g : Graph) → IsGraph g → (e : Edge) → (c : Contains g.edges e) → StandsInRows g c.0 e
stands g ok e c = subst (λ (d : Edge). StandsInRows g c.0 d) (get_or_default g.edges c.0 no_edge e c.1 ∙ c.2) (law_of_edges_in_rows g ok c.0 c.1)

parted : (a b : Bool) → (if a then not b else b) ≡ true → ((a ≡ true) × (b ≡ false)) ⊎ ((b ≡ true) × (a ≡ false))
parted true b h = inl (refl, not-true b h)
parted false b h = inr (h, refl)

-- an edge that leaves a region has an open end
leaves : (g : Graph) (labels : List ℕ) (r u v : ℕ) (a : Arc) → IsShutAt g labels u → 1 ≤ r → a.to ≡ v → Contains (row_of g u) a →
    eqb (get_or labels u 0) r ≡ true → eqb (get_or labels v 0) r ≡ false → ⊥
leaves g labels r u v a shut one to c is out =
    let at_u : get_or labels u 0 ≡ r = eqb-true (get_or labels u 0) r is in
    let same : get_or labels a.to 0 ≡ get_or labels u 0 = All-contains (λ (b : Arc). get_or labels b.to 0 ≡ get_or labels u 0) (row_of g u) a (shut (omega (arith, at_u, one))) c in
    let at_v : get_or labels v 0 ≡ r = ap (λ (k : ℕ). get_or labels k 0) (sym to) ∙ same ∙ at_u in
    false≢true (sym out ∙ eq-eqb (get_or labels v 0) r at_v)

pub open_vertices : LawOfOpenVertices
open_vertices g labels ok connected root shut v v1 vn = ⊎_elim
    (λ (l : get_or labels v 0 < 1). omega arith)
    (λ (l : 1 ≤ get_or labels v 0).
    let r = get_or labels v 0 in
    let s : VertexSet = λ x. eqb (get_or labels x 0) r in
    let cut : IsCut g.vertices s = record {
      some_in = record { vertex = v; from_one = v1; to_n = vn; is_in = eq-eqb r r refl };
      some_out = record { vertex = 1; from_one = omega arith; to_n = omega (arith, v1, vn); is_in = not_from_false (s 1) (ne_eqb (get_or labels 1 0) r (λ e. absurd (omega (arith, e, root, l)))) };
    } in
    let found = some_term (λ e. parts s e.u e.v) g.edges (connected.each_cut s cut) in
    let e = found.0 in
    let rows = stands g ok e found.1 in
    let range : IsEdgeWithin g.vertices e = All-contains (IsEdgeWithin g.vertices) g.edges e ok.in_range found.1 in
    ⊎_elim
    (λ (h : (s e.u ≡ true) × (s e.v ≡ false)).
    absurd (leaves g labels r e.u e.v (record { to = e.v; edge = found.1.0; weight = e.w }) (shut e.u range.0 (omega (arith, range.1, range.2))) l refl rows.of_lesser h.0 h.1))
    (λ (h : (s e.v ≡ true) × (s e.u ≡ false)).
    absurd (leaves g labels r e.v e.u (record { to = e.u; edge = found.1.0; weight = e.w }) (shut e.v (omega (arith, range.0, range.1)) range.2) l refl rows.of_greater h.0 h.1))
    (parted (s e.u) (s e.v) found.2))
    (cases_lt (get_or labels v 0) 1)

-- an arc to another label opens its vertex
pub arc_joined : (g : Graph) (v : ℕ) (a : Arc) → IsArcAt g v a → IsJoined g a.to v
arc_joined g v a at = record {
  edge = edge_at g a.edge;
  is_edge = (a.edge, at.within, get_or_default g.edges a.edge (edge_at g a.edge) no_edge at.within);
  ends = ⊎_elim (λ h. inr (h.0, h.1)) (λ h. inl (h.1, h.0)) at.ends;
}
