-- A set lets nothing out exactly where no arc of the rows leaves it.
use Rattle.std.proofs.Common.{◌≡◌, ℕ, ◌-◌, ◌*◌, ◌<◌, ◌≤◌, inl, inr, ⊎_elim, Bool, true, ltb, List, length, get_or, arith}
use Rattle.std.specs.Prelude.{if◌then◌else◌, IsTrue}
use Rattle.std.specs.List.{All}
use Rattle.std.proofs.lemmas.Bool.Decides.{nat_tests}
use Rattle.std.proofs.lemmas.List.Elements.{All-contains, All-get_or, All-weaker}
use Rattle.cut_definitions.specs.Graph.{Graph, IsGraph, IsEdgeWithin}
use Rattle.cut_definitions.specs.Weight.{VertexSet}
use Rattle.weighted_graph.specs.declared.graph.Arc.{Arc}
use Rattle.weighted_graph.specs.Rows.{row_of}
use Rattle.weighted_graph.specs.RowLaws.{IsArcAt}
use Rattle.weighted_graph.proofs.RowLaws.{row_arcs, law_of_edges_in_rows}
use Rattle.region_flow.specs.Residual.{out, edge_of, IsResidual}
use Rattle.region_flow.specs.Closed.{residual_on, AddsUp, IsClosed, IsAlong}
use Rattle.region_flow.proofs.Balance.{leaving-none, out-none}

-- the ends of an edge of a graph
pub edge_within : (g : Graph) → IsGraph g → (i : ℕ) → i < length g.edges → IsEdgeWithin g.vertices (edge_of g.edges i)
edge_within g ok i l = All-get_or (IsEdgeWithin g.vertices) g.edges i _ l ok.in_range

-- what an arc can carry from the lesser end, and from the greater
residual_up : (v to x w : ℕ) → v < to → (if ltb v to then x else 2 * w - x) ≡ x
residual_up v to x w h = grind (arith, nat_tests)

residual_down : (v to x w : ℕ) → to < v → (if ltb v to then x else 2 * w - x) ≡ 2 * w - x
residual_down v to x w h = grind (arith, nat_tests)

-- what a search wants to know of an arc from v
pub record IsArcFrom (g : Graph) (toward : List ℕ) (v : ℕ) (a : Arc) : Type 0 where
  pub edge : a.edge < length g.edges
  pub from_one : 1 ≤ a.to
  pub to_n : a.to ≤ g.vertices
  pub weight : a.weight ≡ (edge_of g.edges a.edge).w
  pub along : IsAlong (edge_of g.edges a.edge) (get_or toward a.edge 0) v a.to (residual_on v toward a)

-- an arc of a row says what a search wants to know
pub arc_from : (g : Graph) → IsGraph g → (toward : List ℕ) (v : ℕ) (a : Arc) → IsArcAt g v a → IsArcFrom g toward v a
arc_from g ok toward v a h =
    let e = edge_of g.edges a.edge in
    let x = get_or toward a.edge 0 in
    let r = edge_within g ok a.edge h.within in
    let w = h.same_weight in
    ⊎_elim
    (λ (p : (e.u ≡ v) × (e.v ≡ a.to)).
    let up = residual_up v a.to x a.weight (omega (arith, p.0, p.1, r.1)) in
    record { edge = h.within; from_one = omega (arith, p.1, r.0, r.1); to_n = omega (arith, p.1, r.2); weight = w; along = inl (p.0, p.1, omega arith) })
    (λ (p : (e.v ≡ v) × (e.u ≡ a.to)).
    let down = residual_down v a.to x a.weight (omega (arith, p.0, p.1, r.1)) in
    record { edge = h.within; from_one = omega (arith, p.1, r.0); to_n = omega (arith, p.1, r.1, r.2); weight = w; along = inr (p.1, p.0, omega arith) })
    h.ends

-- all arcs of a row say what a search wants to know
pub All-row : (g : Graph) → IsGraph g → (toward : List ℕ) (v : ℕ) → All (IsArcFrom g toward v) (row_of g v)
All-row g ok toward v = All-weaker (IsArcAt g v) (IsArcFrom g toward v) (arc_from g ok toward v) (row_of g v) (row_arcs g v)

-- the two arcs of an edge
pub both_ways : (g : Graph) → IsGraph g → (toward : List ℕ) → IsResidual g toward → (i : ℕ) → i < length g.edges → AddsUp toward i (edge_of g.edges i)
both_ways g ok toward h i l =
    let e = edge_of g.edges i in
    let x = get_or toward i 0 in
    let r = edge_within g ok i l in
    omega (arith, residual_up e.u e.v x e.w r.1, residual_down e.v e.u x e.w r.1, h.bounded i l)

-- ---- nothing is let out

-- an edge of which no arc leaves the set lets out nothing
closed_term : (a b : Bool) (x w : ℕ) → (a ≡ true → 0 < x → b ≡ true) → (b ≡ true → 0 < 2 * w - x → a ≡ true) →
    (if a then (if b then 0 else x) else (if b then 2 * w - x else 0)) ≡ 0
closed_term a b x w h k = grind arith

-- a set that no arc leaves lets out nothing
pub out_none-from_closed : (g : Graph) → IsGraph g → (toward : List ℕ) → length toward ≡ length g.edges → (side : VertexSet) →
    IsClosed g toward side → out g.edges toward side ≡ 0
out_none-from_closed g ok toward n side h =
    out-none g.edges toward side n
    (λ i l.
    let e = edge_of g.edges i in
    let x = get_or toward i 0 in
    let r = edge_within g ok i l in
    let up = residual_up e.u e.v x e.w (r.1) in
    let down = residual_down e.v e.u x e.w (r.1) in
    let rows = law_of_edges_in_rows g ok i l in
    closed_term (side e.u) (side e.v) x e.w
    (λ a p. All-contains (λ (b : Arc). 0 < residual_on e.u toward b → IsTrue (side b.to)) (row_of g e.u) (record { to = e.v; edge = i; weight = e.w })
    (h e.u r.0 (omega (arith, r.1, r.2)) a) rows.of_lesser (omega arith))
    (λ b p. All-contains (λ (a : Arc). 0 < residual_on e.v toward a → IsTrue (side a.to)) (row_of g e.v) (record { to = e.u; edge = i; weight = e.w })
    (h e.v (omega (arith, r.0, r.1)) r.2 b) rows.of_greater (omega arith)))

-- an edge that lets out nothing has no arc from its lesser end that leaves the set
open_term : (a b : Bool) (x w : ℕ) → (if a then (if b then 0 else x) else (if b then 2 * w - x else 0)) ≡ 0 → a ≡ true → 0 < x → b ≡ true
open_term a b x w h k l = grind arith

-- an edge that lets out nothing has no arc from its greater end that leaves the set
open_term_back : (a b : Bool) (x w : ℕ) → (if a then (if b then 0 else x) else (if b then 2 * w - x else 0)) ≡ 0 → b ≡ true → 0 < 2 * w - x → a ≡ true
open_term_back a b x w h k l = grind arith

-- no arc leaves a set that lets out nothing
pub closed_from_out_none : (g : Graph) → IsGraph g → (toward : List ℕ) → length toward ≡ length g.edges → (side : VertexSet) →
    out g.edges toward side ≡ 0 → IsClosed g toward side
closed_from_out_none g ok toward n side z v one to_n in' =
    All-weaker (IsArcFrom g toward v) (λ a. 0 < residual_on v toward a → IsTrue (side a.to))
    (λ a h p. let e = edge_of g.edges a.edge in
    let x = get_or toward a.edge 0 in
    let none = leaving-none g.edges toward side n z a.edge h.edge in
    ⊎_elim
    (λ (q : (e.u ≡ v) × (e.v ≡ a.to) × (residual_on v toward a ≤ x)).
    rw (← q.1) (open_term (side e.u) (side e.v) x e.w none (rw q.0 in') (omega (arith, q.2))))
    (λ (q : (e.u ≡ a.to) × (e.v ≡ v) × (residual_on v toward a ≤ 2 * e.w - x)).
    rw (← q.0) (open_term_back (side e.u) (side e.v) x e.w none (rw q.1 in') (omega (arith, q.2))))
    h.along)
    (row_of g v) (All-row g ok toward v)
