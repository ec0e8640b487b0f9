-- Joined vertices, and the open ones.
use Rattle.std.proofs.Common.{◌≡◌, ◌≢◌, ℕ, ◌≤◌, inl, inr, ⊎_elim, List, get_or, sym, ◌∙◌, subst, ap, arith}
use Rattle.std.specs.List.{Contains}
use Rattle.std.proofs.lemmas.Bool.{cases_eq}
use Rattle.std.proofs.lemmas.List.Elements.{All-contains, All-weaker}
use Rattle.cut_definitions.specs.Graph.{Graph, IsGraph, IsEdgeWithin}
use Rattle.cut_definitions.specs.Chain.{IsJoined}
use Rattle.cut_definitions.specs.Regions.{IsOpenAt}
use Rattle.weighted_graph.specs.declared.graph.Arc.{Arc}
use Rattle.weighted_graph.specs.Rows.{row_of}
use Rattle.weighted_graph.specs.RowLaws.{IsArcAt}
use Rattle.weighted_graph.proofs.RowLaws.{row_arcs}
use Rattle.region_fronts.specs.Open.{IsShutAt}
use Rattle.region_fronts.proofs.Opening.{stands, arc_joined}

pub joined_back : (g : Graph) (u v : ℕ) → IsJoined g u v → IsJoined g v u
joined_back g u v h = record { edge = h.edge; is_edge = h.is_edge; ends = ⊎_elim (λ p. inr (p.0, p.1)) (λ p. inl (p.0, p.1)) h.ends }

pub joined_within : (g : Graph) → IsGraph g → (u v : ℕ) → IsJoined g u v → (1 ≤ u) × (u ≤ g.vertices)
joined_within g ok u v h =
    let e = h.edge in
    let k : IsEdgeWithin g.vertices e = All-contains (IsEdgeWithin g.vertices) g.edges e ok.in_range h.is_edge in
    ⊎_elim
    (λ (p : (e.u ≡ u) × (e.v ≡ v)). let q = p.0 in let r : (1 ≤ u) × (u ≤ g.vertices) = (omega (arith, k.0, q), omega (arith, k.1, k.2, q)) in r)
    (λ (p : (e.u ≡ v) × (e.v ≡ u)). let q = p.1 in let r : (1 ≤ u) × (u ≤ g.vertices) = (omega (arith, k.0, k.1, q), omega (arith, k.2, q)) in r)
    h.ends

-- a vertex that is joined to another has an arc to it
pub joined_arc : (g : Graph) → IsGraph g → (u v : ℕ) → IsJoined g u v → (a : Arc) × Contains (row_of g v) a × (a.to ≡ u)
joined_arc g ok u v h =
    let e = h.edge in
    let rows = stands g ok e h.is_edge in
    ⊎_elim
    (λ (p : (e.u ≡ u) × (e.v ≡ v)).
    let a : Arc = record { to = e.u; edge = h.is_edge.0; weight = e.w } in
    (a, subst (λ (x : ℕ). Contains (row_of g x) a) p.1 rows.of_greater, p.0))
    (λ (p : (e.u ≡ v) × (e.v ≡ u)).
    let a : Arc = record { to = e.v; edge = h.is_edge.0; weight = e.w } in
    (a, subst (λ (x : ℕ). Contains (row_of g x) a) p.0 rows.of_lesser, p.1))
    h.ends

-- a vertex that is open is not shut
pub open_not_shut : (g : Graph) → IsGraph g → (labels : List ℕ) (v : ℕ) → IsOpenAt g labels v → IsShutAt g labels v → ⊥
open_not_shut g ok labels v h shut =
    let arc = joined_arc g ok h.other v h.joined in
    let same : get_or labels arc.0.to 0 ≡ get_or labels v 0 = All-contains (λ (a : Arc). get_or labels a.to 0 ≡ get_or labels v 0) (row_of g v) arc.0 (shut h.outside) arc.1 in
    h.apart (ap (λ (k : ℕ). get_or labels k 0) (sym arc.2) ∙ same)

-- if none is open, all are shut
pub none_open_shut : (g : Graph) (labels : List ℕ) → ((v : ℕ) → IsOpenAt g labels v → ⊥) → (v : ℕ) → v ≤ g.vertices → IsShutAt g labels v
none_open_shut g labels none v to_n = λ one.
    All-weaker (IsArcAt g v) (λ (a : Arc). get_or labels a.to 0 ≡ get_or labels v 0)
    (λ a at.
    ⊎_elim
    (λ (e : get_or labels a.to 0 ≡ get_or labels v 0). e)
    (λ (ne : get_or labels a.to 0 ≢ get_or labels v 0).
    absurd (none v (record { to_n = to_n; outside = one; other = a.to; joined = arc_joined g v a at; apart = ne })))
    (cases_eq (get_or labels a.to 0) (get_or labels v 0)))
    (row_of g v) (row_arcs g v)
