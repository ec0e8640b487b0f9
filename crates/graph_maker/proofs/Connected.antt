-- The made graph is connected: a set of weight 0 has all of its vertices or none.
use Rattle.std.proofs.Common.{◌≡◌, ℕ, zero, suc, ◌+◌, ◌-◌, ◌*◌, ◌/◌, ◌<◌, ◌≤◌, ⊎_elim, Bool, true, false, not, cond, get_or, refl, sym, ap, subst, ◌∙◌, arith}
use Rattle.std.specs.List.{Contains}
use Rattle.std.proofs.lemmas.Bool.{cases_eq, cases_lt}
use Rattle.std.proofs.lemmas.List.Sums.{get_or-le-sum_by}
use Rattle.cut_definitions.specs.declared.edge_list.Edge.{Edge}
use Rattle.cut_definitions.specs.Graph.{Graph}
use Rattle.cut_definitions.specs.Weight.{VertexSet, parts, weight, IsCut}
use Rattle.cut_definitions.proofs.Bools.{never_apart}
use Rattle.graph_maker.specs.Made.{double, five_edges, made_graph, LawOfConnectedMaking}
use Rattle.graph_maker.proofs.Making.{making, first_of_five, second_of_five, third_of_five, fifth_of_five, link_on}

-- a set of weight 0 has both ends of an edge or none
same_ends : (g : Graph) (s : VertexSet) (u v : ℕ) → weight g s ≡ 0 → Contains g.edges (double u v) → s u ≡ s v
same_ends g s u v none member =
    let term : Edge → ℕ = λ e. cond (parts s e.u e.v) e.w 0 in
    let least : term (get_or g.edges member.0 (double u v)) ≤ weight g s = get_or-le-sum_by term g.edges member.0 (double u v) member.1 in
    let own : term (get_or g.edges member.0 (double u v)) ≡ term (double u v) = ap term member.2 in
    unparted (s u) (s v) (omega (arith, least, own, none))
  where
    counted : Bool → ℕ
    counted p = cond p 2 0

    unparted : (a b : Bool) → counted (cond a (not b) b) ≡ 0 → a ≡ b
    unparted true true e = refl
    unparted true false e = absurd (omega (arith, e))
    unparted false true e = absurd (omega (arith, e))
    unparted false false e = refl

-- a set of weight 0 has both ends of each of the five edges of a ring or none
ring_ends : (number : ℕ) → 12 ≤ number → number ≤ 100000 → (s : VertexSet) → weight (made_graph number) s ≡ 0 → (ring u v : ℕ) → ring < number / 4 →
    Contains (five_edges (number / 4) ring) (double u v) → s u ≡ s v
ring_ends number low high s none ring u v less h =
    same_ends (made_graph number) s u v none (((making number low high).exactly (double u v)).1 (record { ring = ring; is_ring = less; is_edge = h }))

-- the link to the next ring is one of the five
link_of_five : (rings ring : ℕ) → ring + 1 < rings → Contains (five_edges rings ring) (double (4 * ring + 3) (4 * ring + 5))
link_of_five rings ring less = subst (λ e. Contains (five_edges rings ring) e) (link_on rings ring less) (fifth_of_five rings ring)

-- a set of weight 0 has vertex 1 and the first vertex of each ring or none of them
same_first : (number : ℕ) → 12 ≤ number → number ≤ 100000 → (s : VertexSet) → weight (made_graph number) s ≡ 0 → (ring : ℕ) → ring < number / 4 → s 1 ≡ s (4 * ring + 1)
same_first number low high s none zero less = refl
same_first number low high s none (suc ring) less =
    let rings = number / 4 in
    let here : ring < rings = omega (arith, less) in
    let next : 4 * ring + 5 ≡ 4 * suc ring + 1 = omega arith in
    same_first number low high s none ring here
    ∙ ring_ends number low high s none ring (4 * ring + 1) (4 * ring + 2) here (first_of_five rings ring)
    ∙ ring_ends number low high s none ring (4 * ring + 2) (4 * ring + 3) here (second_of_five rings ring)
    ∙ ring_ends number low high s none ring (4 * ring + 3) (4 * ring + 5) here (link_of_five rings ring (omega (arith, less)))
    ∙ ap s next

-- a set of weight 0 has vertex 1 and all vertices of a ring or none of them
same_ring : (number : ℕ) → 12 ≤ number → number ≤ 100000 → (s : VertexSet) → weight (made_graph number) s ≡ 0 → (ring v : ℕ) → ring < number / 4 →
    4 * ring + 1 ≤ v → v ≤ 4 * ring + 4 → s 1 ≡ s v
same_ring number low high s none ring v less from to =
    let rings = number / 4 in
    let first = same_first number low high s none ring less in
    let second = first ∙ ring_ends number low high s none ring (4 * ring + 1) (4 * ring + 2) less (first_of_five rings ring) in
    let third = second ∙ ring_ends number low high s none ring (4 * ring + 2) (4 * ring + 3) less (second_of_five rings ring) in
    let fourth = third ∙ ring_ends number low high s none ring (4 * ring + 3) (4 * ring + 4) less (third_of_five rings ring) in
    ⊎_elim (λ (e : 4 * ring + 1 ≡ v). first ∙ ap s e)
    (λ (a : 4 * ring + 1 ≡ v → ⊥).
    ⊎_elim (λ (e : 4 * ring + 2 ≡ v). second ∙ ap s e)
    (λ (b : 4 * ring + 2 ≡ v → ⊥).
    ⊎_elim (λ (e : 4 * ring + 3 ≡ v). third ∙ ap s e)
    (λ (d : 4 * ring + 3 ≡ v → ⊥). let e : 4 * ring + 4 ≡ v = omega (arith, from, to) in fourth ∙ ap s e)
    (cases_eq (4 * ring + 3) v))
    (cases_eq (4 * ring + 2) v))
    (cases_eq (4 * ring + 1) v)

-- a set of weight 0 has all vertices of the graph or none
same_all : (number : ℕ) → 12 ≤ number → number ≤ 100000 → (s : VertexSet) → weight (made_graph number) s ≡ 0 → (v : ℕ) → 1 ≤ v → v ≤ (made_graph number).vertices → s 1 ≡ s v
unfolding made_graph
same_all number low high s none v from to = same_ring number low high s none ((v - 1) / 4) v (omega arith) (omega arith) (omega arith)

pub connected_making : LawOfConnectedMaking
unfolding made_graph
connected_making number low high = record { some_vertex = omega arith; each_cut = λ s cut. far s cut }
  where
    far : (s : VertexSet) → IsCut (made_graph number).vertices s → 1 ≤ weight (made_graph number) s
    far s cut =
        let p = cut.some_in in
        let q = cut.some_out in
        ⊎_elim
        (λ (less : weight (made_graph number) s < 1).
        let none : weight (made_graph number) s ≡ 0 = omega (arith, less) in
        let at_p : s 1 ≡ s p.vertex = same_all number low high s none p.vertex p.from_one p.to_n in
        let at_q : s 1 ≡ s q.vertex = same_all number low high s none q.vertex q.from_one q.to_n in
        absurd (never_apart (s p.vertex) (s q.vertex) (sym at_p ∙ at_q) p.is_in q.is_in))
        (λ (far : 1 ≤ weight (made_graph number) s). far)
        (cases_lt (weight (made_graph number) s) 1)
