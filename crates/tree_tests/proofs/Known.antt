-- The uneven triangle and the ring of four: their values, and an edge of each.
use Rattle.std.proofs.Common.{◌≡◌, ℕ, inl, [], ◌∷◌, refl, arith}
use Rattle.cut_definitions.specs.declared.edge_list.Edge.{Edge}
use Rattle.cut_definitions.specs.Graph.{Graph}
use Rattle.cut_definitions.specs.Cuts.{sides, value}
use Rattle.cut_definitions.specs.Chain.{IsJoined}

abbrev edge : ℕ → ℕ → ℕ → Edge
edge a b x = record { u = a; v = b; w = x }

abbrev pub triangle : Graph
triangle = record { vertices = 3; edges = edge 1 2 5 ∷ edge 1 3 1 ∷ edge 2 3 4 ∷ [] }

abbrev pub ring : Graph
ring = record { vertices = 4; edges = edge 1 2 1 ∷ edge 1 4 1 ∷ edge 2 3 1 ∷ edge 3 4 1 ∷ [] }

pub triangle_value : value triangle ≡ 5
unfolding value sides
triangle_value = refl

pub ring_value : value ring ≡ 2
unfolding value sides
ring_value = refl

pub triangle_joined : IsJoined triangle 1 3
triangle_joined = record { edge = edge 1 3 1; is_edge = (1, omega arith, refl); ends = inl (refl, refl) }

pub ring_joined : IsJoined ring 1 2
ring_joined = record { edge = edge 1 2 1; is_edge = (0, omega arith, refl); ends = inl (refl, refl) }
