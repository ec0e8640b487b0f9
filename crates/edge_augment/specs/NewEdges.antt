-- Unit edges that are added to a graph.
use Rattle.std.specs.Prelude.{ℕ, ◌≡◌, ◌+◌, ◌-◌, ◌/◌, true, List, ◌++◌, map, length, min, max, slice_index_or, []}
use Rattle.std.specs.List.{Contains, range_with_len}
use Rattle.cut_definitions.specs.declared.edge_list.Edge.{Edge}
use Rattle.cut_definitions.specs.Graph.{Graph}
use Rattle.cut_definitions.specs.Weight.{VertexSet, parts}
use Rattle.cut_definitions.specs.Cuts.{least}

-- the edge of weight 1 between two vertices
abbrev pub unit_edge : ℕ × ℕ → Edge
unit_edge p = record { u = p.0; v = p.1; w = 1 }

-- the graph with a unit edge more for each pair; the weights of edges with the same ends add up, and no bound is set on them
abbrev pub with_unit_edges : Graph → List (ℕ × ℕ) → Graph
with_unit_edges g pairs = record { vertices = g.vertices; edges = g.edges ++ map unit_edge pairs }

-- some pair has exactly one of its two in the set
abbrev pub IsParted : List (ℕ × ℕ) → VertexSet → Type 0
IsParted pairs s = (p : ℕ × ℕ) × Contains pairs p × (parts s p.0 p.1 ≡ true)

-- the least number of a set of a list, by its place counted from 0
abbrev pub least_at : List (List ℕ) → ℕ → ℕ
least_at sets i = least (slice_index_or sets i [])

-- each of the first sets, up to half of them rounded up, is joined with the one half of them further on, by their least vertices
abbrev pub opposite_pairs : List (List ℕ) → List (ℕ × ℕ)
opposite_pairs sets = map (λ i. (least_at sets i, least_at sets (i + length sets / 2))) (range_with_len 0 (length sets - length sets / 2))

-- the pair with the lesser number first
abbrev pub upward : ℕ × ℕ → ℕ × ℕ
upward p = (min p.0 p.1, max p.0 p.1)

-- the edges between opposite sets, as pairs with the lesser vertex first
abbrev pub new_edges : List (List ℕ) → List (ℕ × ℕ)
new_edges sets = map upward (opposite_pairs sets)
