-- Where the edges are light beside the degrees.
use Rattle.std.specs.Prelude.{ℕ, ◌*◌, ◌≤◌}
use Rattle.std.specs.List.{All}
use Rattle.cut_definitions.specs.declared.edge_list.Edge.{Edge}
use Rattle.cut_definitions.specs.Graph.{Graph}
use Rattle.cut_definitions.specs.Weight.{weight}
use Rattle.cut_definitions.specs.Scan.{single}

-- the number of vertices times the weight of an edge is at most twice the degree of a vertex, for each edge and each vertex
abbrev pub IsDense : Graph → Type 0
IsDense g = (v : ℕ) → 1 ≤ v → v ≤ g.vertices → All (λ (e : Edge). g.vertices * e.w ≤ 2 * weight g (single v)) g.edges
