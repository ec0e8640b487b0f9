-- Vertices from which no edge leads out of their region.
use Rattle.std.specs.Prelude.{ℕ, ◌≡◌, ◌≤◌, List, slice_index}
use Rattle.std.specs.List.{All}
use Rattle.cut_definitions.specs.Graph.{Graph, IsGraph}
use Rattle.cut_definitions.specs.Components.{IsConnected}
use Rattle.weighted_graph.specs.declared.graph.Arc.{Arc}
use Rattle.weighted_graph.specs.Rows.{row_of}

-- if the vertex is in a region, its edges stay in it
abbrev pub IsShutAt : Graph → List ℕ → ℕ → Type 0
IsShutAt g labels v = 1 ≤ slice_index labels v → All (λ (a : Arc). slice_index labels a.to ≡ slice_index labels v) (row_of g v)

-- if no vertex of a region of a connected graph is open, all have entered, if vertex 1 has
abbrev pub LawOfOpenVertices : Type 0
LawOfOpenVertices = (g : Graph) (labels : List ℕ) → IsGraph g → IsConnected g → slice_index labels 1 ≡ 0 →
    ((v : ℕ) → 1 ≤ v → v ≤ g.vertices → IsShutAt g labels v) → (v : ℕ) → 1 ≤ v → v ≤ g.vertices → slice_index labels v ≡ 0
