-- What a row says of its vertex.
use Rattle.std.specs.Prelude.{ℕ, ◌≡◌, ◌<◌, ◌⊎◌, List, length, slice_index_or, if◌then◌else◌}
use Rattle.std.specs.List.{All, AllPairs, Contains, sum_by}
use Rattle.cut_definitions.specs.declared.edge_list.Edge.{Edge}
use Rattle.cut_definitions.specs.Graph.{Graph, IsGraph}
use Rattle.cut_definitions.specs.Weight.{VertexSet, weight}
use Rattle.cut_definitions.specs.Scan.{single, weight_to}
use Rattle.weighted_graph.specs.declared.graph.Arc.{Arc}
use Rattle.weighted_graph.specs.Rows.{row_of}

-- an edge of which there is none
abbrev pub no_edge : Edge
no_edge = record { u = 0; v = 0; w = 0 }

-- the edge of a graph at a place
abbrev pub edge_at : Graph → ℕ → Edge
edge_at g i = slice_index_or g.edges i no_edge

-- an arc of a vertex: its edge joins the vertex and the arc's other end, and has the arc's weight
pub record IsArcAt (g : Graph) (v : ℕ) (a : Arc) : Type 0 where
  pub within : a.edge < length g.edges
  pub ends : (((edge_at g a.edge).u ≡ v) × ((edge_at g a.edge).v ≡ a.to)) ⊎ (((edge_at g a.edge).v ≡ v) × ((edge_at g a.edge).u ≡ a.to))
  pub same_weight : a.weight ≡ (edge_at g a.edge).w

-- the row of a vertex: exactly its edges, ascending by the other end
pub record IsRowAt (g : Graph) (v : ℕ) (row : List Arc) : Type 0 where
  pub arcs : All (IsArcAt g v) row
  pub ascending : AllPairs (λ (a b : Arc). a.to < b.to) row
  pub degree : sum_by (λ (a : Arc). a.weight) row ≡ weight g (single v)
  pub weight_to : (s : VertexSet) → sum_by (λ (a : Arc). if s a.to then a.weight else 0) row ≡ weight_to g v s

-- each edge is in the rows of both its ends
pub record StandsInRows (g : Graph) (i : ℕ) (e : Edge) : Type 0 where
  pub of_lesser : Contains (row_of g e.u) (record { to = e.v; edge = i; weight = e.w })
  pub of_greater : Contains (row_of g e.v) (record { to = e.u; edge = i; weight = e.w })

abbrev pub LawOfRows : Type 0
LawOfRows = (g : Graph) → IsGraph g → (v : ℕ) → IsRowAt g v (row_of g v)

abbrev pub LawOfEdgesInRows : Type 0
LawOfEdgesInRows = (g : Graph) → IsGraph g → (i : ℕ) → i < length g.edges → StandsInRows g i (edge_at g i)
