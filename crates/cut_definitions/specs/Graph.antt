-- Graphs as contracts see them: a number of vertices and an ascending list of edges.
use Rattle.std.specs.Prelude.{ℕ, ◌<◌, ◌≤◌, ◌≡◌, ◌^◌, ◌⊎◌, List, [], ◌∷◌, ◌++◌, length}
use Rattle.std.specs.List.{All, AllPairs, sum_by}
use Rattle.cut_definitions.specs.declared.edge_list.Edge.{Edge}

-- the vertices are the numbers 1 to `vertices`
pub record Graph : Type 0 where
  pub vertices : ℕ
  pub edges : List Edge

-- a vertex of 1 to n
abbrev pub IsVertex : ℕ → ℕ → Type 0
IsVertex n v = (1 ≤ v) × (v ≤ n)

-- one edge comes before another by its ends
abbrev pub IsBefore : Edge → Edge → Type 0
IsBefore d e = (d.u < e.u) ⊎ ((d.u ≡ e.u) × (d.v < e.v))

-- an edge of positive weight between two vertices of 1 to n, the smaller first
abbrev pub IsEdgeWithin : ℕ → Edge → Type 0
IsEdgeWithin n e = (1 ≤ e.u) × (e.u < e.v) × (e.v ≤ n) × (1 ≤ e.w)

-- the edges ascend by their ends, so no pair occurs twice, and their weights add up to at most 2^61
pub record IsGraph (g : Graph) : Type 0 where
  pub in_range : All (IsEdgeWithin g.vertices) g.edges
  pub ascending : AllPairs IsBefore g.edges
  pub total : sum_by (λ (e : Edge). e.w) g.edges ≤ 2 ^ 61

-- a graph of at most 4,194,304 vertices and 16,777,216 edges, the largest that the program takes
pub record IsEdgeList (g : Graph) : Type 0 where
  pub is_graph : IsGraph g
  pub few_vertices : g.vertices ≤ 4194304
  pub few_edges : length g.edges ≤ 16777216

-- the graph with one more edge at the end of its list
abbrev pub with_edge : Graph → Edge → Graph
with_edge g e = record { vertices = g.vertices; edges = g.edges ++ e ∷ [] }
