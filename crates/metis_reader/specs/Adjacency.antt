-- Lists of neighbours, one for each vertex, and their graph.
use Rattle.std.specs.Prelude.{ℕ, ◌≢◌, IsTrue, ◌+◌, ◌-◌, ◌≤◌, List, [], map, length, slice_index_or}
use Rattle.std.specs.List.{All, AllPairs, filter, flat_map, range_with_len}
use Rattle.cut_definitions.specs.declared.edge_list.Edge.{Edge}
use Rattle.cut_definitions.specs.Graph.{Graph}
use Rattle.cut_definitions.specs.Cuts.{has}

-- the neighbours of a vertex
abbrev pub row : List (List ℕ) → ℕ → List ℕ
row rows vertex = slice_index_or rows (vertex - 1) []

abbrev pub edge_from : ℕ → ℕ → Edge
edge_from from to = record { u = from; v = to; w = 1 }

-- the edges from a vertex to those of the next ones that it names
abbrev pub edges_to : List ℕ → ℕ → ℕ → List Edge
edges_to names from count = filter (λ (e : Edge). has names e.v) (map (edge_from from) (range_with_len (from + 1) count))

-- the graph on the vertices 1 to n: each vertex in turn, with the greater ones that it names, all of weight 1
abbrev pub graph_of_rows : ℕ → List (List ℕ) → Graph
graph_of_rows n rows = record { vertices = n; edges = flat_map (λ from. edges_to (row rows from) from (n - from)) (range_with_len 1 n) }

-- a vertex that is in the row of another has that one in its own row
pub record IsNeighbour (rows : List (List ℕ)) (u v : ℕ) : Type 0 where
  pub from_one : 1 ≤ v
  pub to_n : v ≤ length rows
  pub other : v ≢ u
  pub in_turn : IsTrue (has (row rows v) u)

-- the row of a vertex names its neighbours, each once
pub record IsRowOf (rows : List (List ℕ)) (u : ℕ) : Type 0 where
  pub neighbours : All (IsNeighbour rows u) (row rows u)
  pub each_once : AllPairs (λ v w. v ≢ w) (row rows u)

-- the rows are those of a graph
pub record IsAdjacency (rows : List (List ℕ)) : Type 0 where
  pub each : (u : ℕ) → 1 ≤ u → u ≤ length rows → IsRowOf rows u
