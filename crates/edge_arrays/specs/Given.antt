-- The graph that three arrays give, and when another graph weighs the same.
use Rattle.std.specs.Prelude.{ℕ, ◌≡◌, ◌==◌, ◌+◌, ◌<◌, ◌≤◌, ◌^◌, List, map, length, slice_index, if◌then◌else◌}
use Rattle.std.specs.List.{range_with_len, sum_by}
use Rattle.cut_definitions.specs.declared.edge_list.Edge.{Edge}
use Rattle.cut_definitions.specs.Graph.{Graph}
use Rattle.cut_definitions.specs.Weight.{VertexSet, weight}

-- the edge between two vertices that are counted from 0
abbrev pub edge_of : ℕ → ℕ → ℕ → Edge
edge_of u v w = record { u = u + 1; v = v + 1; w = w }

-- the edge at a place of the arrays
abbrev pub entry : List ℕ → List ℕ → List ℕ → ℕ → Edge
entry us vs ws i = edge_of (slice_index us i) (slice_index vs i) (slice_index ws i)

-- the graph of the arrays: each edge as it is there, loops and repeated edges too
abbrev pub given : ℕ → List ℕ → List ℕ → List ℕ → Graph
given n us vs ws = record { vertices = n; edges = map (entry us vs ws) (range_with_len 0 (length us)) }

-- the two graphs have the same vertices, and each set weighs the same in both
pub record WeighsAs (g h : Graph) : Type 0 where
  pub same_n : g.vertices ≡ h.vertices
  pub weights : (s : VertexSet) → weight g s ≡ weight h s

-- what an edge weighs that is no loop
abbrev pub free_weight : Edge → ℕ
free_weight e = if e.u == e.v then 0 else e.w

-- what the edges before a place of the arrays weigh together, but for loops
abbrev pub weight_before : List ℕ → List ℕ → List ℕ → ℕ → ℕ
weight_before us vs ws place = sum_by free_weight (map (entry us vs ws) (range_with_len 0 place))

-- what all edges of the arrays weigh together, but for loops
abbrev pub total_weight : List ℕ → List ℕ → List ℕ → ℕ
total_weight us vs ws = weight_before us vs ws (length us)

-- u and v are vertices, counted from 0
abbrev pub AreVertices : ℕ → ℕ → ℕ → Type 0
AreVertices n u v = (u < n) × (v < n)

-- both ends at a place are vertices
abbrev pub HasEnds : ℕ → List ℕ → List ℕ → ℕ → Type 0
HasEnds n us vs i = AreVertices n (slice_index us i) (slice_index vs i)

-- three arrays give a graph of n vertices: they are of one length and within the limits, the ends are vertices of 0 to n - 1, and all edges but loops weigh at most 2^61 in total
pub record IsGiven (n : ℕ) (us vs ws : List ℕ) : Type 0 where
  pub as_many_ends : length vs ≡ length us
  pub as_many_weights : length ws ≡ length us
  pub few_vertices : n ≤ 4194304
  pub few_edges : length us ≤ 16777216
  pub ends : (i : ℕ) → i < length us → HasEnds n us vs i
  pub total : total_weight us vs ws ≤ 2 ^ 61
