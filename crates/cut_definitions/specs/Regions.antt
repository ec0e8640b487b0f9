-- Vertices with labels: each vertex with a label above 0 is in the region of that label, and the others are in none.
use Rattle.std.specs.Prelude.{ℕ, ◌≢◌, ◌≤◌, List, slice_index}
use Rattle.cut_definitions.specs.Graph.{Graph}
use Rattle.cut_definitions.specs.Chain.{IsJoined}

-- a vertex of a region that an edge joins to a vertex with another label
pub record IsOpenAt (g : Graph) (labels : List ℕ) (v : ℕ) : Type 0 where
  pub to_n : v ≤ g.vertices
  pub outside : 1 ≤ slice_index labels v
  pub other : ℕ
  pub joined : IsJoined g other v
  pub apart : slice_index labels other ≢ slice_index labels v
