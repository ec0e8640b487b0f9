-- Vertices of a region that an edge joins to another vertex.
use Rattle.std.specs.Prelude.{ℕ, ◌≡◌, ◌≤◌, List, slice_index}
use Rattle.cut_definitions.specs.Graph.{Graph}
use Rattle.cut_definitions.specs.Chain.{IsJoined}

-- a vertex of a region that an edge joins to p
pub record IsJoinedIn (g : Graph) (labels : List ℕ) (p region v : ℕ) : Type 0 where
  pub to_n : v ≤ g.vertices
  pub inside : slice_index labels v ≡ region
  pub joined : IsJoined g p v
