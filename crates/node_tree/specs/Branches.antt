-- A search along the edges of a graph that puts each vertex it finds into a node of its own.
use Rattle.std.specs.Prelude.{ℕ, ◌≡◌, ◌+◌, ◌<◌, ◌≤◌, ◌⊎◌, ◌++◌, ◌∷◌, [], false, length, slice_index, slice_set}
use Rattle.std.specs.List.{All}
use Rattle.cut_definitions.specs.Graph.{Graph}
use Rattle.weighted_graph.specs.declared.graph.Arc.{Arc}
use Rattle.weighted_graph.specs.Rows.{row_of}
use Rattle.node_tree.specs.declared.branches.Branches.{Branches}
use Rattle.node_tree.specs.Flat.{AddsNode, is_follower}

-- the vertex in a node, the node of a vertex, and the node from which a node hangs
abbrev pub vertex_in : Branches → ℕ → ℕ
vertex_in b k = slice_index b.order.items k

abbrev pub node_of : Branches → ℕ → ℕ
node_of b v = slice_index b.made.homes.items v

abbrev pub upper_of : Branches → ℕ → ℕ
upper_of b k = slice_index b.made.tree.uppers k

-- the number of nodes
abbrev pub found : Branches → ℕ
found b = length b.order.items

-- a vertex was found: it is vertex 1, which is in the root, or in a node below it
abbrev pub IsFound : Branches → ℕ → Type 0
IsFound b v = (v ≡ 1) ⊎ (1 ≤ node_of b v)

-- each node but the root hangs from one with a lesser number, none follows another, and each has a vertex of its own
pub record IsSearch (n : ℕ) (b : Branches) : Type 0 where
  pub long : length b.made.homes.items ≡ n + 1
  pub nodes : length b.made.tree.uppers ≡ found b
  pub first : vertex_in b 0 ≡ 1
  pub vertices : (k : ℕ) → k < found b → (1 ≤ vertex_in b k) × (vertex_in b k ≤ n)
  pub apart : (k : ℕ) → is_follower b.made.tree.follows k ≡ false
  pub upper : (k : ℕ) → 1 ≤ k → k < found b → upper_of b k < k
  pub node : (v : ℕ) → node_of b v < found b
  pub holds : (k : ℕ) → k < found b → node_of b (vertex_in b k) ≡ k
  pub is_held : (v : ℕ) → 1 ≤ node_of b v → vertex_in b (node_of b v) ≡ v

-- a vertex is in the node from which a node hangs
abbrev pub IsAbove : Branches → ℕ → ℕ → Type 0
IsAbove b k v = (1 ≤ k) × (vertex_in b (upper_of b k) ≡ v)

-- a vertex is in a node that hangs from a node
pub record HangsFrom (b : Branches) (k v : ℕ) : Type 0 where
  pub node : ℕ
  pub from_one : 1 ≤ node
  pub within : node < found b
  pub holds : vertex_in b node ≡ v
  pub upper : upper_of b node ≡ k

-- an arc of a weight leads from a node to the one from which it hangs, or to one that hangs from it
pub record LeadsAlong (amount : ℕ) (b : Branches) (k : ℕ) (a : Arc) : Type 0 where
  pub weighs : a.weight ≡ amount
  pub along : IsAbove b k a.to ⊎ HangsFrom b k a.to

-- the edges of the vertices in the first nodes all weigh the same, and lead along the tree
pub record IsBranching (g : Graph) (amount : ℕ) (b : Branches) (done : ℕ) : Type 0 where
  pub search : IsSearch g.vertices b
  pub done_found : done ≤ found b
  pub along : (k : ℕ) → k < done → All (LeadsAlong amount b k) (row_of g (vertex_in b k))

-- nodes may have been added, and none was changed
pub record KeepsNodes (b b' : Branches) : Type 0 where
  pub more : found b ≤ found b'
  pub vertices : (k : ℕ) → k < found b → vertex_in b' k ≡ vertex_in b k
  pub uppers : (k : ℕ) → k < found b → upper_of b' k ≡ upper_of b k

-- a vertex is in a new node
pub record AddsBranch (b b' : Branches) (v upper : ℕ) : Type 0 where
  pub order : b'.order.items ≡ b.order.items ++ v ∷ []
  pub tree : AddsNode b.made.tree b'.made.tree (length b.made.tree.uppers) upper false
  pub homes : b'.made.homes.items ≡ slice_set b.made.homes.items v (length b.made.tree.uppers)

-- an arc of a node leads along the tree now
pub record IsPutAlong (n amount : ℕ) (b b' : Branches) (k : ℕ) (a : Arc) : Type 0 where
  pub search : IsSearch n b'
  pub kept : KeepsNodes b b'
  pub along : LeadsAlong amount b' k a
