-- Rooted cactuses: trees of nodes in which each vertex has its one place.
use Rattle.std.specs.Prelude.{ℕ, ◌≡◌, ◌≤◌, List, length, map}
use Rattle.std.specs.List.{All, Contains, filter, range_with_len}
use Rattle.cut_definitions.specs.Cuts.{has, IsAscendingWithin}
use Rattle.rooted_cactus.specs.declared.tree.Node.{Node}
use Rattle.rooted_cactus.specs.Trees.{vertices}
use Rattle.rooted_cactus.specs.Entered.{entered}
use Rattle.rooted_cactus.specs.Sides.{cuts}
use Rattle.rooted_cactus.specs.Widths.{widths}

-- a tree of nodes over the vertices 1 to `vertices`
pub record Rooted : Type 0 where
  pub vertices : ℕ
  pub root : Node

-- the tree of a node over the vertices 1 to n
abbrev pub over : ℕ → Node → Rooted
over n root = record { vertices = n; root = root }

-- the number of the nodes that have a vertex
abbrev pub places : Node → ℕ → ℕ
places root v = length (filter (λ l. has l v) (entered root))

-- the vertices of each node ascend and are of 1 to n, each vertex of 1 to n is in exactly one node, vertex 1 is in the root, and each cycle has two or more children
pub record IsCactus (n : ℕ) (root : Node) : Type 0 where
  pub ascending : All (IsAscendingWithin 1 n) (entered root)
  pub in_one_node : (v : ℕ) → 1 ≤ v → v ≤ n → places root v ≡ 1
  pub root_has_one : Contains (vertices root) 1
  pub wide : All (λ k. 2 ≤ k) (widths root)

-- the sides of the cuts of a cactus, as ascending lists, in the order of the tree
abbrev pub sides_of : Rooted → List (List ℕ)
sides_of c = map (λ s. filter s (range_with_len 1 c.vertices)) (cuts c.root)
