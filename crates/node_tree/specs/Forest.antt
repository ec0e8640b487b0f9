-- The trees of the first nodes, while the later nodes are hung below them from the last one on.
use Rattle.std.specs.Prelude.{ℕ, zero, suc, ◌≡◌, ◌==◌, ◌≤◌, ⊤, if◌then◌else◌, nat_lt, false, List, [], ◌∷◌, ◌++◌, length, map, reverse, slice_index, slice_index_or}
use Rattle.std.specs.List.{All, Contains, filter, flat_map, range_with_len}
use Rattle.cut_definitions.specs.Weight.{VertexSet}
use Rattle.cut_definitions.specs.Cuts.{has, IsAscendingWithin}
use Rattle.cut_definitions.specs.Chain.{SameOn}
use Rattle.rooted_cactus.specs.declared.tree.Node.{Node}
use Rattle.rooted_cactus.specs.declared.tree.Block.{Block}
use Rattle.rooted_cactus.specs.Trees.{vertices, blocks}
use Rattle.rooted_cactus.specs.Entered.{entered, entered_block}
use Rattle.rooted_cactus.specs.Widths.{widths, block_widths}
use Rattle.rooted_cactus.specs.Sides.{part, block_part, below, cuts, cycle_of}
use Rattle.node_tree.specs.TreeSets.{TreeSets, IsTreeSide}
use Rattle.node_tree.specs.Flat.{NodeArrays, is_follower, sets_of}

-- each element of a list is as its place asks, counted from a number
abbrev pub AreFrom : {X : Type 0} → (ℕ → X → Type 0) → ℕ → List X → Type 0
AreFrom P k [] = ⊤
AreFrom P k (x ∷ xs) = P k x × AreFrom P (suc k) xs

-- one node of a list is changed
pub record IsChangedAt (place : ℕ) (Change : Node → Node → Type 0) (old new : List Node) : Type 0 where
  pub before : List Node
  pub node : Node
  pub changed : Node
  pub after : List Node
  pub at : length before ≡ place
  pub was : old ≡ before ++ node ∷ after
  pub is : new ≡ before ++ changed ∷ after
  pub change : Change node changed

abbrev pub AddsVertex : ℕ → Node → Node → Type 0
AddsVertex v x y = (vertices y ≡ vertices x ++ v ∷ []) × (blocks y ≡ blocks x)

abbrev pub AddsBlock : Block → Node → Node → Type 0
AddsBlock b x y = (vertices y ≡ vertices x) × (blocks y ≡ blocks x ++ b ∷ [])

-- a node has the vertices of 1 to n whose home is its place, ascending, and no blocks
abbrev pub IsPlaced : ℕ → (ℕ → ℕ) → ℕ → Node → Type 0
IsPlaced n homes place x = (vertices x ≡ filter (λ v. homes v == place) (range_with_len 1 n)) × (blocks x ≡ [])

-- a node has a vertex
abbrev pub IsFilled : Node → Type 0
IsFilled x = 1 ≤ length (vertices x)

-- a block has several nodes, from the last to the first: a bridge where it is one, and a cycle where they are more
pub record IsBlockOf (nodes : List Node) (b : Block) : Type 0 where
  pub part : block_part b ≡ cycle_of (map part (reverse nodes))
  pub entered : entered_block b ≡ flat_map entered (reverse nodes)
  pub wide : All (λ k. 2 ≤ k) (flat_map widths nodes) → All (λ k. 2 ≤ k) (block_widths b)

-- the first node before a place on the way up from a node, where so many steps are enough
abbrev pub met_before : List ℕ → ℕ → ℕ → ℕ → ℕ
met_before uppers place zero x = x
met_before uppers place (suc steps) x = if nat_lt x place then x else met_before uppers place steps (slice_index uppers x)

-- the node before a place at which a node hangs, straight or through later nodes
abbrev pub holder : List ℕ → ℕ → ℕ → ℕ
holder uppers place x = met_before uppers place x x

-- the tree of a node has the vertices that hang there
abbrev pub IsHolding : ℕ → NodeArrays → ℕ → ℕ → Node → Type 0
IsHolding n a count place x = (v : ℕ) → 1 ≤ v → v ≤ n → below x v ≡ (holder a.links.uppers count (a.homes v) == place)

-- a side of nodes from a number on
pub record IsSideFrom (n : ℕ) (tree : TreeSets) (from : ℕ) (x : VertexSet) : Type 0 where
  pub side : IsTreeSide n tree x
  pub late : from ≤ side.first

-- all nodes from the length of a list on are hung into the trees of the list
pub record IsForest (n : ℕ) (a : NodeArrays) (nodes : List Node) : Type 0 where
  pub holding : AreFrom (IsHolding n a (length nodes)) 0 nodes
  pub apart : is_follower a.links.follows (length nodes) ≡ false
  pub sound : (s : VertexSet) → Contains (flat_map cuts nodes) s → IsSideFrom n (sets_of a) (length nodes) s
  pub complete : (x : VertexSet) → IsSideFrom n (sets_of a) (length nodes) x → (s : VertexSet) × Contains (flat_map cuts nodes) s × SameOn n s x
  pub ascending : All (IsAscendingWithin 1 n) (flat_map entered nodes)
  pub in_one_node : (v : ℕ) → 1 ≤ v → v ≤ n → length (filter (λ l. has l v) (flat_map entered nodes)) ≡ 1
  pub wide : All (λ k. 2 ≤ k) (flat_map widths nodes)
  pub root_has_one : (d : Node) → Contains (vertices (slice_index_or nodes 0 d)) 1
