-- A tree of nodes whose blocks and cycles are in the order of a canonical cactus.
use Rattle.std.specs.Prelude.{ℕ, ◌≡◌, ◌-◌, ◌<◌, ◌≤◌, ◌⊎◌, if◌then◌else◌, nat_lt, false, List, [], ◌∷◌, ◌++◌, length, map, reverse, slice_index, slice_index_or}
use Rattle.std.specs.List.{Contains, range_with_len}
use Rattle.std.specs.List.Sorted.{IsPermutation, IsNonDecreasingBy}
use Rattle.cut_definitions.specs.Cuts.{least}
use Rattle.node_tree.specs.Flat.{NodeArrays, TreeLinks, AreLaid, is_follower}
use Rattle.tree_flattening.specs.declared.arrangement.Arranged.{Arranged}
use Rattle.tree_flattening.specs.declared.arrangement.Run.{Run}
use Rattle.tree_flattening.specs.Plans.{Plan, own_of, heads_of, run_of}

-- the least vertex at or below each node, and below each block, at its first node
pub record LeastVertices : Type 0 where
  pub nodes : ℕ → ℕ
  pub blocks : ℕ → ℕ

pub record AreLeasts (n : ℕ) (a : NodeArrays) (l : LeastVertices) : Type 0 where
  pub nodes : (i : ℕ) → i < length a.links.uppers → l.nodes i ≡ least (own_of n a i ++ map l.blocks (heads_of a.links i))
  pub blocks : (h : ℕ) → 1 ≤ h → h < length a.links.uppers → is_follower a.links.follows h ≡ false → l.blocks h ≡ least (map l.nodes (run_of a.links h))

-- the last of several numbers, or another number if there is none
abbrev pub last_or : ℕ → List ℕ → ℕ
last_or x [] = x
last_or x (y ∷ ys) = last_or y ys

-- the nodes of a cycle from the end that has the smaller vertex at or under it
abbrev pub faced : (ℕ → ℕ) → ℕ → List ℕ → List ℕ
faced least_at h run = if nat_lt (least_at (last_or h run)) (least_at h) then reverse run else run

-- nodes of a block, from one number up to before another; from the last to the first if they are turned
abbrev pub run_list : Run → List ℕ
run_list r = if r.is_turned then reverse (range_with_len r.first (r.end - r.first)) else range_with_len r.first (r.end - r.first)

-- the plan of the arrays of an arrangement
abbrev pub plan_of : Arranged → Plan
plan_of x = record {
  count = length x.tree.now.uppers;
  own = λ i. slice_index_or x.members i [];
  heads = λ i. slice_index_or x.heads i [];
  run = λ h. faced (slice_index x.leasts.items) h (run_of x.tree.now h);
}

-- each node has a vertex
abbrev pub AreFilled : ℕ → NodeArrays → Type 0
AreFilled n a = (i : ℕ) → i < length a.links.uppers → 1 ≤ length (own_of n a i)

-- these are the vertices of each node; none is empty, so there are no more nodes than vertices
pub record AreOwn (n : ℕ) (a : NodeArrays) (members : List (List ℕ)) : Type 0 where
  pub few : length a.links.uppers ≤ n
  pub laid : AreLaid a.links.uppers a.links.follows
  pub many : length members ≡ length a.links.uppers
  pub own : (i : ℕ) → i < length a.links.uppers → slice_index_or members i [] ≡ own_of n a i
  pub filled : AreFilled n a

-- no cycle has three nodes, with the one above: nowhere exactly two nodes follow each other
abbrev pub HasNoTriangle : TreeLinks → Type 0
HasNoTriangle t = (h : ℕ) → 1 ≤ h → h < length t.uppers → is_follower t.follows h ≡ false → length (run_of t h) ≡ 2 → ⊥

-- the blocks of each node by their least vertices, and each cycle from the smaller end
pub record IsArranged (n : ℕ) (a : NodeArrays) (l : LeastVertices) (p : Plan) : Type 0 where
  pub count : p.count ≡ length a.links.uppers
  pub own : (i : ℕ) → i < p.count → p.own i ≡ own_of n a i
  pub moved : (i : ℕ) → i < p.count → IsPermutation (heads_of a.links i) (p.heads i)
  pub sorted : (i : ℕ) → i < p.count → IsNonDecreasingBy l.blocks (p.heads i)
  pub run : (h : ℕ) → h < p.count → p.run h ≡ faced l.nodes h (run_of a.links h)

-- there is a list of vertices, one of first nodes, and a least vertex for each node
pub record HasAll (x : Arranged) : Type 0 where
  pub members : length x.members ≡ length x.tree.now.uppers
  pub heads : length x.heads ≡ length x.tree.now.uppers
  pub leasts : length x.leasts.items ≡ length x.tree.now.uppers

-- the first nodes of the blocks below each node come after it
abbrev pub AreBelow : ℕ → List (List ℕ) → Type 0
AreBelow count heads = (i h : ℕ) → i < count → Contains (slice_index_or heads i []) h → (i < h) × (h < count)

-- the least vertex at or below a node is that of its own and of those below its blocks
abbrev pub IsLeastOfNode : List (List ℕ) → List (List ℕ) → List ℕ → List ℕ → ℕ → Type 0
IsLeastOfNode members heads nodes blocks i = slice_index nodes i ≡ least (slice_index_or members i [] ++ map (slice_index blocks) (slice_index_or heads i []))

-- the least vertex below a block is the least of those of its nodes
abbrev pub IsLeastOfBlock : TreeLinks → List ℕ → List ℕ → ℕ → Type 0
IsLeastOfBlock t nodes blocks h = is_follower t.follows h ≡ false → slice_index blocks h ≡ least (map (slice_index nodes) (run_of t h))

-- a tree is arranged
pub record IsOrdered (n : ℕ) (a : NodeArrays) (x : Arranged) : Type 0 where
  pub leasts : LeastVertices
  pub few : length a.links.uppers ≤ n
  pub laid : AreLaid a.links.uppers a.links.follows
  pub all : HasAll x
  pub filled : AreFilled n a
  pub no_triangle : HasNoTriangle a.links
  pub least : AreLeasts n a leasts
  pub arranged : IsArranged n a leasts (plan_of x)

-- why a tree is not arranged: there are more nodes than vertices, or a node has none, or a cycle has three nodes
abbrev pub IsUnfit : ℕ → NodeArrays → Type 0
IsUnfit n a = (n < length a.links.uppers) ⊎ (¬ (AreFilled n a) ⊎ ¬ (HasNoTriangle a.links))

-- a tree whose nodes have the given vertices is sorted: the blocks below each node ascend by their least vertex
pub record IsSorted (t : TreeLinks) (members : List (List ℕ)) (x : Arranged) : Type 0 where
  pub blocks : List ℕ
  pub all : HasAll x
  pub tree : x.tree.now ≡ t
  pub kept : x.members ≡ members
  pub moved : (i : ℕ) → i < length t.uppers → IsPermutation (heads_of t i) (slice_index_or x.heads i [])
  pub sorted : (i : ℕ) → i < length t.uppers → IsNonDecreasingBy (slice_index blocks) (slice_index_or x.heads i [])
  pub nodes : (i : ℕ) → i < length t.uppers → slice_index x.leasts.items i ≡ least (slice_index_or members i [] ++ map (slice_index blocks) (heads_of t i))
  pub least : (h : ℕ) → h < length t.uppers → IsLeastOfBlock t x.leasts.items blocks h
