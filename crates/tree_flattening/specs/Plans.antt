-- Trees by the numbers of their nodes: what is below each node, and in what order.
use Rattle.std.specs.Prelude.{ℕ, zero, suc, not, ◌≡◌, ◌==◌, ◌&&◌, ◌+◌, ◌-◌, ◌^◌, ◌<◌, ◌≤◌, if◌then◌else◌, List, [], ◌∷◌, length, map, slice_index}
use Rattle.std.specs.List.{Contains, filter, range_with_len}
use Rattle.node_tree.specs.Flat.{NodeArrays, TreeLinks, is_follower}
use Rattle.rooted_cactus.specs.declared.tree.Node.{Node}
use Rattle.rooted_cactus.specs.declared.tree.Block.{Block}
use Rattle.rooted_cactus.specs.Entries.{nodes_of}
use Rattle.rooted_cactus.specs.Normal.{block_shape}
use Rattle.rooted_cactus.specs.Trees.{vertices, blocks}

-- nodes 0 to count - 1: the vertices of each, and the first nodes of the blocks below it, in their order; and by its first node the nodes of each block, in their order
pub record Plan : Type 0 where
  pub count : ℕ
  pub own : ℕ → List ℕ
  pub heads : ℕ → List ℕ
  pub run : ℕ → List ℕ

-- what is below a node has greater numbers, and no block is empty
pub record IsPlan (p : Plan) : Type 0 where
  pub heads : (i h : ℕ) → i < p.count → Contains (p.heads i) h → (i < h) × (h < p.count)
  pub run : (h j : ℕ) → h < p.count → Contains (p.run h) j → (h ≤ j) × (j < p.count)
  pub some : (h : ℕ) → h < p.count → 1 ≤ length (p.run h)
  pub few_heads : (i : ℕ) → i < p.count → length (p.heads i) < 2 ^ 63
  pub few_nodes : (h : ℕ) → h < p.count → length (p.run h) < 2 ^ 63

-- the nodes and blocks of a tree are those of a plan
pub record IsDrawn (p : Plan) (node : ℕ → Node) (block : ℕ → Block) : Type 0 where
  pub own : (i : ℕ) → i < p.count → vertices (node i) ≡ p.own i
  pub hung : (i : ℕ) → i < p.count → blocks (node i) ≡ map block (p.heads i)
  pub nodes : (h : ℕ) → h < p.count → nodes_of (block h) ≡ map node (p.run h)
  pub kind : (h : ℕ) → h < p.count → (block_shape (block h)).is_cycle ≡ not (length (p.run h) == 1)

-- the vertices of 1 to n in a node, ascending
abbrev pub own_of : ℕ → NodeArrays → ℕ → List ℕ
own_of n a i = filter (λ v. a.homes v == i) (range_with_len 1 n)

-- the nodes that hang from a node and follow no other, ascending: each is the first of a block
abbrev pub heads_of : TreeLinks → ℕ → List ℕ
heads_of t i = filter (λ h. not (is_follower t.follows h) && (slice_index t.uppers h == i)) (range_with_len 1 (length t.uppers - 1))

-- a node and those that follow it in a cycle, up to a greatest number of them
abbrev pub run_from : ℕ → TreeLinks → ℕ → List ℕ
run_from zero t h = h ∷ []
run_from (suc more) t h = h ∷ (if is_follower t.follows (h + 1) then run_from more t (h + 1) else [])

-- all of them
abbrev pub run_of : TreeLinks → ℕ → List ℕ
run_of t h = run_from (length t.uppers - h - 1) t h
