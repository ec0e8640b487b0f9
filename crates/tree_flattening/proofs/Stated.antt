-- What is shown of trees in arrays: a plan has a tree, and that of a plan in order is the canonical cactus of the sides of the
-- arrays.
use Rattle.std.proofs.Common.{ℕ, ◌≡◌, ◌↔◌, ◌^◌, ◌<◌, ◌≤◌, true, length, reverse}
use Rattle.std.specs.List.{Contains, filter, range_with_len}
use Rattle.cut_definitions.specs.Weight.{VertexSet}
use Rattle.rooted_cactus.specs.declared.tree.Node.{Node}
use Rattle.rooted_cactus.specs.declared.tree.Block.{Block}
use Rattle.rooted_cactus.specs.Rooted.{IsCactus, sides_of}
use Rattle.canonical_cactus.specs.Canonical.{is_canonical}
use Rattle.node_tree.specs.Flat.{NodeArrays, AreNodes, AreLaid, sets_of}
use Rattle.node_tree.specs.TreeSets.{IsTreeSide}
use Rattle.tree_flattening.specs.Plans.{Plan, IsPlan, IsDrawn, own_of, heads_of, run_of}
use Rattle.tree_flattening.specs.Arranged.{LeastVertices, AreLeasts, AreFilled, HasNoTriangle, IsArranged}

-- each plan has a tree
abbrev pub LawOfDrawing : Type 0
LawOfDrawing = (p : Plan) → IsPlan p → (node : ℕ → Node) × (block : ℕ → Block) × IsDrawn p node block

-- a tree in arrays over the vertices 1 to n, with vertex 1 in the root, as a solver leaves it
pub record IsLaidOut (n : ℕ) (a : NodeArrays) : Type 0 where
  pub some : 1 ≤ n
  pub nodes : AreNodes a
  pub laid : AreLaid a.links.uppers a.links.follows
  pub root : a.homes 1 ≡ 0
  pub few : length a.links.uppers < 2 ^ 63

-- the blocks of each node from the last to the first, and so the nodes of each cycle: as a tree is made from the last node on
abbrev pub plain_plan : ℕ → NodeArrays → Plan
plain_plan n a = record { count = length a.links.uppers; own = own_of n a; heads = λ i. reverse (heads_of a.links i); run = λ h. reverse (run_of a.links h) }

-- the tree of a plan in order is the canonical cactus of the sides of the arrays
pub record IsCanonicalTree (n : ℕ) (a : NodeArrays) (p : Plan) : Type 0 where
  pub node : ℕ → Node
  pub block : ℕ → Block
  pub drawn : IsDrawn p node block
  pub is_cactus : IsCactus n (node 0)
  pub canonical : is_canonical (node 0) ≡ true
  pub sides : (x : VertexSet) → Contains (sides_of (record { vertices = n; root = node 0 })) (filter x (range_with_len 1 n)) ↔ IsTreeSide n (sets_of a) x

abbrev pub LawOfCanonicalTrees : Type 0
LawOfCanonicalTrees = (n : ℕ) (a : NodeArrays) (l : LeastVertices) (p : Plan) → IsLaidOut n a → AreFilled n a → HasNoTriangle a.links → AreLeasts n a l → IsArranged n a l p → IsCanonicalTree n a p
