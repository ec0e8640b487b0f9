-- What a finished part of a tree shows of the part that it stands for: the same vertices below it and the same cuts. No node can
-- be spared, no cycle has three nodes, and all is in order.
use Rattle.std.specs.Prelude.{ℕ, ◌≡◌, ◌≤◌, Bool, true, false, cond, nat_lt, List, [], ◌∷◌}
use Rattle.cut_definitions.specs.Weight.{VertexSet}
use Rattle.rooted_cactus.specs.declared.tree.Node.{Node}
use Rattle.rooted_cactus.specs.declared.tree.Block.{Block}
use Rattle.rooted_cactus.specs.Entries.{Read, top_first}
use Rattle.rooted_cactus.specs.Trims as Trims
use Rattle.rooted_cactus.specs.Trims.{Each, count_with}
use Rattle.canonical_cactus.specs.Canonical.{arranged, arranged_block}
use Rattle.canonical_cactus.specs.Standing.{least_in, or_zero}
use Rattle.canonical_cactus.specs.declared.parts.Placed.{Placed}
use Rattle.canonical_cactus.specs.declared.parts.Hung.{Hung}

-- no vertex is in two of the lists
abbrev pub AreApart : List (List ℕ) → Type 0
AreApart ls = (v : ℕ) → count_with v ls ≤ 1

-- a node, a child of a cycle, or a block shows what it was read from, trimmed, and all in it is in order
pub record ShowsNode (r : Read) (x : Node) : Type 0 where
  pub normal : Trims.ShowsNode r x
  pub in_order : (arranged x).in_order ≡ true

pub record ShowsChild (r : Read) (x : Node) : Type 0 where
  pub normal : Trims.ShowsChild r x
  pub in_order : (arranged x).in_order ≡ true

pub record ShowsBlock (r : Read) (b : Block) : Type 0 where
  pub normal : Trims.ShowsBlock r b
  pub in_order : (arranged_block b).in_order ≡ true

-- none of these cuts is empty, each cycle has two or more children, and no vertex is in two nodes
pub record IsGood (sets : List VertexSet) (r : Read) : Type 0 where
  pub normal : Trims.IsGood sets r.counts
  pub apart : AreApart r.lists

-- a finished node, child of a cycle, or block: its least vertex, and what it shows of what is good
pub record IsNodeOf (r : Read) (p : Placed) : Type 0 where
  pub least : p.least ≡ least_in (arranged p.node).vertices
  pub shows : IsGood (r.part.below ∷ r.part.cuts) r → ShowsNode r p.node

pub record IsChildOf (r : Read) (p : Placed) : Type 0 where
  pub least : p.least ≡ least_in (arranged p.node).vertices
  pub shows : IsGood (r.part.below ∷ r.part.cuts) r → ShowsChild r p.node

pub record IsBlockOf (r : Read) (h : Hung) : Type 0 where
  pub least : h.least ≡ least_in (arranged_block h.block).vertices
  pub shows : IsGood r.part.cuts r → ShowsBlock r h.block

-- several nodes, children of a cycle, or blocks show several parts, one by one
abbrev pub AreNodesOf : List Read → List Placed → Type 0
AreNodesOf = Each IsNodeOf

abbrev pub AreChildrenOf : List Read → List Placed → Type 0
AreChildrenOf = Each IsChildOf

abbrev pub AreBlocksOf : List Read → List Hung → Type 0
AreBlocksOf = Each IsBlockOf

-- the number by which blocks are sorted
abbrev pub key_of : Hung → ℕ
key_of h = or_zero h.least

-- the last of a list that begins with an element
abbrev pub last_of : {X : Type 0} → X → List X → X
last_of x [] = x
last_of x (y ∷ ys) = last_of y ys

-- the least vertex at or under the first node is less than that at or under the last
abbrev pub ends_rise : List Placed → Bool
ends_rise [] = false
ends_rise (p ∷ ps) = nat_lt (or_zero p.least) (or_zero (last_of p ps).least)

-- the nodes in the order in which they are closed; the last is first if the ends do not rise
abbrev pub faced : List Placed → List Placed
faced ps = cond (ends_rise ps) ps (top_first ps)
