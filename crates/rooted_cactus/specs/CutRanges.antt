-- The cuts of a tree as ranges of its nodes, which are numbered in the order of entering.
use Rattle.std.specs.Prelude.{ℕ, ◌+◌, ◌≤◌, ◌<◌, List, [], ◌∷◌, ◌++◌, map, take, drop}
use Rattle.rooted_cactus.specs.declared.tree.Node.{Node}
use Rattle.rooted_cactus.specs.declared.tree.Block.{Block}
use Rattle.rooted_cactus.specs.declared.tree.Block.TheOpen.{Block-F, Blocks-F, Children-F, Node-F, Bridge, Cycle}
use Rattle.rooted_cactus.specs.declared.tree.Block.TheFolds.{fold-Node, fold-Block}

-- the numbers from `from` on that are below `to`
pub record Range : Type 0 where
  pub from : ℕ
  pub to : ℕ

-- a nonempty range of numbers from `low` on that are below `high`
pub record IsRangeWithin (low high : ℕ) (r : Range) : Type 0 where
  pub from_low : low ≤ r.from
  pub some : r.from < r.to
  pub to_high : r.to ≤ high

-- the elements of a list at the places of a range
abbrev pub elements_at : {X : Type 0} → List X → Range → List X
elements_at xs r = drop r.from (take r.to xs)

-- a part of a tree: how many nodes it has, and the ranges of its cuts if its first node has the given number
pub record Layout : Type 0 where
  pub size : ℕ
  pub ranges : ℕ → List Range

abbrev pub sizes_in : List Layout → List ℕ
sizes_in = map (λ (p : Layout). p.size)

-- the ranges that begin at one number and end at another, or after each number of the parts that follow there
abbrev pub ranges_from : ℕ → ℕ → List ℕ → List Range
ranges_from from to [] = record { from = from; to = to } ∷ []
ranges_from from to (size ∷ sizes) = record { from = from; to = to } ∷ ranges_from from (to + size) sizes

-- the ranges of the nonempty intervals of parts side by side
abbrev pub interval_ranges : List ℕ → ℕ → List Range
interval_ranges [] k = []
interval_ranges (size ∷ sizes) k = ranges_from k (k + size) sizes ++ interval_ranges sizes (k + size)

-- parts side by side: the number of their nodes, and the ranges of the cuts of each
abbrev pub size_along : List Layout → ℕ
size_along [] = 0
size_along (p ∷ ps) = p.size + size_along ps

abbrev pub ranges_along : List Layout → ℕ → List Range
ranges_along [] k = []
ranges_along (p ∷ ps) k = p.ranges k ++ ranges_along ps (k + p.size)

abbrev pub side_by_side : List Layout → Layout
side_by_side ps = record { size = size_along ps; ranges = ranges_along ps }

-- a bridge cuts off all nodes below it
abbrev pub bridge_layout : Layout → Layout
bridge_layout p = record { size = p.size; ranges = λ k. record { from = k; to = k + p.size } ∷ p.ranges k }

-- a cycle cuts off each interval of its parts
abbrev pub cycle_layout : List Layout → Layout
cycle_layout ps = record { size = size_along ps; ranges = λ k. interval_ranges (sizes_in ps) k ++ ranges_along ps k }

-- a node has the first number, and what is below it those that follow
abbrev pub node_layout : Layout → Layout
node_layout p = record { size = p.size + 1; ranges = λ k. p.ranges (k + 1) }

abbrev pub block_layout_step : Block-F Layout Layout (List Layout) Layout → Layout
block_layout_step (Bridge child) = bridge_layout child.value
block_layout_step (Cycle nodes) = cycle_layout nodes

abbrev pub blocks_layout_step : Blocks-F Layout Layout (List Layout) Layout → Layout
blocks_layout_step b = side_by_side b.items.items

abbrev pub children_layout_step : Children-F Layout Layout (List Layout) Layout → List Layout
children_layout_step c = c.items.items

abbrev pub node_layout_step : Node-F Layout Layout (List Layout) Layout → Layout
node_layout_step x = node_layout x.blocks

unfoldable pub layout : Node → Layout
layout = fold-Node Layout Layout (List Layout) Layout block_layout_step blocks_layout_step children_layout_step node_layout_step

unfoldable pub block_layout : Block → Layout
block_layout = fold-Block Layout Layout (List Layout) Layout block_layout_step blocks_layout_step children_layout_step node_layout_step

-- the number of the nodes of a tree
abbrev pub size_of : Node → ℕ
size_of x = (layout x).size

-- for each cut of a tree, in its order, the numbers of the nodes that it cuts off if the root has the number k
abbrev pub cut_ranges : Node → ℕ → List Range
cut_ranges x k = (layout x).ranges k
