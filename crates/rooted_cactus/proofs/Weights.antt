-- How much of a tree is left to take apart: its nodes and its blocks.
use Rattle.std.proofs.Common.{◌≡◌, ℕ, ◌+◌, ◌<◌, ◌≤◌, Bool, true, false, if◌then◌else◌, List, [], ◌∷◌, ◌++◌, map, ap, ◌∙◌, sym, arith}
use Rattle.rooted_cactus.specs.Trees.{blocks, nodes_in}
use Rattle.std.specs.declared.boxed.Box.{Box}
use Rattle.std.specs.declared.alloc.Global.{Global}
use Rattle.rooted_cactus.specs.declared.tree.Node.{Node, out-Node}
use Rattle.rooted_cactus.specs.declared.tree.Block.{Block}
use Rattle.rooted_cactus.specs.declared.tree.Children.{Children}
use Rattle.rooted_cactus.specs.declared.tree.Block.TheVariants.{Bridge, Cycle, rolls-Bridge, rolls-Cycle}
use Rattle.rooted_cactus.specs.declared.tree.Block.TheOpen as Open
use Rattle.rooted_cactus.specs.declared.tree.Block.TheOpen.{Block-F, Blocks-F, Children-F, Node-F}
use Rattle.rooted_cactus.specs.declared.tree.Block.TheFolds.{fold_out-Node, fold_out-Blocks, fold_out-Children, fold-roll-Block, fold-Block, fold-Node}

-- the sum of a list
abbrev pub sum_of : List ℕ → ℕ
sum_of [] = 0
sum_of (n ∷ ns) = n + sum_of ns

abbrev block_step : Block-F ℕ ℕ ℕ ℕ → ℕ
block_step (Open.Bridge child) = child.value + 1
block_step (Open.Cycle nodes) = nodes + 1

abbrev blocks_step : Blocks-F ℕ ℕ ℕ ℕ → ℕ
blocks_step b = sum_of b.items.items

abbrev children_step : Children-F ℕ ℕ ℕ ℕ → ℕ
children_step c = sum_of c.items.items

abbrev node_step : Node-F ℕ ℕ ℕ ℕ → ℕ
node_step x = x.blocks + 1

pub node_weight : Node → ℕ
node_weight = fold-Node ℕ ℕ ℕ ℕ block_step blocks_step children_step node_step

pub block_weight : Block → ℕ
block_weight = fold-Block ℕ ℕ ℕ ℕ block_step blocks_step children_step node_step

abbrev pub blocks_weight : List Block → ℕ
blocks_weight bs = sum_of (map block_weight bs)

abbrev pub nodes_weight : List Node → ℕ
nodes_weight xs = sum_of (map node_weight xs)

pub node_weight_out : (x : Node) → node_weight x ≡ blocks_weight (blocks x) + 1
unfolding node_weight block_weight
node_weight_out x = fold_out-Node ℕ ℕ ℕ ℕ block_step blocks_step children_step node_step x
    ∙ ap (λ n. n + 1) (fold_out-Blocks ℕ ℕ ℕ ℕ block_step blocks_step children_step node_step (out-Node x).blocks)

pub block_weight_bridge : (child : Box Node Global) → block_weight (Bridge child) ≡ node_weight child.value + 1
unfolding node_weight block_weight
block_weight_bridge child = ap (fold-Block ℕ ℕ ℕ ℕ block_step blocks_step children_step node_step) (sym (rolls-Bridge child))
    ∙ fold-roll-Block ℕ ℕ ℕ ℕ block_step blocks_step children_step node_step (Open.Bridge child)

pub block_weight_cycle : (nodes : Children) → block_weight (Cycle nodes) ≡ nodes_weight (nodes_in nodes) + 1
unfolding node_weight block_weight
block_weight_cycle nodes = ap (fold-Block ℕ ℕ ℕ ℕ block_step blocks_step children_step node_step) (sym (rolls-Cycle nodes))
    ∙ fold-roll-Block ℕ ℕ ℕ ℕ block_step blocks_step children_step node_step (Open.Cycle nodes)
    ∙ ap (λ n. n + 1) (fold_out-Children ℕ ℕ ℕ ℕ block_step blocks_step children_step node_step nodes)

pub blocks_weight_append : (xs ys : List Block) → blocks_weight (xs ++ ys) ≡ blocks_weight xs + blocks_weight ys
blocks_weight_append [] ys = omega arith
blocks_weight_append (x ∷ xs) ys = omega (arith, blocks_weight_append xs ys)

pub nodes_weight_append : (xs ys : List Node) → nodes_weight (xs ++ ys) ≡ nodes_weight xs + nodes_weight ys
nodes_weight_append [] ys = omega arith
nodes_weight_append (x ∷ xs) ys = omega (arith, nodes_weight_append xs ys)

-- blocks that were moved behind others, or not, for want of memory
pub moved_weight : (r : Bool) (moved xs ys : List Block) → moved ≡ (if r then xs ++ ys else xs) → blocks_weight moved ≤ blocks_weight xs + blocks_weight ys
moved_weight true moved xs ys e = omega (arith, ap blocks_weight e, blocks_weight_append xs ys)
moved_weight false moved xs ys e = omega (arith, ap blocks_weight e)

-- a bridge is taken off the list, and what is below its node put there
pub bridge_step : (r : Bool) (before left moved : List Block) (block : Block) (child : Box Node Global) (node : Node) → before ≡ left ++ block ∷ [] → block ≡ Bridge child → node ≡ child.value → moved ≡ (if r then left ++ blocks node else left) → blocks_weight moved < blocks_weight before
bridge_step r before left moved block child node popped is inner m =
    omega (arith, ap blocks_weight popped, blocks_weight_append left (block ∷ []), ap block_weight is, block_weight_bridge child, ap node_weight inner, node_weight_out node, moved_weight r moved left (blocks node) m)

-- a node of a cycle is taken off, and what is below it put into the list
pub node_step_less : (r : Bool) (before moved : List Block) (nodes left : List Node) (node : Node) → nodes ≡ left ++ node ∷ [] → moved ≡ (if r then before ++ blocks node else before) → blocks_weight moved + nodes_weight left ≤ blocks_weight before + nodes_weight nodes
node_step_less r before moved nodes left node popped m =
    omega (arith, ap nodes_weight popped, nodes_weight_append left (node ∷ []), node_weight_out node, moved_weight r moved before (blocks node) m)

-- a cycle is taken off the list
pub cycle_step : (before left moved : List Block) (block : Block) (nodes : Children) (rest : List Node) → before ≡ left ++ block ∷ [] → block ≡ Cycle nodes → blocks_weight moved + nodes_weight rest ≤ blocks_weight left + nodes_weight (nodes_in nodes) → blocks_weight moved < blocks_weight before
cycle_step before left moved block nodes rest popped is h =
    omega (arith, ap blocks_weight popped, blocks_weight_append left (block ∷ []), ap block_weight is, block_weight_cycle nodes)
