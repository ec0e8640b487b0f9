-- The number of the cuts of a tree, those counted once that an empty node between two cycles has twice.
use Rattle.std.specs.Prelude.{ℕ, zero, suc, ◌+◌, ◌-◌, Bool, true, false, ◌&&◌, ◌==◌, nat_lt, if◌then◌else◌, List, [], ◌∷◌, length, map}
use Rattle.std.specs.List.{list_all}
use Rattle.std.specs.Borrow.{Bor}
use Rattle.rooted_cactus.specs.Trees.{blocks}
use Rattle.rooted_cactus.specs.Entries.{top_first}
use Rattle.rooted_cactus.specs.declared.tree.Node.{Node}
use Rattle.rooted_cactus.specs.declared.tree.Block.{Block}
use Rattle.rooted_cactus.specs.declared.tree.Block.TheOpen.{Block-F, Blocks-F, Children-F, Node-F, Bridge, Cycle}
use Rattle.rooted_cactus.specs.declared.tree.Block.TheFolds.{fold-Node, fold-Block}

-- the number of the nonempty intervals of m children; a cycle of k nodes has k - 1 children and k (k - 1) / 2
-- intervals
abbrev pub triangle : ℕ → ℕ
triangle zero = 0
triangle (suc m) = suc m + triangle m

-- the sum of a list
abbrev pub total : List ℕ → ℕ
total [] = 0
total (n ∷ ns) = n + total ns

-- a block: whether it is a cycle, the number of its cuts, and the number of those below it
pub record Tally : Type 0 where
  pub is_cycle : Bool
  pub own : ℕ
  pub under : ℕ

-- a node without a vertex above one block, a cycle; below a cycle it lies in exactly two blocks, both cycles
abbrev pub between : List ℕ → List Tally → Bool
between vs bs = (length vs == 0) && ((length bs == 1) && list_all (λ (b : Tally). b.is_cycle) bs)

abbrev pub all_own : List Tally → ℕ
all_own bs = total (map (λ (b : Tally). b.own) bs)

abbrev pub all_under : List Tally → ℕ
all_under bs = total (map (λ (b : Tally). b.under) bs)

-- the number of the cuts of the blocks of a node, less one if it is between two cycles
abbrev pub own_of : List ℕ → List Tally → ℕ
own_of vs bs = all_own bs - (if between vs bs then 1 else 0)

abbrev pub number_of : List ℕ → List Tally → ℕ
number_of vs bs = own_of vs bs + all_under bs

abbrev pub tally_block_step : Block-F Tally (List Tally) (List ℕ) ℕ → Tally
tally_block_step (Bridge child) = record { is_cycle = false; own = 1; under = child.value }
tally_block_step (Cycle nodes) = record { is_cycle = true; own = triangle (length nodes); under = total nodes }

abbrev pub tally_blocks_step : Blocks-F Tally (List Tally) (List ℕ) ℕ → List Tally
tally_blocks_step b = b.items.items

abbrev pub tally_children_step : Children-F Tally (List Tally) (List ℕ) ℕ → List ℕ
tally_children_step c = c.items.items

abbrev pub tally_node_step : Node-F Tally (List Tally) (List ℕ) ℕ → ℕ
tally_node_step x = number_of x.vertices x.blocks

-- one for each bridge, k (k - 1) / 2 for each cycle of k nodes, less one for each empty node above one block, a cycle
unfoldable pub number : Node → ℕ
number = fold-Node Tally (List Tally) (List ℕ) ℕ tally_block_step tally_blocks_step tally_children_step tally_node_step

unfoldable pub tally : Block → Tally
tally = fold-Block Tally (List Tally) (List ℕ) ℕ tally_block_step tally_blocks_step tally_children_step tally_node_step

-- the nodes on a stack
abbrev pub seen : List (Bor Node) → List Node
seen = map (λ (x : Bor Node). x.now)

-- the nodes on a stack, the last first
abbrev pub waiting : List (Bor Node) → List Node
waiting xs = top_first (seen xs)

-- whether a node has a block below it
abbrev pub is_inner : Node → Bool
is_inner x = nat_lt 0 (length (blocks x))
