use Rattle.std.proofs.Common.{ℕ, ◌≤◌, ◌+◌}
use Rattle.std.specs.declared.vec.Vec.{Vec}
use Rattle.std.specs.declared.alloc.Global.{Global}
use Rattle.rooted_cactus.specs.declared.tree.Block.{Block, size-Block}
use Rattle.rooted_cactus.specs.declared.tree.Children.{size-Children}
use Rattle.rooted_cactus.specs.declared.tree.Block.TheShapes.{weighed-Blocks-items}
use Rattle.rooted_cactus.proofs.Weights.{blocks_weight, nodes_weight}
use Rattle.rooted_cactus.specs.Trees.{nodes_in}
use Rattle.rooted_cactus.proofs.+drop.Given as goal

-- how deep the deepest of the blocks is
abbrev pub depth : Vec Block Global → ℕ
depth v = (weighed-Blocks-items).weight Block size-Block v

abbrev pub decreases-tree::Blocks::drop : goal.decreases-tree::Blocks::drop
decreases-tree::Blocks::drop l = goal.size-tree::Blocks::drop l

abbrev pub invariant-tree::Blocks::drop-loop-node : goal.invariant-tree::Blocks::drop-loop-node
invariant-tree::Blocks::drop-loop-node l =
    goal.no_deeper-tree::Blocks::drop-loop-node l × (size-Children l.nodes ≤ depth l.fn.self.items) × (depth l.items ≤ depth l.fn.self.items) × (blocks_weight l.items.items + nodes_weight (nodes_in l.nodes) ≤ blocks_weight l.initial.items.items + nodes_weight (nodes_in l.initial.nodes))

abbrev pub decreases-tree::Blocks::drop-loop-node : goal.decreases-tree::Blocks::drop-loop-node
decreases-tree::Blocks::drop-loop-node l = goal.left-tree::Blocks::drop-loop-node l

abbrev pub invariant-tree::Blocks::drop-loop-block : goal.invariant-tree::Blocks::drop-loop-block
invariant-tree::Blocks::drop-loop-block l = depth l.items ≤ depth l.fn.self.items

abbrev pub decreases-tree::Blocks::drop-loop-block : goal.decreases-tree::Blocks::drop-loop-block
decreases-tree::Blocks::drop-loop-block l = blocks_weight l.items.items
