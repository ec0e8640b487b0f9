use Rattle.std.proofs.Common.{length}
use Rattle.rooted_cactus.specs.Trees.{blocks_in}
use Rattle.rooted_cactus.specs.Entries.{top_first}
use Rattle.rooted_cactus.proofs.Entries.{Shedding}
use Rattle.rooted_cactus.proofs.tree.entries.shed_blocks.Given as goal

abbrev pub invariant-back : goal.invariant-back
invariant-back l = Shedding l.leaves_stay (blocks_in l.fn.blocks) (blocks_in l.blocks) (top_first l.joints.items) (top_first l.initial.stack.items) (top_first l.stack.items)

abbrev pub decreases-back : goal.decreases-back
decreases-back l = length (blocks_in l.blocks)
