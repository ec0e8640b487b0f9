use Rattle.std.proofs.Common.{◌≡◌, ◌++◌, List, length}
use Rattle.rooted_cactus.specs.Trees.{blocks_in}
use Rattle.rooted_cactus.specs.declared.tree.Block.{Block}
use Rattle.cactus_growth.specs.Growth.{AreHung}
use Rattle.cactus_growth.proofs.pieces.hang_all.Given as goal

abbrev pub invariant-each_block : goal.invariant-each_block
invariant-each_block l = (done : List Block) × (blocks_in l.initial.blocks ≡ blocks_in l.blocks ++ done) × AreHung l.initial.node done l.node

abbrev pub decreases-each_block : goal.decreases-each_block
decreases-each_block l = length (blocks_in l.blocks)
