use Rattle.std.proofs.Common.{◌∙◌, sym}
use Rattle.rooted_cactus.specs.Trees.{blocks_in}
use Rattle.rooted_cactus.specs.Placed.{is_placed}
use Rattle.rooted_cactus.proofs.AllFine.{one_more, one_not}
use Rattle.rooted_cactus.proofs.tree.normal.blocks_are_placed.Goals as goal

pub returns-then-not-block_is_placed : goal.returns-then-not-block_is_placed
returns-then-not-block_is_placed c = sym (one_not is_placed (blocks_in c.args.blocks.now) c.each_block.i c.at.result.now c.at.ensures (sym c.block_is_placed.ensures ∙ c.if-not-block_is_placed.true))

pub each_block-preserved : goal.each_block-preserved
each_block-preserved c = record {
  end = c.each_block.invariant.end;
  so_far = one_more is_placed (blocks_in c.args.blocks.now) c.each_block.i c.at.result.now c.at.ensures (sym c.block_is_placed.ensures ∙ c.if-not-block_is_placed.false) c.each_block.invariant.so_far;
}
