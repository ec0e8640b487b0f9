use Rattle.std.proofs.Common.{arith}
use Rattle.rooted_cactus.specs.Trees.{blocks_in}
use Rattle.rooted_cactus.specs.Numbers.{Tally}
use Rattle.rooted_cactus.proofs.Tallies.{part_step, part_next}
use Rattle.rooted_cactus.proofs.tree.number.cuts_of_blocks.Goals as goal

pub cuts_of_block-count-requires : goal.cuts_of_block-count-requires
cuts_of_block-count-requires c = omega (arith, (part_step (λ (t : Tally). t.own) (blocks_in c.args.blocks.now) c.each_block.i c.at.result.now c.at.ensures).1, c.requires)

pub overflow_add-count : goal.overflow_add-count
overflow_add-count c =
    omega (arith, (part_step (λ (t : Tally). t.own) (blocks_in c.args.blocks.now) c.each_block.i c.at.result.now c.at.ensures).1, c.requires, c.each_block.invariant.count, c.cuts_of_block-count.ensures)

pub each_block-preserved : goal.each_block-preserved
each_block-preserved c = record {
  end = c.each_block.invariant.end;
  count = omega (arith, part_next (λ (t : Tally). t.own) (blocks_in c.args.blocks.now) c.each_block.i c.at.result.now c.at.ensures, c.each_block.invariant.count, c.cuts_of_block-count.ensures);
}
