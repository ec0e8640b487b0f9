use Rattle.std.proofs.Common.{◌≡◌, ◌≤◌, ◌+◌, ◌++◌, length, drop, map}
use Rattle.std.specs.List.{flat_map}
use Rattle.rooted_cactus.specs.Trees.{blocks_in}
use Rattle.rooted_cactus.specs.Outlines.{block_outline, block_entries, all_outlines}
use Rattle.rooted_cactus.specs.Heads.{entries_waiting}
use Rattle.rooted_cactus.proofs.tree.outline.stack_blocks.Given as goal

abbrev pub invariant-back : goal.invariant-back
invariant-back l = record {
  within : l.i ≤ length (blocks_in l.blocks);
  length : length l.stack.items ≡ length l.initial.stack.items + length (all_outlines (map block_outline (drop l.i (blocks_in l.blocks))));
  entries : entries_waiting l.stack.items ≡ flat_map block_entries (map block_outline (drop l.i (blocks_in l.blocks))) ++ entries_waiting l.initial.stack.items;
}

abbrev pub decreases-back : goal.decreases-back
decreases-back l = l.i
