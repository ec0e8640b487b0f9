use Rattle.std.proofs.Common.{◌++◌, ap, ◌∙◌}
use Rattle.rooted_cactus.specs.Outlines.{block_sizes}
use Rattle.rooted_cactus.proofs.SizesOut.{sizes_cycle}
use Rattle.flat_cactus.proofs.flattening.enter_block.Goals as goal

pub add_cycle-requires : goal.add_cycle-requires
add_cycle-requires c = (c.requires.0, c.requires.1 ∙ ap (λ l. l ++ c.requires.0) (ap block_sizes c.in-Cycle.is ∙ sizes_cycle c.in-Cycle.nodes))
