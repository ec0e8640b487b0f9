use Rattle.std.proofs.Common.{◌∙◌, sym}
use Rattle.rooted_cactus.proofs.Trims.{trimmed_is, untrimmed}
use Rattle.rooted_cactus.proofs.tree.spare.trimmed.Goals as goal

pub returns-then-is_above_a_bridge : goal.returns-then-is_above_a_bridge
returns-then-is_above_a_bridge c = sym (trimmed_is c.args.node c.below_bridge.result c.only_block.result (sym c.is_above_a_bridge.ensures ∙ c.if-is_above_a_bridge.true) c.only_block.ensures c.below_bridge.ensures)

pub returns-else-is_above_a_bridge : goal.returns-else-is_above_a_bridge
returns-else-is_above_a_bridge c = sym (untrimmed c.args.node (sym c.is_above_a_bridge.ensures ∙ c.if-is_above_a_bridge.false))
