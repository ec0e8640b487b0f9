use Rattle.std.proofs.Common.{◌∙◌}
use Rattle.rooted_cactus.proofs.tree.outline.subtree_sizes.Goals as goal

pub sizes_along-requires : goal.sizes_along-requires
sizes_along-requires c = (c.args.root.now, c.deref.ensures.value ∙ c.in_ok-entries.ensures)
