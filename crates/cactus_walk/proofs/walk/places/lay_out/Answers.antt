use Rattle.std.proofs.Common.{◌∙◌}
use Rattle.cactus_walk.proofs.walk.places.lay_out.Goals as goal

pub sizes_along-requires : goal.sizes_along-requires
sizes_along-requires c = (c.root-root.result.now, c.deref.ensures.value ∙ c.in_ok-entries.ensures)
