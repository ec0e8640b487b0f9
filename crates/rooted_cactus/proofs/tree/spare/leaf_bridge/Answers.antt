use Rattle.std.proofs.Common.{ap, refl}
use Rattle.rooted_cactus.specs.Trees.{vertices}
use Rattle.rooted_cactus.proofs.Stands.{bridge_is}
use Rattle.rooted_cactus.proofs.tree.spare.leaf_bridge.Goals as goal

pub returns : goal.returns
returns c = (_, bridge_is _ _ _ refl refl, ap vertices c.deref_mut.ensures.value, c.new.ensures)
