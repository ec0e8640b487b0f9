use Rattle.std.proofs.Common.{refl}
use Rattle.rooted_cactus.proofs.Stands.{bridge_is}
use Rattle.rooted_cactus.proofs.tree.spare.bridge_to.Goals as goal

pub returns : goal.returns
returns c = bridge_is _ c.args.node _ refl refl
