use Rattle.flat_cactus.proofs.FlatShapes.{flat_order}
use Rattle.flat_cactus.proofs.laws.flat_order.Goals as goal

pub returns : goal.returns
returns c = flat_order
