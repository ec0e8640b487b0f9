use Rattle.flat_cactus.proofs.FlatSides.{flat_sides}
use Rattle.flat_cactus.proofs.laws.flat_sides.Goals as goal

pub returns : goal.returns
returns c = flat_sides
