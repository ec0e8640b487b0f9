use Rattle.flat_cactus.proofs.FlatShapes.{flat_form}
use Rattle.flat_cactus.proofs.laws.flat_form.Goals as goal

pub returns : goal.returns
returns c = flat_form
