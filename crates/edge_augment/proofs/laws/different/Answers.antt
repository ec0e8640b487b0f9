use Rattle.edge_augment.proofs.Different.{different as law}
use Rattle.edge_augment.proofs.laws.different.Goals as goal

pub returns : goal.returns
returns c = law
