use Rattle.edge_augment.proofs.Different.{several as law}
use Rattle.edge_augment.proofs.laws.several.Goals as goal

pub returns : goal.returns
returns c = law
