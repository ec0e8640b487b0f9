use Rattle.edge_augment.proofs.Planned.{raised as law}
use Rattle.edge_augment.proofs.laws.augmentation.Goals as goal

pub returns : goal.returns
returns c = law
