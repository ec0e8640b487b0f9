use Rattle.std.proofs.Common.{refl}
use Rattle.canonical_cactus.proofs.Spared.{hung_shows}
use Rattle.canonical_cactus.proofs.parts.hang_in.Goals as goal

pub returns : goal.returns
returns c = λ r h. hung_shows r c.args.placed _ refl c.hung-block.ensures.spare c.hung-block.ensures.bridge h
