use Rattle.rooted_cactus.proofs.Stands.{hung_shows}
use Rattle.rooted_cactus.proofs.tree.trimming.TrimmingMakerMaker.bridge.Goals as goal

pub returns : goal.returns
returns c = λ sets r h. hung_shows r c.args.node c.hung.result c.hung.ensures.spare c.hung.ensures.bridge h
