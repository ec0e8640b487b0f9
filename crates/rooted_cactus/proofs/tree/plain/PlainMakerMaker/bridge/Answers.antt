use Rattle.rooted_cactus.proofs.Stands.{bridge_reads}
use Rattle.rooted_cactus.proofs.tree.plain.PlainMakerMaker.bridge.Goals as goal

pub returns : goal.returns
returns c = λ sets r h. bridge_reads sets r c.args.node c.bridge_to.result c.bridge_to.ensures h
