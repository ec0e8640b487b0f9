use Rattle.rooted_cactus.specs.Trees.{vertices}
use Rattle.rooted_cactus.proofs.Stands.{leaf_reads}
use Rattle.rooted_cactus.proofs.tree.plain.PlainMakerMaker.leaf.Goals as goal

pub returns : goal.returns
returns c = λ sets may.
    let leaf = c.leaf_bridge.ensures in
    leaf_reads sets (vertices c.args.place.value) c.leaf_bridge.result leaf.0 leaf.1 leaf.2 leaf.3
