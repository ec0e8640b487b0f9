use Rattle.rooted_cactus.specs.Trees.{vertices}
use Rattle.rooted_cactus.proofs.Stands.{leaf_shows}
use Rattle.rooted_cactus.proofs.tree.trimming.TrimmingMakerMaker.leaf.Goals as goal

pub returns : goal.returns
returns c = λ sets are.
    let leaf = c.leaf_bridge.ensures in
    leaf_shows sets (vertices c.args.place.value) leaf.0 are leaf.2 c.leaf_bridge.result leaf.1 leaf.3
