use Rattle.std.proofs.Common.{◌∙◌, ap}
use Rattle.rooted_cactus.specs.declared.tree.Node.{Node}
use Rattle.rooted_cactus.specs.Trees.{vertices}
use Rattle.canonical_cactus.specs.Standing.{least_in}
use Rattle.canonical_cactus.proofs.Draws.{leaf_drawn}
use Rattle.canonical_cactus.proofs.maker.CanonicalMakerMaker.leaf.Goals as goal

pub returns : goal.returns
returns c = λ sets are.
    let leaf = c.leaf_bridge.ensures in
    leaf_drawn sets (vertices c.args.place.value) leaf.0 _ are leaf.1 leaf.2 leaf.3 (c.least_vertex-least.ensures ∙ ap (λ (x : Node). least_in (vertices x)) c.deref.ensures)
