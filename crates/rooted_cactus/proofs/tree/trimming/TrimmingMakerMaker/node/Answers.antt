use Rattle.std.proofs.Common.{sym, subst}
use Rattle.rooted_cactus.specs.Trims.{Each, IsBlockOf}
use Rattle.rooted_cactus.proofs.Stands.{node_shows}
use Rattle.rooted_cactus.proofs.tree.trimming.TrimmingMakerMaker.node.Goals as goal

pub returns-clause-node : goal.returns-clause-node
returns-clause-node c = λ sets rs are h.
    let made = c.node_with.ensures in
    node_shows sets c.args.vertices c.node_with.result are made.vertices rs (subst (Each IsBlockOf rs) (sym made.blocks) h)
