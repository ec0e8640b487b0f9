use Rattle.rooted_cactus.specs.Entries.{top_first}
use Rattle.rooted_cactus.proofs.Stands.{cycle_shows}
use Rattle.rooted_cactus.proofs.tree.trimming.TrimmingMakerMaker.cycle.Goals as goal

pub returns : goal.returns
returns c = λ sets rs h. cycle_shows rs (top_first c.args.nodes.items) c.in_ok-children.children c.in_ok-children.ensures h
