use Rattle.std.proofs.Common.{◌∙◌, not, ap, sym}
use Rattle.rooted_cactus.specs.Trees.{vertices, blocks}
use Rattle.rooted_cactus.proofs.Makes.{above_first}
use Rattle.rooted_cactus.proofs.tree.spare.is_above_a_bridge.Goals as goal

pub returns-then-is_spare : goal.returns-then-is_spare
returns-then-is_spare c =
    let x = c.args.node.now in
    above_first (vertices x) (blocks x) c.at.result.now (not c.is_cycle.result) (sym c.is_spare.ensures ∙ c.if-is_spare.true) c.at.ensures (ap not c.is_cycle.ensures)
