use Rattle.std.proofs.Common.{◌∙◌, sym}
use Rattle.rooted_cactus.specs.Trees.{vertices, blocks}
use Rattle.rooted_cactus.proofs.Tallies.{between_spare, between_no, kind_is}
use Rattle.rooted_cactus.proofs.tree.number.is_between.Goals as goal

pub returns-then-is_spare : goal.returns-then-is_spare
returns-then-is_spare c =
    let x = c.args.node.now in
    between_spare (vertices x) (blocks x) c.at.result.now c.is_cycle.result (sym c.is_spare.ensures ∙ c.if-is_spare.true) c.at.ensures (c.is_cycle.ensures ∙ kind_is c.at.result.now)

pub returns-else-is_spare : goal.returns-else-is_spare
returns-else-is_spare c =
    let x = c.args.node.now in
    c.if-is_spare.false ∙ sym (between_no (vertices x) (blocks x) (sym c.is_spare.ensures ∙ c.if-is_spare.false))
