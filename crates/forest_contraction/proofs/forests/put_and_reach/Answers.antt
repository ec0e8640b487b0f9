-- The levels that joined the ends before join them still, with other parents.
use Rattle.std.proofs.Common.{arith}
use Rattle.forest_contraction.proofs.Levels.{over-same, joined_after}
use Rattle.forest_contraction.proofs.Tied.{forests-same, has_reach}
use Rattle.forest_contraction.proofs.forests.put_and_reach.Goals as goal

pub returns-clause-over : goal.returns-clause-over
returns-clause-over c = λ size over.
    c.put_edge.ensures.over size (over-same size c.args.levels.now c.count_joined-joined.new.levels c.count_joined-joined.ensures.same over)

pub returns-clause-forests : goal.returns-clause-forests
returns-clause-forests c = λ es forests.
    let old = c.args.levels.now in
    let mid = c.count_joined-joined.new.levels in
    let same = c.count_joined-joined.ensures.same in
    c.put_edge.ensures.forests es (forests-same es c.args.step old mid same forests)
    (λ l is. joined_after old mid l c.args.edge.u c.args.edge.v same (omega (arith, c.count_joined-joined.ensures.within)) (c.count_joined-joined.ensures.joined l is))

pub returns-clause-reach : goal.returns-clause-reach
returns-clause-reach c = has_reach c.args.step c.count_joined-joined.result c.args.edge c.args.levels.now c.count_joined-joined.ensures.within c.count_joined-joined.ensures.joined
