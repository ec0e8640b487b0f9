-- The levels that join the ends now are tied for the edge with its weight.
use Rattle.std.proofs.Common.{◌+◌, arith}
use Rattle.forest_contraction.proofs.Levels.{HaveJoined, over-joined}
use Rattle.forest_contraction.proofs.Tied.{forests-more, forests-stay}
use Rattle.forest_contraction.proofs.forests.put_edge.Goals as goal

pub returns-then-room-eq0-clause-forests : goal.returns-then-room-eq0-clause-forests
returns-then-room-eq0-clause-forests c = λ es forests joined. forests-stay es c.args.step c.args.edge c.args.levels.now forests

pub returns-clause-over : goal.returns-clause-over
returns-clause-over c = λ size over.
    let so = c.join_levels.ensures in
    over-joined size c.args.levels.now c.join_levels.new.levels c.args.joined (c.args.joined + c.min-count.result) c.args.edge.u c.args.edge.v (record { count = so.count; inside = so.inside; outside = so.outside }) over

pub returns-clause-forests : goal.returns-clause-forests
returns-clause-forests c = λ es forests joined.
    let so = c.join_levels.ensures in
    let have : HaveJoined c.args.levels.now c.join_levels.new.levels c.args.joined (c.args.joined + c.min-count.result) c.args.edge.u c.args.edge.v = record { count = so.count; inside = so.inside; outside = so.outside } in
    forests-more es c.args.step c.args.joined (c.args.joined + c.min-count.result) c.args.edge c.args.levels.now c.join_levels.new.levels c.requires.positive forests c.requires.within joined have
    (omega (arith, c.min-count.ensures))
