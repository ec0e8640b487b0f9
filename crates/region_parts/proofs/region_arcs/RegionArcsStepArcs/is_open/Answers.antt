-- An arc of a row has its edge, and no arc is heavy.
use Rattle.std.proofs.Common.{arith}
use Rattle.weighted_graph.proofs.Searched.{arc_within}
use Rattle.region_parts.proofs.RegionSteps.{arc_of_row}
use Rattle.region_parts.proofs.region_arcs.RegionArcsStepArcs.is_open.Goals as goal
use Rattle.weighted_graph.proofs.RowLaws.{arc_light}

pub label-requires : goal.label-requires
label-requires c =
    let s = c.args.self.now in
    let at = arc_of_row s.graph.now c.args.v c.args._place c.args.arc c.requires.in_row c.requires.there in
    omega (arith, (arc_within s.graph.now c.requires.can.0 c.args.v c.args.arc at).1, c.requires.can.1.labels_length)

pub amount-requires-clause-edge : goal.amount-requires-clause-edge
amount-requires-clause-edge c =
    let s = c.args.self.now in
    let at = arc_of_row s.graph.now c.args.v c.args._place c.args.arc c.requires.in_row c.requires.there in
    omega (arith, at.within, c.requires.can.1.residual.each)

pub amount-requires-clause-bounded : goal.amount-requires-clause-bounded
amount-requires-clause-bounded c =
    let s = c.args.self.now in
    let at = arc_of_row s.graph.now c.args.v c.args._place c.args.arc c.requires.in_row c.requires.there in
    omega (arith, c.requires.can.1.residual.bounded c.args.arc.edge at.within, at.same_weight)

pub amount-requires-clause-small : goal.amount-requires-clause-small
amount-requires-clause-small c =
    let s = c.args.self.now in
    let at = arc_of_row s.graph.now c.args.v c.args._place c.args.arc c.requires.in_row c.requires.there in
    arc_light s.graph.now c.requires.can.0 c.args.v c.args.arc at
