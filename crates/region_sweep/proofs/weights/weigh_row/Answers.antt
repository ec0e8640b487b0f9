-- Each arc is one of the row, and what was added so far is within what the whole row adds.
use Rattle.std.proofs.Common.{◌+◌, get_or, arith}
use Rattle.std.proofs.lemmas.List.Sums.{sum_by_more, sum_by_more_le}
use Rattle.cut_definitions.specs.Chain.{one_part}
use Rattle.weighted_graph.specs.Rows.{no_arc}
use Rattle.weighted_graph.proofs.Searched.{arc_within}
use Rattle.weighted_graph.proofs.RowLaws.{row_arc}
use Rattle.region_flow.specs.Parted.{later_parts}
use Rattle.arc_search.specs.Searched.{is_listed}
use Rattle.region_fronts.specs.Listed.{part_in}
use Rattle.node_tree.specs.Weighed.{arc_adds}
use Rattle.region_sweep.proofs.weights.weigh_row.Goals as goal

pub weigh_arc-requires-clause-end : goal.weigh_arc-requires-clause-end
weigh_arc-requires-clause-end c =
    let g = c.args.parted.graph.now in
    let k = c.loop-arc.arc-index in
    let row = c.row-row.result.now in
    let within = arc_within g c.row-row.ensures.edge_list.is_graph c.args.v (get_or row k no_arc) (row_arc g row c.args.v k c.row-row.ensures.value c.loop-arc-test.true) in
    omega (arith, within.1, c.requires.labels)

pub weigh_arc-requires-clause-fits_later : goal.weigh_arc-requires-clause-fits_later
weigh_arc-requires-clause-fits_later c = λ i l.
    let part = part_in c.args.parted.parts.now c.args.flow.now.labels c.args.parted.region in
    let adds = arc_adds (is_listed c.args.parted.parts.now.numbers) (one_part part i) (later_parts part (i + 1)) c.args.v in
    let whole = rw (← c.row-row.ensures.value) at (c.requires.fits_later i l) in
    let more = sum_by_more_le adds c.row-row.result.now c.loop-arc.arc-index no_arc c.loop-arc-test.true in
    omega (arith, c.loop-arc.invariant.later i, more, whole)

pub weigh_arc-requires-clause-fits_next : goal.weigh_arc-requires-clause-fits_next
weigh_arc-requires-clause-fits_next c = λ i l.
    let part = part_in c.args.parted.parts.now c.args.flow.now.labels c.args.parted.region in
    let adds = arc_adds (is_listed c.args.parted.parts.now.numbers) (one_part part i) (one_part part (i + 1)) c.args.v in
    let whole = rw (← c.row-row.ensures.value) at (c.requires.fits_next i l) in
    let more = sum_by_more_le adds c.row-row.result.now c.loop-arc.arc-index no_arc c.loop-arc-test.true in
    omega (arith, c.loop-arc.invariant.next i, more, whole)

pub loop-arc-preserved : goal.loop-arc-preserved
loop-arc-preserved c =
    let part = part_in c.args.parted.parts.now c.args.flow.now.labels c.args.parted.region in
    let listed = is_listed c.args.parted.parts.now.numbers in
    let row = c.row-row.result.now in
    let k = c.loop-arc.arc-index in
    let inv = c.loop-arc.invariant in
    let step = c.weigh_arc.ensures in
    record {
      later = λ i. omega (arith, inv.later i, step.later i, sum_by_more (arc_adds listed (one_part part i) (later_parts part (i + 1)) c.args.v) row k no_arc c.loop-arc-test.true);
      next = λ i. omega (arith, inv.next i, step.next i, sum_by_more (arc_adds listed (one_part part i) (one_part part (i + 1)) c.args.v) row k no_arc c.loop-arc-test.true);
    }

pub loop-arc-init : goal.loop-arc-init
loop-arc-init c = record { later = λ i. omega arith; next = λ i. omega arith }

pub weigh_arc-requires-clause-labels : goal.weigh_arc-requires-clause-labels
weigh_arc-requires-clause-labels c = omega (arith, c.requires.labels, c.requires.listed.numbers_length)

pub weigh_arc-requires-clause-listed : goal.weigh_arc-requires-clause-listed
weigh_arc-requires-clause-listed c = c.requires.here

pub weigh_arc-requires-clause-later : goal.weigh_arc-requires-clause-later
weigh_arc-requires-clause-later c = omega (arith, c.requires.later, c.loop-arc.auto.later)

pub weigh_arc-requires-clause-next : goal.weigh_arc-requires-clause-next
weigh_arc-requires-clause-next c = omega (arith, c.requires.next, c.loop-arc.auto.next)
