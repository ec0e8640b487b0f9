use Rattle.std.proofs.Common.{◌-◌, length, sym, arith, ◌∙◌}
use Rattle.component_cuts.proofs.Rows.{left_has, row_back, choosing_start, choosing_skip, choosing_take, choosing_end}
use Rattle.component_cuts.proofs.sums.choose.Goals as goal

pub loop-row-init : goal.loop-row-init
loop-row-init c =
    choosing_start c.args.weights.now c.args.width (length c.args.weights.now - 2) c.args.sum c.args.table.now c.in_ok-chosen.chosen.items c.in_ok-chosen.ensures.long c.in_ok-chosen.ensures.none c.requires.sum c.requires.made

pub makes-requires-clause-row : goal.makes-requires-clause-row
makes-requires-clause-row c = row_back c.args.width c.loop-row.row (length c.args.weights.now - 2) c.args.table.now.vertices c.loop-row.invariant.row_within c.requires.vertices

pub overflow_cast-left : goal.overflow_cast-left
overflow_cast-left c =
    let has_it = left_has c.args.weights.now c.args.width (length c.args.weights.now - 2) c.args.sum c.args.table.now c.loop-row.row c.loop-row.left c.loop-row.chosen.items c.requires.rows c.loop-row.invariant c.loop-row-test.true (sym c.makes.ensures ∙ c.if-not-makes.true) in
    omega (arith, has_it.0, c.loop-row.invariant.left_within, c.ranges)

pub overflow_sub-left : goal.overflow_sub-left
overflow_sub-left c =
    (left_has c.args.weights.now c.args.width (length c.args.weights.now - 2) c.args.sum c.args.table.now c.loop-row.row c.loop-row.left c.loop-row.chosen.items c.requires.rows c.loop-row.invariant c.loop-row-test.true (sym c.makes.ensures ∙ c.if-not-makes.true)).0

pub loop-row-preserved-then-not-makes : goal.loop-row-preserved-then-not-makes
loop-row-preserved-then-not-makes c =
    choosing_take c.args.weights.now c.args.width (length c.args.weights.now - 2) c.args.sum c.args.table.now c.loop-row.row c.loop-row.left c.loop-row.chosen.items (omega (arith, c.requires.some)) c.requires.rows
    c.loop-row.invariant c.loop-row-test.true (sym c.makes.ensures ∙ c.if-not-makes.true)

pub loop-row-preserved : goal.loop-row-preserved
loop-row-preserved c =
    choosing_skip c.args.weights.now c.args.width (length c.args.weights.now - 2) c.args.sum c.args.table.now c.loop-row.row c.loop-row.left c.loop-row.chosen.items c.loop-row.invariant c.loop-row-test.true
    (sym c.makes.ensures ∙ c.if-not-makes.false)

pub returns-clause-sum : goal.returns-clause-sum
returns-clause-sum c =
    choosing_end c.args.weights.now c.args.width (length c.args.weights.now - 2) c.args.sum c.args.table.now c.loop-row.row c.loop-row.left c.loop-row.chosen.items c.loop-row.invariant
    (omega (arith, c.loop-row-test.false))
