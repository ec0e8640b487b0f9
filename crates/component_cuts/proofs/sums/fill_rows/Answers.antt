use Rattle.std.proofs.Common.{◌-◌, length}
use Rattle.component_cuts.proofs.Rows.{filled_start, filled_more}
use Rattle.component_cuts.proofs.sums.fill_rows.Goals as goal

pub loop-row-preserved : goal.loop-row-preserved
loop-row-preserved c =
    filled_more c.args.weights.now c.args.width (length c.args.weights.now - 2) c.loop-row.row c.loop-row.table c.add_row.new.table c.loop-row.invariant c.loop-row-test.true
    c.add_row.ensures.vertices c.add_row.ensures.added c.add_row.ensures.others

pub loop-row-init : goal.loop-row-init
loop-row-init c = filled_start c.args.weights.now c.args.width (length c.args.weights.now - 2) c.in_ok-table.table c.in_ok-table.ensures
