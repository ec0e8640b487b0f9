use Rattle.component_cuts.proofs.Rows.{AreFilled}
use Rattle.component_cuts.proofs.sums.fill_rows.Given as goal

abbrev pub invariant-loop-row : goal.invariant-loop-row
invariant-loop-row l = AreFilled l.weights l.width l.rows l.row l.table
