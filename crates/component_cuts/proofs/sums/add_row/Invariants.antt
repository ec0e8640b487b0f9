use Rattle.component_cuts.proofs.Rows.{IsAdding}
use Rattle.component_cuts.proofs.sums.add_row.Given as goal

abbrev pub invariant-loop-sum : goal.invariant-loop-sum
invariant-loop-sum l = IsAdding l.initial.table l.table l.width l.row l.weight l.sum
