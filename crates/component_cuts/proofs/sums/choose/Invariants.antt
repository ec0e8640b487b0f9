use Rattle.std.proofs.Common.{◌-◌, length}
use Rattle.component_cuts.proofs.Rows.{IsChoosing}
use Rattle.component_cuts.proofs.sums.choose.Given as goal

abbrev pub invariant-loop-row : goal.invariant-loop-row
invariant-loop-row l = IsChoosing l.weights l.width (length l.weights - 2) l.fn.sum l.table l.row l.left l.chosen.items

abbrev pub decreases-loop-row : goal.decreases-loop-row
decreases-loop-row l = l.row
