use Rattle.std.proofs.Common.{◌+◌, cond}
use Rattle.cut_definitions.specs.Cuts.{value}
use Rattle.forest_contraction.specs.Left.{IsLesser}
use Rattle.min_value.proofs.rounds.value_by_rounds.Given as goal

abbrev pub invariant-rounds : goal.invariant-rounds
invariant-rounds g l = IsLesser (value l.graph) l.best l.small

abbrev pub decreases-rounds : goal.decreases-rounds
decreases-rounds g l = cond l.shrinks (l.small.vertices + 1) 0
