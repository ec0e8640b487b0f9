use Rattle.region_fronts.specs.Beside.{LeadsToNoneBefore}
use Rattle.region_fronts.proofs.fronts.open_beside.Given as goal

abbrev pub invariant-loop-arc : goal.invariant-loop-arc
invariant-loop-arc l = LeadsToNoneBefore l.graph l.labels l.v l.arc-index
