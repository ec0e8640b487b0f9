use Rattle.std.specs.List.{All}
use Rattle.certified_growth.specs.GrownSets.{IsSetNamed}
use Rattle.certified_growth.proofs.ranges.shares_by.Given as goal

abbrev pub invariant-loop-before : goal.invariant-loop-before
invariant-loop-before l = All (IsSetNamed l.graph l.owners) l.shares.items
