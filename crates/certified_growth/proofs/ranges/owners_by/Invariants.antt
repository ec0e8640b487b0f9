use Rattle.std.proofs.Common.{◌≡◌, ◌+◌, ◌<◌, length}
use Rattle.std.specs.List.{All}
use Rattle.certified_growth.proofs.ranges.owners_by.Given as goal

abbrev pub invariant-loop-before : goal.invariant-loop-before
invariant-loop-before l = (length l.owners.items ≡ l.before + 1) × All (λ own. own < l.ranges.count) l.owners.items
