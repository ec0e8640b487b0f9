use Rattle.std.proofs.Common.{◌+◌}
use Rattle.canonical_cactus.proofs.MinTrees.{IsClimb}
use Rattle.canonical_cactus.proofs.minima.Minima.least.Given as goal

abbrev pub invariant-levels : goal.invariant-levels
invariant-levels l = IsClimb l.self (l.self.size + l.fn.span.from) (l.self.size + l.fn.span.to) l.low l.high l.least

abbrev pub decreases-levels : goal.decreases-levels
decreases-levels l = l.high
