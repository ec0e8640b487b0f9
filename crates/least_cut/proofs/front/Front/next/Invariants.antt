-- All vertices so far have entered.
use Rattle.std.proofs.Common.{◌≡◌, ◌+◌, ◌-◌}
use Rattle.least_cut.specs.Front.{IsLaidOut, IsPassed}
use Rattle.least_cut.proofs.front.Front.next.Given as goal

abbrev pub invariant-loop-self : goal.invariant-loop-self
invariant-loop-self l = record {
  laid_out : IsLaidOut l.self-inside.n l.self-inside.stack.items l.self-inside.put.items l.self-inside.count l.self-inside.busy;
  vertices : l.self-inside.n ≡ l.fn.self.vertices;
  passed : IsPassed l.flow.labels l.self-inside.passed;
}

abbrev pub decreases-loop-self : goal.decreases-loop-self
decreases-loop-self l = l.self-inside.n + 1 - l.self-inside.passed
