-- The front keeps its form.
use Rattle.std.proofs.Common.{◌≡◌}
use Rattle.least_cut.specs.Front.{IsLaidOut}
use Rattle.least_cut.proofs.front.Front.pop_busy.Given as goal

abbrev pub invariant-loop-self : goal.invariant-loop-self
invariant-loop-self l = record {
  laid_out : IsLaidOut l.self-inside.n l.self-inside.stack.items l.self-inside.put.items l.self-inside.count l.self-inside.busy;
  vertices : l.self-inside.n ≡ l.fn.self.vertices;
  passed : l.self-inside.passed ≡ l.fn.self.passed;
}

abbrev pub decreases-loop-self : goal.decreases-loop-self
decreases-loop-self l = l.self-inside.busy
