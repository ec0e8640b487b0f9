use Rattle.std.proofs.Common.{◌≡◌, ℕ, ◌≤◌}
use Rattle.std.specs.Prelude.{◌≢◌}
use Rattle.residual_chain.specs.Residuals.{leads}
use Rattle.arc_search.specs.Marks.{mark_of}
use Rattle.residual_chain.specs.Search.{steps}
use Rattle.arc_search.specs.Split.{IsSplitOff}
use Rattle.residual_chain.proofs.split.split.Given as goal

abbrev pub invariant-loop-before : goal.invariant-loop-before
invariant-loop-before l = record {
  so_far : IsSplitOff l.arcs.graph.now.vertices (steps l.arcs.direction (leads l.arcs.graph.now l.arcs.flow.now)) l.fn.parts l.parts l.fn.part_of l.fn.marks l.part_of l.marks;
  memory : l.memory ≡ l.fn.memory;
  marked : (v : ℕ) → 1 ≤ v → v ≤ l.before → mark_of l.marks v ≢ 0;
}
