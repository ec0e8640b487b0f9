-- The set is right up to a vertex.
use Rattle.std.proofs.Common.{◌≡◌, ℕ, ◌≤◌}
use Rattle.cut_definitions.specs.Cuts.{has, IsAscendingWithin}
use Rattle.max_flow.specs.Tree.{seen}
use Rattle.max_flow.proofs.side.assign.Given as goal

abbrev pub invariant-loop-v : goal.invariant-loop-v
invariant-loop-v l = record {
  vertices : l.side.vertices ≡ l.initial.side.vertices;
  ascending : IsAscendingWithin 1 l.side.vertices l.side.members;
  members : (u : ℕ) → 1 ≤ u → u ≤ l.v → has l.side.members u ≡ seen l.marks u;
}
