use Rattle.std.proofs.Common.{◌≡◌}
use Rattle.component_cuts.proofs.Gathered.{gathered_to}
use Rattle.component_cuts.proofs.components.Components.part_side.Given as goal

abbrev pub invariant-loop-v : goal.invariant-loop-v
invariant-loop-v l = l.side ≡ gathered_to l.self-inside.n l.self-inside.part_of.items l.number l.v
