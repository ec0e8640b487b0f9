-- The set has the vertices so far.
use Rattle.std.proofs.Common.{◌≡◌, take}
use Rattle.cut_definitions.specs.Cuts.{has}
use Rattle.vertex_set.specs.Side.{listed}
use Rattle.least_cut.proofs.lightest.side_of.Given as goal

abbrev pub invariant-loop-v : goal.invariant-loop-v
invariant-loop-v l = l.side ≡ listed l.n (has (take l.v-index l.vertices))
