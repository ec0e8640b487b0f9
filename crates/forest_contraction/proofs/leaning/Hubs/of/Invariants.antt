use Rattle.forest_contraction.specs.Leaning.{AreHubs}
use Rattle.forest_contraction.proofs.leaning.Hubs.of.Given as goal

abbrev pub invariant-loop-edge : goal.invariant-loop-edge
invariant-loop-edge l = AreHubs l.list l.hubs
