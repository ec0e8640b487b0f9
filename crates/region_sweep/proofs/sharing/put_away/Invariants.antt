-- The vertices up to the last one are put away.
use Rattle.region_sweep.specs.Shares.{ArePutAway}
use Rattle.region_sweep.proofs.sharing.put_away.Given as goal

abbrev pub invariant-loop-v : goal.invariant-loop-v
invariant-loop-v l = ArePutAway l.v l.classes l.nodes l.node l.count l.initial.homes l.homes
