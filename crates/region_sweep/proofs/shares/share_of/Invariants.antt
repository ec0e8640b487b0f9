-- The vertices up to the last one have their classes.
use Rattle.region_sweep.specs.Shares.{AreClasses}
use Rattle.region_sweep.proofs.shares.share_of.Given as goal

abbrev pub invariant-loop-before : goal.invariant-loop-before
invariant-loop-before l = AreClasses l.flow.labels l.region l.before l.own.items l.classes.items
