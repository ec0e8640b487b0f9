-- The numbers so far are laid out.
use Rattle.region_fronts.proofs.Runs.{AreRunsBefore}
use Rattle.region_fronts.proofs.parts.lay_out.Given as goal

abbrev pub invariant-loop-before : goal.invariant-loop-before
invariant-loop-before l = AreRunsBefore l.placed l.before l.place l.starts.items l.ends.items
