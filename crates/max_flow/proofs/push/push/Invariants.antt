-- What was pushed so far, from the end of the path back.
use Rattle.max_flow.proofs.Pushing.{Pushed}
use Rattle.max_flow.proofs.push.push.Given as goal

abbrev pub invariant-loop-at : goal.invariant-loop-at
invariant-loop-at l = Pushed l.graph l.initial.toward l.toward l.steps l.place l.at l.amount

abbrev pub decreases-loop-at : goal.decreases-loop-at
decreases-loop-at l = l.at
