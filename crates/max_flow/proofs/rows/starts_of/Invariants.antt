-- The starts so far.
use Rattle.max_flow.proofs.RowStarts.{Starts}
use Rattle.max_flow.proofs.rows.starts_of.Given as goal

abbrev pub invariant-loop-v : goal.invariant-loop-v
invariant-loop-v l = Starts l.graph l.starts.items l.v l.total
