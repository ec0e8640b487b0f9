-- The vertex is open.
use Rattle.region_sweep.proofs.sweep.Sweep.feed_beside.Goals as goal

pub bring_to-requires-clause-open : goal.bring_to-requires-clause-open
bring_to-requires-clause-open c = rw c.labels.ensures at c.in-Some.ensures.first.leads.is_open
