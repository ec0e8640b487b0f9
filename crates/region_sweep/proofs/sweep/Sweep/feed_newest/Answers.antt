-- The vertex is open.
use Rattle.region_sweep.proofs.sweep.Sweep.feed_newest.Goals as goal

pub bring_to-more-requires-clause-open : goal.bring_to-more-requires-clause-open
bring_to-more-requires-clause-open c = rw c.labels.ensures at c.in-Some.ensures.some.another.is_open
