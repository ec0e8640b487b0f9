use Rattle.std.proofs.Common.{rules}
use Rattle.weighted_graph.proofs.Sorted.{IsSortedByEnds-from_sort}
use Rattle.round_contract.proofs.threads.sort_by_ends.Goals as goal

pub returns-clause-sorted : goal.returns-clause-sorted
returns-clause-sorted g c = IsSortedByEnds-from_sort _ c.par_sort_unstable_by_key.ensures.sorted (λ a r q k. search rules)
