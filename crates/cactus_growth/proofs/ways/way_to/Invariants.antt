use Rattle.cactus_growth.specs.Ways.{visited}
use Rattle.rooted_cactus.proofs.Tallies.{nodes_to_come}
use Rattle.cactus_growth.proofs.Visits.{IsSearched}
use Rattle.cactus_growth.proofs.ways.way_to.Given as goal

abbrev pub invariant-search : goal.invariant-search
invariant-search l = IsSearched l.root l.v l.way.items l.stack.items

abbrev pub decreases-search : goal.decreases-search
decreases-search l = nodes_to_come (visited l.stack.items)
