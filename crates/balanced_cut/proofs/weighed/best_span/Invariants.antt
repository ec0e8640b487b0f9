use Rattle.std.proofs.Common.{◌≡◌, length}
use Rattle.balanced_cut.specs.Ends.{IsBestBefore}
use Rattle.cactus_walk.specs.Weighing.{range_of}
use Rattle.balanced_cut.proofs.weighed.best_span.Given as goal

abbrev pub invariant-starts : goal.invariant-starts
invariant-starts l = record {
  last : l.start-end ≡ length l.ranges.borders.items;
  search : IsBestBefore l.ranges l.start (range_of l.search.best) l.search.end;
}
