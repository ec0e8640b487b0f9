use Rattle.std.proofs.Common.{◌≡◌, length}
use Rattle.rooted_cactus.specs.CutRanges.{Range}
use Rattle.canonical_cactus.specs.FirstBest.{IsFirstBefore, IsNotAfter}
use Rattle.canonical_cactus.proofs.first_side.Ranked.first_of_mass.Given as goal

abbrev pub invariant-starts : goal.invariant-starts
invariant-starts l = record {
  last : l.start-end ≡ length l.self.ranges.borders.items;
  search : IsFirstBefore l.self l.mass l.start l.search;
  kept : (r : Range) → IsNotAfter l.self l.fn.found r → IsNotAfter l.self l.search.found r;
}
