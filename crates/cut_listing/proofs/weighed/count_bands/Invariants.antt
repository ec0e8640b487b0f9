use Rattle.std.proofs.Common.{◌≡◌, ◌+◌, drop, length}
use Rattle.std.specs.List.{filter}
use Rattle.cactus_walk.specs.Repeats.{ranges_kept}
use Rattle.cut_listing.specs.Bands.{AreShort, is_heavy}
use Rattle.cut_listing.proofs.weighed.count_bands.Given as goal

abbrev pub invariant-starts : goal.invariant-starts
invariant-starts l = record {
  last : l.start-end ≡ length l.ranges.borders.items;
  ends : AreShort l.ranges l.least l.start l.ends.from l.ends.to;
  counted : l.count + length (filter (is_heavy l.ranges l.least) (ranges_kept (drop l.start l.ranges.borders.items) (drop l.start l.repeats))) ≡ length (filter (is_heavy l.ranges l.least) (ranges_kept l.ranges.borders.items l.repeats));
}
