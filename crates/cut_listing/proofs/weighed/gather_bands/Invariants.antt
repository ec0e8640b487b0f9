use Rattle.std.proofs.Common.{◌≡◌, ◌++◌, drop, length, map}
use Rattle.std.specs.List.{All, filter}
use Rattle.rooted_cactus.specs.Places.{side_at}
use Rattle.cactus_walk.specs.Repeats.{ranges_kept}
use Rattle.cut_listing.specs.Bands.{AreShort, is_heavy}
use Rattle.vertex_set.specs.Side.{members_of}
use Rattle.cut_listing.proofs.weighed.gather_bands.Given as goal

abbrev pub invariant-starts : goal.invariant-starts
invariant-starts l = record {
  last : l.start-end ≡ length l.ranges.borders.items;
  ends : AreShort l.ranges l.least l.start l.ends.from l.ends.to;
  over_n : All (λ s. s.vertices ≡ length l.ranges.order.items) l.found.items;
  gathered : members_of l.found.items ++ map (side_at (length l.ranges.order.items) l.ranges.order.items) (filter (is_heavy l.ranges l.least) (ranges_kept (drop l.start l.ranges.borders.items) (drop l.start l.repeats))) ≡ map (side_at (length l.ranges.order.items) l.ranges.order.items) (filter (is_heavy l.ranges l.least) (ranges_kept l.ranges.borders.items l.repeats));
}
