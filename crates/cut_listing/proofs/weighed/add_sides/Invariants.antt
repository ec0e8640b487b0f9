use Rattle.std.proofs.Common.{◌≡◌, ◌≤◌, ◌++◌, length, map, max}
use Rattle.std.specs.List.{All}
use Rattle.rooted_cactus.specs.Places.{side_at}
use Rattle.cut_listing.specs.Bands.{ranges_of}
use Rattle.vertex_set.specs.Side.{members_of}
use Rattle.cut_listing.proofs.weighed.add_sides.Given as goal

abbrev pub invariant-ends : goal.invariant-ends
invariant-ends l = record {
  last : l.end-end ≡ l.fn.band.to;
  bounded : l.end ≤ max l.fn.band.from l.end-end;
  over_n : All (λ s. s.vertices ≡ length l.ranges.order.items) l.found.items;
  added : members_of l.found.items ≡ members_of l.initial.found.items ++ map (side_at (length l.ranges.order.items) l.ranges.order.items) (ranges_of l.ranges.borders.items l.start l.fn.band.from l.end);
}
