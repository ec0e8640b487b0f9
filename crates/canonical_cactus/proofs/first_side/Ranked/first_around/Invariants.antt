use Rattle.std.proofs.Common.{◌≡◌, ◌-◌, ◌+◌, ◌≤◌}
use Rattle.cactus_walk.specs.Weighing.{range_of}
use Rattle.canonical_cactus.specs.FirstBest.{IsWithin, range_at}
use Rattle.canonical_cactus.proofs.Around.{AreJoined, IsLeastBeyond}
use Rattle.canonical_cactus.proofs.first_side.Ranked.first_around.Given as goal

abbrev pub invariant-taken : goal.invariant-taken
invariant-taken l = record {
  all : range_of l.all ≡ range_at l.self l.bounds;
  within : IsWithin l.self l.bounds l.ends;
  start : l.ends.start ≤ l.fn.inner.start;
  end : l.fn.inner.end ≤ l.ends.end;
  least : IsLeastBeyond l.self (range_at l.self l.bounds) (range_at l.self l.ends) l.vertex;
  joined : AreJoined l.self l.bounds l.fn.inner l.ends;
}

abbrev pub decreases-taken : goal.decreases-taken
decreases-taken l = l.ends.start + (l.bounds.end - l.ends.end)
