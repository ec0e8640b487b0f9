use Rattle.std.proofs.Common.{◌+◌, ◌<◌, ◌≤◌}
use Rattle.canonical_cactus.specs.FirstBest.{HasUpTo}
use Rattle.canonical_cactus.proofs.first_side.Ranked.last_with.Given as goal

abbrev pub invariant-parts : goal.invariant-parts
invariant-parts l = record {
  from : l.fn.from ≤ l.at;
  end : l.at < l.fn.end;
  has : HasUpTo l.self l.fn.from (l.at + 1) l.vertex;
}

abbrev pub decreases-parts : goal.decreases-parts
decreases-parts l = l.at
