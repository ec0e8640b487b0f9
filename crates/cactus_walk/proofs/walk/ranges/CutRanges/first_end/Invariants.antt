use Rattle.std.proofs.Common.{◌≡◌, ◌+◌, ◌-◌, ◌<◌, length}
use Rattle.cactus_walk.specs.Weighing.{IsShort, last_of, mass_at}
use Rattle.cactus_walk.proofs.walk.ranges.CutRanges.first_end.Given as goal

abbrev pub invariant-ends : goal.invariant-ends
invariant-ends l = record {
  last : l.last ≡ last_of l.self l.start;
  there : l.last < length l.self.borders.items;
  before : l.before ≡ mass_at l.self l.start;
  behind : l.start < l.end;
  short : IsShort l.self l.mass l.start l.end;
}

abbrev pub decreases-ends : goal.decreases-ends
decreases-ends l = l.last + 1 - l.end
