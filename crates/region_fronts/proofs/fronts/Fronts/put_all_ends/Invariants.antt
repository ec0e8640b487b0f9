-- The ends of the vertices so far are in their lists.
use Rattle.std.proofs.Common.{◌≡◌, take}
use Rattle.std.specs.List.{All}
use Rattle.region_fronts.specs.Fronts.{KeepsAll, HasEnds}
use Rattle.region_fronts.proofs.fronts.Fronts.put_all_ends.Given as goal

abbrev pub invariant-loop-i : goal.invariant-loop-i
invariant-loop-i l = record {
  vertices : l.self.vertices ≡ l.fn.self.vertices;
  kept : KeepsAll l.fn.self l.self;
  ends : All (HasEnds l.graph l.labels l.self) (take l.i l.moved);
}
