use Rattle.std.proofs.Common.{◌≡◌, length, take}
use Rattle.cut_definitions.specs.Cuts.{has}
use Rattle.cactus_growth.proofs.ways.has_vertex.Given as goal

abbrev pub invariant-vertices : goal.invariant-vertices
invariant-vertices l = record {
  end : l.i-end ≡ length l.list;
  found : l.found ≡ has (take l.i l.list) l.v;
}
