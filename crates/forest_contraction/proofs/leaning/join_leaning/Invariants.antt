use Rattle.std.proofs.Common.{◌≡◌, length}
use Rattle.vertex_classes.specs.Classes.{no_vertex, Respects}
use Rattle.forest_contraction.specs.Leaning.{AreSafe}
use Rattle.forest_contraction.proofs.leaning.join_leaning.Given as goal

abbrev pub invariant-loop-edge : goal.invariant-loop-edge
invariant-loop-edge l = record {
  long : length l.classes ≡ length l.fn.classes;
  safe : AreSafe l.list l.bound l.classes;
  apart : Respects l.classes no_vertex;
}
