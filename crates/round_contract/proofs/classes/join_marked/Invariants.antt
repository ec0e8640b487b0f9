use Rattle.std.proofs.Common.{◌≡◌, length}
use Rattle.cut_definitions.specs.Cuts.{has}
use Rattle.round_contract.proofs.Marked.{AreOfMarksBefore}
use Rattle.round_contract.proofs.classes.join_marked.Given as goal

abbrev pub invariant-loop-i : goal.invariant-loop-i
invariant-loop-i l = record {
  long : length l.classes ≡ length l.fn.classes;
  joined : AreOfMarksBefore l.graph (has l.marks.marked) l.i l.classes;
}
