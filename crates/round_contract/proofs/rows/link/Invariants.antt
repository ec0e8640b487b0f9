use Rattle.std.proofs.Common.{◌≡◌, ◌+◌, ◌≤◌, length}
use Rattle.cut_definitions.specs.Contraction.{classes}
use Rattle.round_contract.specs.Rows.{AreFirst, AreNext}
use Rattle.round_contract.proofs.rows.link.Given as goal

abbrev pub invariant-loop-v : goal.invariant-loop-v
invariant-loop-v l = record {
  low : l.v ≤ length l.labels;
  classes : length l.first ≡ classes l.labels + 1;
  vertices : length l.next ≡ length l.labels + 1;
  first : AreFirst l.labels (l.v + 1) l.first;
  next : AreNext l.labels (l.v + 1) l.next;
}

abbrev pub decreases-loop-v : goal.decreases-loop-v
decreases-loop-v l = l.v
