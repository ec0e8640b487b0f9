use Rattle.std.proofs.Common.{◌≡◌, take}
use Rattle.std.specs.List.{sum_by}
use Rattle.capped_scan.proofs.Raised.{IsRaised, marked_term}
use Rattle.capped_scan.proofs.raising.raise_along.Given as goal

abbrev pub invariant-loop-arc : goal.invariant-loop-arc
invariant-loop-arc l = record {
  keys : IsRaised l.size l.cap l.row l.arc-index l.fn.tree l.tree;
  inside : l.inside ≡ sum_by (marked_term l.scanned) (take l.arc-index l.row);
}
