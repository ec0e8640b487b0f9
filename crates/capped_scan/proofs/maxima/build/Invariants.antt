use Rattle.std.proofs.Common.{◌≡◌, ℕ, ◌<◌, ◌≤◌, get_or}
use Rattle.capped_scan.proofs.MaxTrees.{NodeIs}
use Rattle.capped_scan.proofs.maxima.build.Given as goal

abbrev pub invariant-loop-node : goal.invariant-loop-node
invariant-loop-node l = record {
  inner : l.node ≤ l.size;
  right : (i : ℕ) → l.node ≤ i → 1 ≤ i → i < l.size → NodeIs l.tree i;
  leaves : (j : ℕ) → l.size ≤ j → get_or l.tree j 0 ≡ get_or l.fn.tree j 0;
}

abbrev pub decreases-loop-node : goal.decreases-loop-node
decreases-loop-node l = l.node
