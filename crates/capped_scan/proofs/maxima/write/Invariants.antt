use Rattle.std.proofs.Common.{◌≡◌, ℕ, ◌*◌, ◌/◌, ◌<◌, ◌≤◌, get_or}
use Rattle.std.specs.Prelude.{◌≢◌}
use Rattle.capped_scan.proofs.MaxTrees.{NodeIs}
use Rattle.capped_scan.proofs.maxima.write.Given as goal

abbrev pub invariant-loop-node : goal.invariant-loop-node
invariant-loop-node l = record {
  inner : l.node < 2 * l.size;
  right : (i : ℕ) → 1 ≤ i → i < l.size → i ≢ l.node / 2 → NodeIs l.tree i;
  written : get_or l.tree l.leaf 0 ≡ l.number;
  others : (j : ℕ) → l.size ≤ j → j ≢ l.leaf → get_or l.tree j 0 ≡ get_or l.fn.tree j 0;
}

abbrev pub decreases-loop-node : goal.decreases-loop-node
decreases-loop-node l = l.node
