use Rattle.std.proofs.Common.{◌≡◌, ℕ, ◌+◌, ◌<◌, ◌≤◌, get_or}
use Rattle.capped_scan.proofs.maxima.write_ones.Given as goal

abbrev pub invariant-loop-v : goal.invariant-loop-v
invariant-loop-v l = record {
  ones : (u : ℕ) → 1 ≤ u → u < l.v → get_or l.tree (l.size + u) 0 ≡ 1;
  first : get_or l.tree l.size 0 ≡ get_or l.fn.tree l.size 0;
  rest : (u : ℕ) → l.v ≤ u → get_or l.tree (l.size + u) 0 ≡ get_or l.fn.tree (l.size + u) 0;
}
