-- The weights so far.
use Rattle.std.proofs.Common.{◌≡◌, ℕ, ◌<◌, ◌≤◌, map, get_or}
use Rattle.least_cut.specs.declared.lightest.LightestCut.{LightestCut}
use Rattle.mincut_c.proofs.light_cuts.put_weights.Given as goal

abbrev pub invariant-cuts : goal.invariant-cuts
invariant-cuts l = record {
  told : (k : ℕ) → k < l.k → get_or l.weights k 0 ≡ get_or (map (λ (c : LightestCut). c.weight) l.cuts) k 0;
  behind : (i : ℕ) → l.k ≤ i → get_or l.weights i 0 ≡ get_or l.fn.weights i 0;
}
