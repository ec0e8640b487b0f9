use Rattle.std.proofs.Common.{◌≡◌, ℕ, ◌-◌, ◌<◌, get_or}
use Rattle.mincut_c.proofs.augments.put_ends.Given as goal

abbrev pub invariant-edges : goal.invariant-edges
invariant-edges l = (k : ℕ) (d : ℕ × ℕ) → k < l.k → (get_or l.from k 0 ≡ (get_or l.edges k d).0 - 1) × (get_or l.to k 0 ≡ (get_or l.edges k d).1 - 1)
