use Rattle.std.proofs.Common.{◌≡◌, ℕ, ◌<◌, ◌≤◌, ◌-◌, get_or}
use Rattle.mincut_c.proofs.rows.put_from_zero.Given as goal

abbrev pub invariant-numbers : goal.invariant-numbers
invariant-numbers l = record {
  begins : (k : ℕ) → k < l.k → get_or l.out k 0 ≡ get_or l.numbers k 0 - 1;
  behind : (k : ℕ) → l.k ≤ k → get_or l.out k 0 ≡ get_or l.fn.out k 0;
}
