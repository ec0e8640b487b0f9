-- No number so far is less.
use Rattle.std.proofs.Common.{ℕ, ◌<◌, ◌≤◌, length, get_or}
use Rattle.least_cut.proofs.dense.place_of_least.Given as goal

abbrev pub invariant-loop-k : goal.invariant-loop-k
invariant-loop-k l = record {
  from_one : 1 ≤ l.place;
  there : l.place < length l.numbers;
  least : (k : ℕ) → 1 ≤ k → k < l.k → get_or l.numbers l.place 0 ≤ get_or l.numbers k 0;
}
