use Rattle.std.proofs.Common.{◌≡◌, ℕ, suc, ◌+◌, ◌-◌, ◌<◌, ◌≤◌, cond, eqb, length}
use Rattle.std.specs.Prelude.{slice_index}
use Rattle.cut_definitions.specs.Weight.{between}
use Rattle.cut_definitions.specs.Contraction.{class, classes}
use Rattle.round_contract.specs.Rows.{IsNext, members_before}
use Rattle.round_contract.proofs.rows.add_class.Given as goal

abbrev pub invariant-loop-v : goal.invariant-loop-v
invariant-loop-v l = (from : ℕ) × record {
  one : 1 ≤ from;
  next : IsNext l.labels l.lesser from l.v;
  long : length l.sums ≡ classes l.labels + 1;
  sums : (b : ℕ) → l.lesser < b → b ≤ classes l.labels → slice_index l.sums b ≡ between l.graph (members_before l.labels l.lesser from) (class l.labels b);
}

abbrev pub decreases-loop-v : goal.decreases-loop-v
decreases-loop-v l = cond (eqb l.v 0) 0 (suc (length l.labels) - l.v)
