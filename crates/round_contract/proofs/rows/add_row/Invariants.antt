use Rattle.std.proofs.Common.{◌≡◌, ℕ, ◌+◌, ◌<◌, ◌≤◌, length, take}
use Rattle.std.specs.Prelude.{slice_index}
use Rattle.cut_definitions.specs.Contraction.{classes}
use Rattle.round_contract.specs.Rows.{toward}
use Rattle.round_contract.proofs.rows.add_row.Given as goal

abbrev pub invariant-loop-arc : goal.invariant-loop-arc
invariant-loop-arc l = record {
  long : length l.sums ≡ classes l.labels + 1;
  sums : (b : ℕ) → l.lesser < b → b ≤ classes l.labels → slice_index l.sums b ≡ slice_index l.fn.sums b + toward l.labels b (take l.arc-index l.row);
}
