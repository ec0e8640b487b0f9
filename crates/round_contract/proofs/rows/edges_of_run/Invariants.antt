use Rattle.std.proofs.Common.{◌≡◌, ◌+◌, ◌-◌, ◌≤◌, length}
use Rattle.cut_definitions.specs.Contraction.{classes}
use Rattle.round_contract.specs.Rows.{run_rows}
use Rattle.round_contract.proofs.rows.edges_of_run.Given as goal

abbrev pub invariant-loop-before : goal.invariant-loop-before
invariant-loop-before l = record {
  later : l.from ≤ l.before;
  sums : length l.sums ≡ classes l.labels + 1;
  edges : l.edges.items ≡ run_rows l.graph l.labels l.from (l.before - l.from);
}
