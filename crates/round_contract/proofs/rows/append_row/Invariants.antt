use Rattle.std.proofs.Common.{◌≡◌, ◌-◌, ◌++◌}
use Rattle.round_contract.specs.Rows.{edges_by}
use Rattle.round_contract.proofs.rows.append_row.Given as goal

abbrev pub invariant-loop-b : goal.invariant-loop-b
invariant-loop-b l = l.edges.items ≡ l.fn.edges.items ++ edges_by l.sums l.class (l.b - 1 - l.class)
