use Rattle.std.proofs.Common.{◌≡◌, ◌++◌, All}
use Rattle.std.specs.List.{flat_map}
use Rattle.std.specs.Result.{IsOk}
use Rattle.std.specs.Vec.Iter.{into_iter_items}
use Rattle.round_contract.specs.Rows.{found_edges}
use Rattle.round_contract.proofs.rows.joined.Given as goal

abbrev pub invariant-loop-run : goal.invariant-loop-run
invariant-loop-run l = record {
  rest : l.yielded ++ into_iter_items l.run-iterator ≡ l.fn.runs.items;
  edges : l.edges.items ≡ flat_map found_edges l.yielded;
  whole : All (λ run. IsOk run) l.yielded;
}
