use Rattle.std.proofs.Common.{◌≡◌, ◌-◌, ◌∙◌, ap, arith}
use Rattle.cut_definitions.specs.Contraction.{classes}
use Rattle.round_contract.specs.Rows.{run_rows}
use Rattle.round_contract.proofs.RowSums.{rows_are}
use Rattle.round_contract.proofs.rows.list_by_rows.Goals as goal

pub list_of_edges-requires-clause-edges : goal.list_of_edges-requires-clause-edges
list_of_edges-requires-clause-edges c =
    let graph = c.args.graph.now in
    let labels = c.args.labels.now in
    let all : c.classes.result - 0 ≡ classes labels = omega (arith, c.classes.ensures.value) in
    c.in_ok-edges.ensures ∙ (ap (run_rows graph labels 0) all ∙ rows_are graph labels)
