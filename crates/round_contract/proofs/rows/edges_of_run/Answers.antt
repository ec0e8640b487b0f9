use Rattle.std.proofs.Common.{◌≡◌, ◌+◌, ◌-◌, ◌++◌, ◌∙◌, ap, sym, length, arith}
use Rattle.cut_definitions.specs.Contraction.{classes}
use Rattle.weighted_graph.proofs.Labelling.{classes_le}
use Rattle.round_contract.specs.Rows.{class_row, edges_by, run_rows}
use Rattle.round_contract.proofs.RowSums.{rows_more, same_row}
use Rattle.round_contract.proofs.rows.edges_of_run.Goals as goal
use Rattle.round_contract.proofs.rows.edges_of_run.Goals.{After-add_class}

-- there is a sum for each class, and one in front
long : (c : After-add_class) → length c.add_class.new.sums ≡ classes c.args.labels.now + 1
long c = c.add_class.ensures.long ∙ (c.fill.ensures.len ∙ c.loop-before.invariant.sums)

pub append_row-requires-clause-few : goal.append_row-requires-clause-few
append_row-requires-clause-few c =
    let d = (goal.at.append_row-requires-clause-few c).After-add_class in
    omega (arith, long d, c.classes.ensures.few, classes_le c.args.labels.now c.classes.ensures.labels)

pub loop-before-preserved : goal.loop-before-preserved
loop-before-preserved c =
    let d = (goal.at.loop-before-preserved c).After-add_class in
    let g = c.args.graph.now in
    let labels = c.args.labels.now in
    let from = c.args.from in
    let sums = c.add_class.new.sums in
    let before = c.loop-before.before in
    let m = before - from in
    let rest : length sums - 1 - (before + 1) ≡ classes labels - (before + 1) = omega (arith, long d) in
    let here : from + m + 1 ≡ before + 1 = omega (arith, c.loop-before.invariant.later) in
    let more : m + 1 ≡ before + 1 - from = omega (arith, c.loop-before.invariant.later) in
    record {
      later = omega (arith, c.loop-before.invariant.later);
      sums = long d;
      edges = c.in_ok-append_row.ensures ∙ (ap (λ l. l ++ edges_by sums (before + 1) (length sums - 1 - (before + 1))) c.loop-before.invariant.edges
          ∙ (ap (λ l. run_rows g labels from m ++ l) (ap (edges_by sums (before + 1)) rest ∙ (same_row g labels sums (before + 1) c.add_class.ensures.sums ∙ ap (class_row g labels) (sym here)))
          ∙ (sym (rows_more g labels from m) ∙ ap (run_rows g labels from) more)));
    }
