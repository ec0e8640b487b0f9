use Rattle.std.proofs.Common.{◌≡◌, ◌-◌, ◌<◌, ◌≤◌, ◌∙◌, [], ◌∷◌, ◌++◌, ap, sym, get_or, arith}
use Rattle.std.proofs.lemmas.List.{append_assoc}
use Rattle.round_contract.specs.Rows.{edges_by}
use Rattle.round_contract.proofs.RowSums.{edge_to, edges_with, edges_without}
use Rattle.round_contract.proofs.rows.append_row.Goals as goal
use Rattle.round_contract.proofs.rows.append_row.Goals.{then-weight-gt0+in_ok-push, else-weight-gt0}

pub loop-b-preserved : goal.loop-b-preserved
loop-b-preserved c =
    let sums = c.args.sums.now in
    let class = c.args.class in
    let b = c.loop-b.b in
    let later : class < b = omega (arith, c.loop-b.auto.b) in
    let old = edges_by sums class (b - 1 - class) in
    elim c.if-weight-gt0.branch [
      | then-weight-gt0+in_ok-push w ↦ (
          let some : 1 ≤ get_or sums b 0 = omega (arith, w.if-weight-gt0.true) in
          let e = edge_to (λ k. get_or sums k 0) class b in
          ap (λ v. v.items) w.edges-is ∙ (w.in_ok-push.ensures.items ∙ (ap (λ l. l ++ e ∷ []) c.loop-b.invariant
          ∙ (append_assoc c.args.edges.now.items old (e ∷ []) ∙ ap (λ l. c.args.edges.now.items ++ l) (sym (edges_with sums class b later some))))))
      | else-weight-gt0 w ↦ (
          let none : get_or sums b 0 ≡ 0 = omega (arith, w.if-weight-gt0.false) in
          ap (λ v. v.items) w.edges-is ∙ (c.loop-b.invariant ∙ ap (λ l. c.args.edges.now.items ++ l) (sym (edges_without sums class b later none))))
    ]
