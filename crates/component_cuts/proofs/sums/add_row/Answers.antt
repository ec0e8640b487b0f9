use Rattle.std.proofs.Common.{sym, ◌∙◌}
use Rattle.component_cuts.proofs.Rows.{adding_start, adding_in, adding_out}
use Rattle.component_cuts.proofs.sums.add_row.Goals as goal
use Rattle.component_cuts.proofs.sums.add_row.Goals.{then-makes_next, else-makes_next}

pub loop-sum-preserved : goal.loop-sum-preserved
loop-sum-preserved c =
    let old = c.args.table.now in
    let table = c.loop-sum.table in
    elim c.if-makes_next.branch [
      | then-makes_next w ↦ adding_in old table c.if-makes_next.table c.args.width c.args.row c.args.weight c.loop-sum.sum c.loop-sum.invariant c.loop-sum-test.true c.requires.row
          (sym c.makes_next.ensures ∙ w.if-makes_next.true) (w.table-is ∙ w.insert.ensures)
      | else-makes_next w ↦ rw w.table-is (adding_out old table c.args.width c.args.row c.args.weight c.loop-sum.sum c.loop-sum.invariant c.loop-sum-test.true c.requires.row (sym c.makes_next.ensures ∙ w.if-makes_next.false))
    ]

pub loop-sum-init : goal.loop-sum-init
loop-sum-init c = adding_start c.args.table.now c.args.width c.args.row c.args.weight c.requires.empty
