use Rattle.std.proofs.Common.{◌≡◌, ◌+◌, ℕ, ap, subst, arith}
use Rattle.weighted_graph.specs.RowLaws.{edge_at}
use Rattle.mark_board.specs.Seen.{BoardView}
use Rattle.round_workers.specs.Round.{IsCertified}
use Rattle.round_workers.proofs.one_round.close_round.Goals as goal
use Rattle.round_workers.proofs.one_round.close_round.Goals.{then-low-bound, else-low-bound}

pub returns-clause-certified : goal.returns-clause-certified
returns-clause-certified c =
    let g = c.args.graph.now in
    let s = c.args.seat in
    let slack = c.args.slack in
    let low = c.close-low.result.0 in
    let e = c.close-low.ensures in
    let opening : s.board.opening ≡ c.args.board.opening = ap (λ (b : BoardView). b.opening) c.requires.seated.board in
    elim c.if-low-bound.branch [
      | then-low-bound w ↦ rw w.marks-is w.mark_certified.ensures.certified
      | else-low-bound w ↦
          let is : low ≡ s.board.opening = omega (arith, w.if-low-bound.false, e.at_most.0, opening, c.requires.opening) in
          rw w.marks-is (λ i l cert. e.own i (c.requires.all.each (omega (arith, is, e.at_most.1)) i l
          (subst (λ (k : ℕ). IsCertified g (edge_at g i) (k + slack)) is cert)))
    ]
