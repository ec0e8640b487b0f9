use Rattle.std.proofs.Common.{◌≤◌, List, ℕ, refl, sym, ap, subst, cond}
use Rattle.std.specs.Prelude.{◌==◌}
use Rattle.std.proofs.lemmas.List.Sums.{sum_by-append}
use Rattle.cut_definitions.specs.Safe.{IsFair}
use Rattle.scan_core.specs.Machine.{loads, times}
use Rattle.mark_board.specs.declared.rule.View.{View}
use Rattle.mark_board.specs.Seen.{SeatView, BoardView, view_of}
use Rattle.mark_board.specs.Rule.{IsStep}
use Rattle.mark_board.proofs.Pairs.{join_of}
use Rattle.mark_board.proofs.board.Board.join.Goals as goal

pub returns-clause-apart : goal.returns-clause-apart
returns-clause-apart c = λ v.
    let won = ap (λ (x : SeatView). x.won) c.merge.ensures.joined in
    let once = subst (λ (l : List ℕ). times v l ≤ 1) won (c.bound.ensures.once v) in
    let sum = sum_by-append (λ (x : ℕ). cond (x == v) 1 0) c.args.seat.now.won c.args.other.won in
    subst (λ (n : ℕ). n ≤ 1) sum once

pub returns-clause-step : goal.returns-clause-step
returns-clause-step c =
    let old : View = view_of c.args.seat.now in
    let other : View = view_of c.args.other in
    let new : View = view_of c.bound.new.seat in
    let fair = c.merge.ensures.fair in
    join_of old other new (subst (λ (x : View). IsStep loads x new) (ap view_of c.merge.ensures.joined) c.bound.ensures.step) refl refl
    (subst (λ (b : BoardView). IsFair b.graph c.args.seat.now.seen) (sym c.requires.seat) fair.0)
    (subst (λ (b : BoardView). IsFair b.graph c.args.other.seen) (sym c.requires.seat) fair.1)
