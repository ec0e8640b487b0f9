use Rattle.std.proofs.Common.{ℕ, subst}
use Rattle.cut_definitions.specs.Graph.{Graph}
use Rattle.cut_definitions.specs.Safe.{IsFair}
use Rattle.cut_definitions.specs.Cuts.{has}
use Rattle.weighted_graph.specs.Marks.{MarksAreSafe}
use Rattle.round_workers.proofs.one_round.scan_round.Goals as goal

pub returns-clause-fair : goal.returns-clause-fair
returns-clause-fair g c = subst (λ (k : Graph). IsFair k c.close.result.0) c.in_ok-board.ensures.seated.graph c.close.ensures.fair

pub returns-clause-safe : goal.returns-clause-safe
returns-clause-safe g c =
    let seated = c.in_ok-board.ensures.seated in
    let marked = has c.close.result.1.marked in
    subst (λ (k : Graph). MarksAreSafe k marked c.close.result.0 c.args.threshold.slack) seated.graph
    (subst (λ (k : ℕ). MarksAreSafe c.in_ok-board.board.graph marked c.close.result.0 k) seated.slack_is c.close.ensures.safe)
