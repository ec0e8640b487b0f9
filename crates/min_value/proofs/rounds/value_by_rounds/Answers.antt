use Rattle.std.proofs.Common.{sym, subst, ℕ, arith}
use Rattle.cut_definitions.specs.Cuts.{value}
use Rattle.forest_contraction.specs.Left.{IsLesser}
use Rattle.min_value.proofs.Contracted.{left_more, left_none, left_some, fewer_left}
use Rattle.min_value.proofs.rounds.value_by_rounds.Goals as goal

pub rounds-smaller : goal.rounds-smaller
rounds-smaller g c =
    fewer_left c.rounds.small.vertices c.in_ok-low.smaller.vertices c.is_tenth_less-shrinks.result c.rounds.shrinks
    (λ yes. omega (arith, c.is_tenth_less-shrinks.ensures.0 yes, c.n-in-rounds.ensures.value, c.n-in-rounds-2.ensures.value)) (omega (arith, c.if-n-ge2.true, c.n.ensures.value)) c.rounds-test.true

pub rounds-preserved : goal.rounds-preserved
rounds-preserved g c =
    subst (λ (k : ℕ). IsLesser (value c.args.graph.now) k c.in_ok-low.smaller) (sym c.min-best.ensures)
    (left_more (value c.args.graph.now) c.rounds.best c.in_ok-low.low c.rounds.small c.in_ok-low.smaller (omega (arith, c.if-n-ge2.true, c.n.ensures.value)) c.rounds.invariant c.in_ok-low.ensures)

pub returns-then-n-lt2 : goal.returns-then-n-lt2
returns-then-n-lt2 g c = left_none (value c.args.graph.now) c.rounds.best c.rounds.small (omega (arith, c.if-n-lt2.true, c.n-2.ensures.value)) c.rounds.invariant

pub returns : goal.returns
returns g c =
    left_some (value c.args.graph.now) c.rounds.best c.in_ok-weight.weight c.rounds.small (omega (arith, c.if-n-lt2.false, c.n-2.ensures.value)) c.rounds.invariant c.in_ok-weight.ensures
