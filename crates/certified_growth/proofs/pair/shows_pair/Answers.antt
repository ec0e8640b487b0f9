use Rattle.std.proofs.Common.{◌≡◌, ℕ, subst, arith}
use Rattle.std.specs.Prelude.{IsTrue}
use Rattle.cut_definitions.proofs.Results.{if_ok_more}
use Rattle.region_flow.specs.Inflow.{ShowsLeast}
use Rattle.region_flow.specs.Outcome.{IfBest}
use Rattle.region_flow.specs.declared.outcome.Outcome.{Outcome}
use Rattle.certified_growth.specs.Brought.{AreAtEnds}
use Rattle.certified_growth.specs.Turns.{IsPairShown}
use Rattle.certified_growth.proofs.pair.shows_pair.Goals as goal

pub returns-else-amount-weight-clause-shown : goal.returns-else-amount-weight-clause-shown
returns-else-amount-weight-clause-shown c =
    let g = c.args.graph.now in
    let root = c.args.pair.root in
    let next = c.args.pair.next in
    let f = c.flow.new.self in
    let weight = c.args.rule.leaf_weight in
    let a = c.may_be_leaf.ensures c.if-not-may_be_leaf.false in
    let b = c.may_be_leaf-2.ensures c.if-not-may_be_leaf-2.false in
    let best = subst (λ (o : Outcome). IfBest o (λ amount. ShowsLeast g next amount f)) c.in-Best.is c.flow.ensures.best in
    let same : c.in-Best.amount ≡ weight = omega arith in
    if_ok_more (λ yes. IsTrue yes → AreAtEnds g f root next) (λ yes. IsTrue yes → IsPairShown g f root next weight) c.is_at_ends.result
    (λ yes h is. record {
      some = a.1;
      root_from_two = a.0;
      root_weighs = a.3;
      from_two = b.0;
      weighs = b.3;
      best = subst (λ (k : ℕ). ShowsLeast g next k f) same best;
      ends = h is;
    })
    c.is_at_ends.ensures.ends
