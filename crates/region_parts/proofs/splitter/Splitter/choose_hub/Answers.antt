-- A vertex that is left, t, or the outside.
use Rattle.std.proofs.Common.{◌≡◌, ℕ, Some, None, sym, ◌∙◌, subst, arith}
use Rattle.std.specs.Prelude.{Option, IfSome}
use Rattle.region_parts.specs.declared.hub.Hub.{Hub}
use Rattle.region_parts.specs.declared.hub.Hub.TheVariants.{Outside}
use Rattle.region_parts.specs.Passed.{IsLeft}
use Rattle.region_parts.proofs.BetweenLemmas.{hub_at_t}
use Rattle.region_parts.proofs.HubSteps.{outside_not_at}
use Rattle.region_parts.proofs.Passing.{all_beside, hub_beside}
use Rattle.region_parts.proofs.splitter.Splitter.choose_hub.Goals as goal

pub returns-then-count-eq0-2-clause-hub : goal.returns-then-count-eq0-2-clause-hub
returns-then-count-eq0-2-clause-hub c =
    hub_at_t c.args.region.graph.now c.args.region.flow.now c.args.region.t c.args.self.now c.requires.between (omega (arith, c.count-2.ensures, c.if-count-eq0-2.true))
    (omega (arith, c.count.ensures, c.if-count-eq0.false))

pub returns-in_err-v-clause-none : goal.returns-in_err-v-clause-none
returns-in_err-v-clause-none c = λ none. (
  omega (arith, c.count-2.ensures, c.if-count-eq0-2.false),
  omega (arith, c.count.ensures, c.if-count-eq0.false),
  all_beside c.args.region.flow.now c.args.region.t c.args.self.now c.args.passed.inner (sym c.beside.ensures.at ∙ c.in_err-v.was) c.requires.passed,
)

pub returns-clause-hub : goal.returns-clause-hub
returns-clause-hub c =
    let there = sym c.beside.ensures.at ∙ c.in_ok-v.was in
    hub_beside c.args.region.graph.now c.args.region.flow.now c.args.region.t c.args.self.now c.args.passed.inner c.in_ok-v.v c.requires.between
    (omega (arith, c.count-2.ensures, c.if-count-eq0-2.false)) (omega (arith, c.count.ensures, c.if-count-eq0.false)) there
    (subst (λ (o : Option ℕ). IfSome o (IsLeft c.args.region.flow.now c.args.region.t c.args.self.now)) there c.requires.left)

chosen : (hub : Hub) → Some hub ≡ None → ⊥
chosen hub e = cc

pub returns-then-count-eq0-clause-hub : goal.returns-then-count-eq0-clause-hub
returns-then-count-eq0-clause-hub c =
    let none : c.args.self.now.outer.count ≡ 0 = omega (arith, c.count.ensures, c.if-count-eq0.true) in
    record {
      outside = λ is. (none, omega (arith, none, c.requires.some));
      outer_some = λ h is. absurd (outside_not_at h is);
      inside = λ h is. absurd (outside_not_at h is);
      free = λ h is. absurd (outside_not_at h is);
      first = λ h is. absurd (outside_not_at h is);
    }

pub returns-then-count-eq0-clause-none : goal.returns-then-count-eq0-clause-none
returns-then-count-eq0-clause-none c = λ none. absurd (chosen Outside none)

pub returns-then-count-eq0-2-clause-none : goal.returns-then-count-eq0-2-clause-none
returns-then-count-eq0-2-clause-none c = λ none. absurd (chosen _ none)

pub returns-clause-none : goal.returns-clause-none
returns-clause-none c = λ none. absurd (chosen _ none)
