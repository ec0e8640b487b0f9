use Rattle.std.proofs.Common.{◌≡◌, ℕ, true, ap, arith, ◌∙◌, length}
use Rattle.component_cuts.proofs.Totals.{mass_to, mass_whole, mass_more, all_small}
use Rattle.component_cuts.proofs.sums.total_mass.Goals as goal

pub overflow_add-total : goal.overflow_add-total
overflow_add-total c =
    let few = all_small c.args.weights.now c.loop-v.v c.len-v-end.ensures.masses (omega (arith, c.loop-v-test.true, c.len-v-end.ensures.value)) in
    omega (arith, few, c.loop-v.invariant, c.of.type_inv)

pub loop-v-preserved : goal.loop-v-preserved
loop-v-preserved c = omega (arith, c.loop-v.invariant, c.of.ensures, mass_more c.args.weights.now (λ u. true) c.loop-v.v)

pub returns-clause-value : goal.returns-clause-value
returns-clause-value c =
    let all : c.loop-v.v ≡ length c.args.weights.now = omega (arith, c.loop-v-test.false, c.len-v-end.ensures.value, c.loop-v.auto.v-end) in
    c.loop-v.invariant ∙ (ap (λ (k : ℕ). mass_to c.args.weights.now (λ u. true) k) all ∙ mass_whole c.args.weights.now (λ u. true))

pub returns-clause-small : goal.returns-clause-small
returns-clause-small c =
    let few = all_small c.args.weights.now c.loop-v.v c.len-v-end.ensures.masses (omega (arith, c.loop-v.auto.v-end, c.len-v-end.ensures.value)) in
    omega (arith, few, c.loop-v.invariant)
