use Rattle.std.proofs.Common.{◌≡◌, ◌+◌, ◌<◌, ℕ, eqb, length, get_or, refl, ap, arith, ◌∙◌}
use Rattle.std.proofs.lemmas.List.{get_or_read}
use Rattle.component_cuts.proofs.Totals.{mass_to, mass_whole, next_small, masses_more}
use Rattle.component_cuts.proofs.sums.mass_by_number.Goals as goal

pub overflow_add-index_mut : goal.overflow_add-index_mut
overflow_add-index_mut c =
    let part_of = c.args.part_of.now in
    let number = get_or part_of (c.loop-v.v + 1) 0 in
    let inside : number < length c.loop-v.sums.items = omega (arith, c.loop-v.invariant.long, c.requires.within (c.loop-v.v + 1)) in
    let read = get_or_read c.loop-v.sums.items number c.index_mut.result.now inside c.index_mut.ensures.value 0 in
    let few = next_small c.args.weights.now part_of c.args.count c.loop-v.v number c.loop-v.sums.items c.loop-v.invariant (omega (arith, c.loop-v-test.true, c.len-v-end.ensures.value)) refl
    (c.requires.within (c.loop-v.v + 1)) in
    omega (arith, few, read, c.of.ensures, c.requires.small)

pub loop-v-preserved : goal.loop-v-preserved
loop-v-preserved c =
    let part_of = c.args.part_of.now in
    let number = get_or part_of (c.loop-v.v + 1) 0 in
    let inside : number < length c.loop-v.sums.items = omega (arith, c.loop-v.invariant.long, c.requires.within (c.loop-v.v + 1)) in
    let read = get_or_read c.loop-v.sums.items number c.index_mut.result.now inside c.index_mut.ensures.value 0 in
    masses_more c.args.weights.now part_of c.args.count c.loop-v.v number (c.index_mut.result.now + c.of.result) c.loop-v.sums.items c.loop-v.invariant refl (c.requires.within (c.loop-v.v + 1))
    (omega (arith, read, c.of.ensures))

pub returns-clause-each : goal.returns-clause-each
returns-clause-each c i le =
    let part_of = c.args.part_of.now in
    let s = λ (u : ℕ). eqb (get_or part_of u 0) i in
    let all : c.loop-v.v ≡ length c.args.weights.now = omega (arith, c.loop-v-test.false, c.len-v-end.ensures.value, c.loop-v.auto.v-end) in
    c.loop-v.invariant.each i le ∙ (ap (λ (k : ℕ). mass_to c.args.weights.now s k) all ∙ mass_whole c.args.weights.now s)
