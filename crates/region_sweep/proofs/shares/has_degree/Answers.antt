-- A vertex alone is a cut, and no vertex before has so small a degree.
use Rattle.std.proofs.Common.{◌≡◌, ℕ, ◌+◌, ◌<◌, ⊎_elim, sym, subst, arith}
use Rattle.std.specs.Prelude.{◌≢◌}
use Rattle.std.proofs.lemmas.Bool.{cases_eq}
use Rattle.cut_definitions.specs.Scan.{single}
use Rattle.cut_definitions.specs.Weight.{weight}
use Rattle.least_cut.proofs.Sweeping.{value-le_degree}
use Rattle.region_sweep.proofs.shares.has_degree.Goals as goal

pub returns-then-degree-clause-value : goal.returns-then-degree-clause-value
returns-then-degree-clause-value c = λ _.
    let one = value-le_degree c.args.graph.now c.n-n.ensures.edge_list.is_graph (c.loop-v.v + 1) c.requires (omega arith) (omega (arith, c.loop-v-test.true, c.n-n.ensures.value)) in
    omega (arith, one, c.degree.ensures, c.if-degree.true)

pub returns-then-degree-clause-some : goal.returns-then-degree-clause-some
returns-then-degree-clause-some c = λ _. (c.loop-v.v + 1, omega arith, omega (arith, c.loop-v-test.true, c.n-n.ensures.value), omega (arith, c.degree.ensures, c.if-degree.true))

pub loop-v-init : goal.loop-v-init
loop-v-init c = λ v from to. absurd (omega (arith, from, to))

pub loop-v-preserved : goal.loop-v-preserved
loop-v-preserved c = λ v from to. ⊎_elim
    (λ (e : v ≡ c.loop-v.v + 1). subst (λ (w : ℕ). c.args.degree < weight c.args.graph.now (single w)) (sym e) (omega (arith, c.degree.ensures, c.if-degree.false)))
    (λ (ne : v ≢ c.loop-v.v + 1). c.loop-v.invariant v from (omega (arith, to, ne)))
    (cases_eq v (c.loop-v.v + 1))

pub returns-clause-none : goal.returns-clause-none
returns-clause-none c = λ _ v from to. c.loop-v.invariant v from (omega (arith, to, c.loop-v-test.false, c.n-n.ensures.value))
