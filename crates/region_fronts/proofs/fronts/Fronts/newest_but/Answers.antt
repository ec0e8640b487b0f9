-- The entries are looked at from the last one on.
use Rattle.std.proofs.Common.{◌≡◌, ◌-◌, ⊎_elim, ℕ, length, get_or, sym, subst, ap, ◌∙◌, arith}
use Rattle.std.specs.Prelude.{◌≢◌}
use Rattle.std.proofs.lemmas.Bool.{cases_eq, false≢true}
use Rattle.region_fronts.specs.Fronts.{list_at}
use Rattle.region_fronts.specs.Newest.{IsAnother, IsNewestBut, IsNoneFrom}
use Rattle.region_fronts.proofs.fronts.Fronts.newest_but.Goals as goal

pub returns-then-is_another-clause-some : goal.returns-then-is_another-clause-some
returns-then-is_another-clause-some c =
    let lists = c.args.self.now.lists in
    let end = c.min-back-end.ensures in
    let count = c.count-count.ensures in
    subst (λ (r : ℕ). IsNewestBut c.args.graph.now c.args.labels.now c.args.t (list_at lists r) c.at-v.result) c.label-region.ensures
    (record {
      place = c.count-count.result - 1 - c.loop-back.back;
      within = omega (arith, c.loop-back-test.true, end, count);
      late = omega (arith, c.loop-back-test.true, end, count);
      there = sym c.at-v.ensures.value;
      another = c.is_another.ensures.0 c.if-is_another.true;
      later = λ k a l. c.loop-back.invariant k (omega (arith, a, c.loop-back-test.true, end)) l;
    })

pub loop-back-preserved : goal.loop-back-preserved
loop-back-preserved c = λ k a l h.
    let list = list_at c.args.self.now.lists c.label-region.result in
    let here = c.count-count.result - 1 - c.loop-back.back in
    ⊎_elim
    (λ (e : k ≡ here).
    let there = subst (λ (v : ℕ). IsAnother c.args.graph.now c.args.labels.now c.args.t v) (ap (λ (j : ℕ). get_or list j 0) e ∙ sym c.at-v.ensures.value) h in
    false≢true (sym c.if-is_another.false ∙ c.is_another.ensures.1 there))
    (λ (ne : k ≢ here). c.loop-back.invariant k (omega (arith, a, ne, c.loop-back-test.true, c.min-back-end.ensures)) l h)
    (cases_eq k here)

pub returns-clause-none : goal.returns-clause-none
returns-clause-none c = λ _.
    let lists = c.args.self.now.lists in
    subst (λ (r : ℕ). IsNoneFrom c.args.graph.now c.args.labels.now c.args.t (list_at lists r) (length (list_at lists r) - 4)) c.label-region.ensures
    (λ k a l. c.loop-back.invariant k (omega (arith, a, c.loop-back-test.false, c.min-back-end.ensures, c.count-count.ensures)) l)
