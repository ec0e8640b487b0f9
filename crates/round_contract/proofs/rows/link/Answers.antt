use Rattle.std.proofs.Common.{◌≡◌, ℕ, ◌+◌, ◌-◌, ◌≤◌, ◌∙◌, set, get_or, subst, sym, length-set, arith}
use Rattle.cut_definitions.specs.Contraction.{classes, label}
use Rattle.round_contract.specs.Rows.{AreFirst, AreNext}
use Rattle.round_contract.proofs.RowSums.{first_linked, next_linked}
use Rattle.round_contract.proofs.rows.link.Goals as goal

pub loop-v-preserved : goal.loop-v-preserved
loop-v-preserved c =
    let i = c.loop-v.invariant in
    let v = c.loop-v.v in
    let labels = c.args.labels.now in
    let next_v : v - 1 + 1 ≡ v = omega (arith, c.loop-v-test.true) in
    let at : c.label-class.result ≡ label labels v = c.label-class.ensures.value in
    let fits : label labels v ≤ classes labels = omega (arith, at, c.label-class.ensures.to_classes) in
    record {
      low = omega (arith, i.low);
      classes = length-set c.loop-v.first c.label-class.result v ∙ i.classes;
      vertices = length-set c.loop-v.next v (get_or c.loop-v.first c.label-class.result 0) ∙ i.vertices;
      first = subst (λ (k : ℕ). AreFirst labels k (set c.loop-v.first c.label-class.result v)) (sym next_v)
          (subst (λ (k : ℕ). AreFirst labels v (set c.loop-v.first k v)) (sym at) (first_linked labels c.loop-v.first v i.low i.classes i.first));
      next = subst (λ (k : ℕ). AreNext labels k (set c.loop-v.next v (get_or c.loop-v.first c.label-class.result 0))) (sym next_v)
          (subst (λ (k : ℕ). AreNext labels v (set c.loop-v.next v (get_or c.loop-v.first k 0))) (sym at) (next_linked labels c.loop-v.first c.loop-v.next v i.low fits i.vertices i.first i.next));
    }
