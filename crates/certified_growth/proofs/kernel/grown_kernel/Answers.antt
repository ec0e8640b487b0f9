-- Each vertex has an owner of a set, and the sets are in their order.
use Rattle.std.proofs.Common.{ℕ, List, Option, ◌+◌, ◌<◌, length, get_or, ap, sym, ◌∙◌, subst, arith}
use Rattle.std.specs.Prelude.{IfSome}
use Rattle.certified_growth.specs.declared.grown_set.GrownSet.{GrownSet}
use Rattle.certified_growth.specs.declared.ranges.Divided.{Divided}
use Rattle.certified_growth.specs.GrownSets.{AreInOrder, IsDivided}
use Rattle.certified_growth.proofs.kernel.grown_kernel.Goals as goal

pub contract_sets-requires-clause-sets : goal.contract_sets-requires-clause-sets
contract_sets-requires-clause-sets o c =
    let g = c.args.graph.now in
    let least = c.args.value + 1 in
    let sets = c.deref-3.result.now in
    let owned_by = c.deref-2.ensures.value in
    let d : IsDivided g c.in-Some.divided = subst (λ (x : Option Divided). IfSome x (IsDivided g)) c.in-Some.is c.in_ok-divided.ensures in
    let each = subst (λ x. IfSome x (λ s. AreInOrder g least c.deref.result.now s.items)) c.in-Some-2.is c.in_ok-sets.ensures in
    record {
      long = ap length owned_by ∙ d.long;
      owned = λ v v1 vn.
          let own = d.owned v 0 (omega (arith, d.long, vn)) in
          subst (λ (xs : List ℕ). get_or xs v 0 < length sets) (sym owned_by)
          (omega (arith, own, c.if-len-count.false, c.len.ensures, c.deref-3.ensures.len));
      each =
          subst (λ (xs : List ℕ). AreInOrder g least xs sets) (c.deref.ensures.value ∙ sym owned_by)
          (subst (λ (xs : List GrownSet). AreInOrder g least c.deref.result.now xs) (sym c.deref-3.ensures.value) each);
    }
