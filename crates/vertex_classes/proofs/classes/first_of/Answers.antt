-- A step halves the way.
use Rattle.std.proofs.Common.{◌<◌, ◌≤◌, get_or, refl, length, sym, ◌∙◌, ap, arith}
use Rattle.vertex_classes.proofs.Joining.{same_classes-more, parents-set, firsts-set, halved}
use Rattle.vertex_classes.proofs.classes.first_of.Goals as goal

pub loop-parents-preserved : goal.loop-parents-preserved
loop-parents-preserved c =
    let ps = c.loop-parents.parents in
    let a = c.loop-parents.at in
    let p = get_or ps a 0 in
    let x = get_or ps p 0 in
    let inv = c.loop-parents.invariant in
    let la : a < length ps = omega (arith, inv.within, inv.same.long) in
    let up : p ≤ a = inv.parents a la in
    let upper : x ≤ p = inv.parents p (omega arith) in
    let step = halved ps a p la refl (omega arith) in
    record {
      parents = parents-set ps a x inv.parents (omega arith);
      same = same_classes-more c.args.parents.now ps _ inv.same step;
      firsts = λ u first. firsts-set ps a x u (λ e. c.loop-parents-test.true (ap (λ k. get_or ps k 0) (sym e) ∙ (inv.firsts u first ∙ e))) (inv.firsts u first);
      joined = λ s h.
          let here = (inv.same.respected s).1 h in
          here p (omega arith) ∙ (here a la ∙ inv.joined s h);
      within = omega (arith, inv.within);
    }
