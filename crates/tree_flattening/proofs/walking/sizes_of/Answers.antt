use Rattle.std.proofs.Common.{◌+◌, ◌-◌, ◌∙◌, ap, arith}
use Rattle.std.proofs.lemmas.List.{length-set}
use Rattle.tree_flattening.specs.Arranged.{plan_of}
use Rattle.tree_flattening.specs.Walked.{size_below}
use Rattle.tree_flattening.proofs.Weighing.{sized}
use Rattle.tree_flattening.proofs.walking.sizes_of.Goals as goal

pub nodes-preserved : goal.nodes-preserved
nodes-preserved c =
    let p = plan_of c.args.plan.now in
    let i = c.nodes.node - 1 in
    let old = c.nodes.sizes.items in
    record {
      within = omega (arith, c.nodes.invariant.within);
      len = length-set old i c.in_ok-size.size ∙ c.nodes.invariant.len;
      each = sized p old i c.in_ok-size.size c.requires.plan (omega (arith, c.nodes.invariant.len, c.nodes.invariant.within)) c.nodes.invariant.len
          (c.in_ok-size.ensures ∙ ap (λ l. 1 + size_below p l i) c.deref.ensures.value)
          (λ k from to. c.nodes.invariant.each k (omega (arith, from)) to);
    }
