-- One arc more, and at the end the root.
use Rattle.std.proofs.Common.{◌≡◌, ℕ, ◌≤◌, subst, arith}
use Rattle.region_flow.proofs.Starting.{edge_weight_small}
use Rattle.region_flow.specs.Tree.{IsWide, wide_root, wide_more}
use Rattle.region_flow.proofs.pulling.bottleneck.Goals as goal

pub loop-at-preserved : goal.loop-at-preserved
loop-at-preserved c =
    let inv = c.loop-at.invariant in
    let at = c.loop-at.at in
    let one : 1 ≤ at = c.loop-at-test.true in
    let step = c.requires.path.linked at one inv.inside in
    let left = c.residual_on.ensures in
    let least = c.min-amount.ensures in
    record {
      inside = omega (arith, step.earlier, inv.inside);
      at_most = omega (arith, least, inv.at_most);
      some = λ is_open most. (let here = is_open at one (omega (arith, inv.inside)) in omega (arith, inv.some is_open most, here, left, least));
      fits = λ a few rest. inv.fits a (omega (arith, few, least))
          (wide_more c.args.toward.now c.args.places.order.now c.args.places.links.now a at one (omega (arith, few, least, left)) rest);
    }

pub returns-after-loop-at-clause-fits : goal.returns-after-loop-at-clause-fits
returns-after-loop-at-clause-fits c = λ some.
    let z : 0 ≡ c.loop-at.at = omega (arith, c.loop-at-test.false) in
    let root = wide_root c.args.toward.now c.args.places.order.now c.args.places.links.now c.loop-at.amount in
    c.loop-at.invariant.fits c.loop-at.amount (omega arith)
    (subst (λ (j : ℕ). IsWide c.args.toward.now c.args.places.order.now c.args.places.links.now c.loop-at.amount j) z root)

pub residual_on-requires-clause-small : goal.residual_on-requires-clause-small
residual_on-requires-clause-small c =
    let arc = (c.requires.path.linked c.loop-at.at c.loop-at-test.true c.loop-at.invariant.inside).arc in
    rw arc.same_weight (edge_weight_small c.args.task.graph.now c.requires.edge_list.is_graph _ arc.within)
