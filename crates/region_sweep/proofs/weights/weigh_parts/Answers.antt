-- All parts are done one after another.
use Rattle.std.proofs.Common.{◌≡◌, ◌+◌, subst, ℕ, arith}
use Rattle.arc_search.specs.Searched.{is_listed}
use Rattle.region_fronts.specs.Listed.{part_in}
use Rattle.node_tree.specs.Weighed.{listed_below, AreWeighed}
use Rattle.region_sweep.proofs.Weighing.{weighed_first, weighed_last}
use Rattle.region_sweep.proofs.weights.weigh_parts.Goals as goal

pub loop-i-init : goal.loop-i-init
loop-i-init c =
    weighed_first c.args.parted.graph.now c.args.parted.parts.now (part_in c.args.parted.parts.now c.args.flow.now.labels c.args.parted.region) c.clear.new.numbers c.clear-2.new.numbers
    (λ i l. c.clear.ensures i (omega (arith, l, c.count-count.ensures))) (λ i l. c.clear-2.ensures i (omega (arith, l, c.count-count.ensures)))

pub returns-clause-later : goal.returns-clause-later
returns-clause-later c =
    let p = c.args.parted.parts.now in
    let whole : c.loop-i.i ≡ p.count = omega (arith, c.loop-i-test.false, c.loop-i.auto.i-end, c.count-count.ensures) in
    let all = subst (λ (k : ℕ). AreWeighed c.args.parted.graph.now (is_listed p.numbers) (listed_below p.numbers (k + 1)) p.count (part_in p c.args.flow.now.labels c.args.parted.region) c.loop-i.later c.loop-i.next) whole c.loop-i.invariant in
    (weighed_last c.args.parted.graph.now c.args.flow.now.labels c.args.parted.region p c.loop-i.later c.loop-i.next c.requires.listed all).to_later

pub returns-clause-next : goal.returns-clause-next
returns-clause-next c =
    let p = c.args.parted.parts.now in
    let whole : c.loop-i.i ≡ p.count = omega (arith, c.loop-i-test.false, c.loop-i.auto.i-end, c.count-count.ensures) in
    let all = subst (λ (k : ℕ). AreWeighed c.args.parted.graph.now (is_listed p.numbers) (listed_below p.numbers (k + 1)) p.count (part_in p c.args.flow.now.labels c.args.parted.region) c.loop-i.later c.loop-i.next) whole c.loop-i.invariant in
    (weighed_last c.args.parted.graph.now c.args.flow.now.labels c.args.parted.region p c.loop-i.later c.loop-i.next c.requires.listed all).to_next
