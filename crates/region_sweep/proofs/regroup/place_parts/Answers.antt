-- One part more is placed.
use Rattle.std.proofs.Common.{◌≡◌, ℕ, ◌+◌, ◌≤◌, get_or, ◌∙◌, subst, arith}
use Rattle.region_sweep.specs.Regrouping.{ArePlaced, IsAmong}
use Rattle.region_sweep.proofs.Labelling.{around, around_fits}
use Rattle.region_sweep.proofs.Regrouping.{none_placed, one_placed, one_numbered}
use Rattle.region_sweep.proofs.Regrouped.{not_first}
use Rattle.region_sweep.proofs.Refining.{refined_same, refined_after, feed_same, feed_after}
use Rattle.region_sweep.proofs.regroup.place_parts.Goals as goal

pub loop-before-init : goal.loop-before-init
loop-before-init c = record {
  flow = c.requires.flow;
  placed = none_placed c.args.parted.parts.now.numbers c.args.flow.now.labels c.args.homes.now c.args.nodes.now c.args.fresh;
  numbered = around c.args.parted.graph.now.vertices c.args.flow.now.labels c.args.parted.region c.args.t c.args.fresh c.requires.numbered c.requires.to_n c.requires.label c.requires.outside;
  refined = refined_same c.args.flow.now.labels;
  fed = feed_same c.args.parted.graph.now c.args.flow.now;
}

pub place_part-fresh-requires-clause-list : goal.place_part-fresh-requires-clause-list
place_part-fresh-requires-clause-list c = c.requires.listed.lists (c.loop-before.before + 1) (omega arith) (omega (arith, c.loop-before-test.true, c.count-before-end.ensures))

pub place_part-fresh-requires-clause-fits : goal.place_part-fresh-requires-clause-fits
place_part-fresh-requires-clause-fits c = around_fits c.args.parted.graph.now.vertices c.loop-before.flow.labels c.args.parted.region c.args.t c.loop-before.fresh c.loop-before.invariant.numbered

pub loop-before-preserved : goal.loop-before-preserved
loop-before-preserved c =
    let n = c.args.parted.graph.now.vertices in
    let p = c.args.parted.parts.now in
    let old = c.args.flow.now.labels in
    let labels = c.loop-before.flow.labels in
    let i = c.loop-before.before + 1 in
    let node = get_or c.args.nodes.now i 0 in
    let placed = c.loop-before.invariant.placed in
    let some : 1 ≤ c.args.fresh = omega (arith, c.requires.numbered.below 0) in
    let inside = λ (v : ℕ) (e : get_or p.numbers v 0 ≡ i). (
    let off = λ (a : IsAmong p.numbers c.loop-before.before v). (let r : ⊥ = omega (arith, a.early, e) in r) in
    placed.kept v off ∙ c.requires.listed.inside v (omega (arith, e))) in
    record {
      flow = c.place_part-fresh.ensures.flow;
      placed = one_placed p.numbers old labels c.place_part-fresh.new.flow.labels c.args.homes.now c.loop-before.homes c.place_part-fresh.new.homes c.args.nodes.now c.loop-before.before
          c.args.fresh c.loop-before.fresh c.place_part-fresh.result some c.requires.numbered.below placed c.place_part-fresh.ensures.placed;
      numbered = one_numbered n p.numbers labels c.place_part-fresh.new.flow.labels c.loop-before.homes c.place_part-fresh.new.homes i node c.args.parted.region c.args.t
          c.loop-before.fresh c.place_part-fresh.result c.loop-before.invariant.numbered c.place_part-fresh.ensures.placed c.requires.listed.numbers_length (omega arith)
          (not_first n old c.args.parted.region c.args.t i p c.requires.listed c.requires.last) c.requires.outside
          (omega (arith, c.requires.numbered.below c.args.t, c.requires.label, placed.more)) inside;
      refined = refined_after old labels c.place_part-fresh.new.flow.labels c.loop-before.invariant.refined c.place_part-fresh.ensures.refined;
      fed = feed_after c.args.parted.graph.now c.args.flow.now c.loop-before.flow c.place_part-fresh.new.flow c.loop-before.invariant.fed c.place_part-fresh.ensures.fed c.place_part-fresh.ensures.refined;
    }

pub overflow_add-i : goal.overflow_add-i
overflow_add-i c = omega arith

pub overflow_cast-node : goal.overflow_cast-node
overflow_cast-node c = omega arith

pub offset_bounds-nodes-i : goal.offset_bounds-nodes-i
offset_bounds-nodes-i c = omega arith

pub bounds-nodes-i : goal.bounds-nodes-i
bounds-nodes-i c = omega (arith, c.requires.nodes, c.loop-before-test.true, c.count-before-end.ensures)

pub place_part-fresh-requires-clause-flow : goal.place_part-fresh-requires-clause-flow
place_part-fresh-requires-clause-flow c = c.loop-before.invariant.flow

pub place_part-fresh-requires-clause-from_one : goal.place_part-fresh-requires-clause-from_one
place_part-fresh-requires-clause-from_one c = omega arith

pub place_part-fresh-requires-clause-to_count : goal.place_part-fresh-requires-clause-to_count
place_part-fresh-requires-clause-to_count c = omega (arith, c.loop-before-test.true, c.count-before-end.ensures)

pub place_part-fresh-requires-clause-numbers : goal.place_part-fresh-requires-clause-numbers
place_part-fresh-requires-clause-numbers c = c.requires.listed.numbers_length

pub place_part-fresh-requires-clause-outside : goal.place_part-fresh-requires-clause-outside
place_part-fresh-requires-clause-outside c = c.requires.outside

pub place_part-fresh-requires-clause-inside : goal.place_part-fresh-requires-clause-inside
place_part-fresh-requires-clause-inside c = λ v e.
    let placed = c.loop-before.invariant.placed in
    let off = λ (a : IsAmong c.args.parted.parts.now.numbers c.loop-before.before v). (let r : ⊥ = omega (arith, a.early, e) in r) in
    placed.kept v off ∙ c.requires.listed.inside v (omega (arith, e))

pub place_part-fresh-requires-clause-region : goal.place_part-fresh-requires-clause-region
place_part-fresh-requires-clause-region c = omega (arith, c.requires.numbered.below c.args.t, c.requires.label, c.loop-before.invariant.placed.more)

pub place_part-fresh-requires-clause-fresh : goal.place_part-fresh-requires-clause-fresh
place_part-fresh-requires-clause-fresh c = c.loop-before.invariant.numbered.below

pub place_part-fresh-requires-clause-entered : goal.place_part-fresh-requires-clause-entered
place_part-fresh-requires-clause-entered c = c.loop-before.invariant.placed.lengths.entered ∙ c.requires.entered

pub place_part-fresh-requires-clause-regions : goal.place_part-fresh-requires-clause-regions
place_part-fresh-requires-clause-regions c = c.loop-before.invariant.placed.lengths.regions ∙ c.requires.regions

pub returns-clause-flow : goal.returns-clause-flow
returns-clause-flow c = c.loop-before.invariant.flow

pub returns-clause-placed : goal.returns-clause-placed
returns-clause-placed c =
    let p = c.args.parted.parts.now in
    let all : c.loop-before.before ≡ p.count = omega (arith, c.loop-before-test.false, c.loop-before.auto.before-end, c.count-before-end.ensures) in
    subst (λ (k : ℕ). ArePlaced p.numbers c.args.flow.now.labels c.loop-before.flow.labels c.args.homes.now c.loop-before.homes c.args.nodes.now k c.args.fresh c.loop-before.fresh) all
    c.loop-before.invariant.placed

pub returns-clause-numbered : goal.returns-clause-numbered
returns-clause-numbered c = c.loop-before.invariant.numbered

pub returns-clause-refined : goal.returns-clause-refined
returns-clause-refined c = c.loop-before.invariant.refined

pub returns-clause-fed : goal.returns-clause-fed
returns-clause-fed c = c.loop-before.invariant.fed
