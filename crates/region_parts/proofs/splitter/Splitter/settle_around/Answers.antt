-- One place more is settled.
use Rattle.std.proofs.Common.{ℕ, ◌∙◌, sym, subst, arith}
use Rattle.region_parts.specs.Passed.{HoldsBefore, IsListedIn, list_around, place_in, side_around}
use Rattle.region_parts.specs.Split.{IsSettledIn}
use Rattle.region_parts.specs.Hubs.{hub_vertex}
use Rattle.region_parts.proofs.BetweenLemmas.{listed_settled}
use Rattle.region_parts.proofs.Passing.{all_read, all_settling, at_place, before_end, before_on, begun_around, kept_around, less_around, settled_next}
use Rattle.region_parts.proofs.RacesAround.{front_on, goes_on_more, goes_on_start, more_same}
use Rattle.region_parts.proofs.splitter.Splitter.settle_around.Goals as goal

pub places-init : goal.places-init
places-init c =
    let around = c.args.around in
    let side = side_around around in
    let g = c.args.region.graph.now in
    let f = c.args.region.flow.now in
    let t = c.args.region.t in
    let s = c.args.self.now in
    let list = list_around around f t c.args.fronts.now s in
    record {
      searching = c.requires.searching;
      near = c.requires.near;
      goes_on = goes_on_start side s;
      front = c.requires.front;
      begun = c.requires.begun;
      passed = c.requires.passed;
      settled = subst (λ (k : ℕ). HoldsBefore (IsSettledIn side g f t s) list k) (sym c.place-place.ensures)
          (before_on (IsListedIn f t s) (IsSettledIn side g f t s) list list (place_in c.args.passed around) (λ v. listed_settled side g f t (hub_vertex s.hub.hub) v s) (more_same list)
          (at_place around f t c.args.fronts.now s c.args.passed c.requires.passed));
      onward = omega (arith, c.place-place.ensures);
    }

pub settle-requires-clause-begun : goal.settle-requires-clause-begun
settle-requires-clause-begun c =
    let inv = c.places.invariant in
    begun_around c.args.around c.args.region.graph.now c.args.region.flow.now c.args.region.t c.places.fronts c.vertex_at.new.fronts c.places.self c.places.place c.vertex_at.ensures.read
    inv.searching (λ no. inv.goes_on.unread (λ e. no (inv.goes_on.hub ∙ e)) ∙ c.requires.unread) inv.begun

pub returns-then-not-branch-clause-goes_on : goal.returns-then-not-branch-clause-goes_on
returns-then-not-branch-clause-goes_on c =
    goes_on_more (side_around c.args.around) c.args.self.now c.places.self c.settle.new.self c.places.invariant.goes_on (rw c.side.ensures at c.in_ok-settle.ensures.goes_on)

pub returns-then-not-branch-clause-front : goal.returns-then-not-branch-clause-front
returns-then-not-branch-clause-front c =
    front_on c.args.region.graph.now c.args.region.flow.now c.args.region.t c.places.self.hub.hub c.vertex_at.new.fronts c.settle.new.fronts c.vertex_at.ensures.front c.settle.ensures.fronts

pub returns-then-not-branch-clause-passed : goal.returns-then-not-branch-clause-passed
returns-then-not-branch-clause-passed c =
    let inv = c.places.invariant in
    let f = c.args.region.flow.now in
    let t = c.args.region.t in
    let s = c.places.self in
    let read = c.vertex_at.new.fronts in
    let step = c.in_ok-settle.ensures in
    all_settling (side_around c.args.around) c.args.region.graph.now f t read c.settle.new.fronts s c.settle.new.self c.args.passed
    (all_read c.args.around f t c.places.fronts read s c.args.passed c.places.place inv.onward c.vertex_at.ensures.read inv.passed)
    inv.searching (rw c.side.ensures at step.searching) (rw c.side.ensures at step.goes_on) c.settle.ensures.fronts

pub places-smaller : goal.places-smaller
places-smaller c =
    less_around c.args.around c.args.region.graph.now c.args.region.flow.now c.args.region.t c.places.fronts c.vertex_at.new.fronts c.settle.new.fronts c.places.self c.places.place c.in-Some.v
    c.vertex_at.ensures.read c.places.invariant.searching c.settle.ensures.fronts c.in-Some.ensures.at

pub places-preserved : goal.places-preserved
places-preserved c =
    let inv = c.places.invariant in
    let around = c.args.around in
    let side = side_around around in
    let g = c.args.region.graph.now in
    let f = c.args.region.flow.now in
    let t = c.args.region.t in
    let s = c.places.self in
    let new = c.settle.new.self in
    let read = c.vertex_at.new.fronts in
    let step = c.in_ok-settle.ensures in
    let searching = rw c.side.ensures at step.searching in
    let on = rw c.side.ensures at step.goes_on in
    record {
      searching = searching;
      near = step.near;
      goes_on = goes_on_more side c.args.self.now s new inv.goes_on on;
      front = front_on g f t s.hub.hub read c.settle.new.fronts c.vertex_at.ensures.front c.settle.ensures.fronts;
      begun = step.begun;
      passed = all_settling side g f t read c.settle.new.fronts s new c.args.passed
          (all_read around f t c.places.fronts read s c.args.passed c.places.place inv.onward c.vertex_at.ensures.read inv.passed) inv.searching searching on c.settle.ensures.fronts;
      settled = settled_next around g f t read c.settle.new.fronts s new c.places.place c.in-Some.v inv.searching on c.settle.ensures.fronts c.in-Some.ensures.at
          (rw c.side.ensures at step.settled c.if-not-branch.false) (kept_around (IsSettledIn side g f t s) around f t c.places.fronts read s c.places.place c.vertex_at.ensures.read inv.settled);
      onward = omega (arith, inv.onward);
    }

pub returns-clause-begun : goal.returns-clause-begun
returns-clause-begun c =
    let inv = c.places.invariant in
    begun_around c.args.around c.args.region.graph.now c.args.region.flow.now c.args.region.t c.places.fronts c.vertex_at.new.fronts c.places.self c.places.place c.vertex_at.ensures.read
    inv.searching (λ no. inv.goes_on.unread (λ e. no (inv.goes_on.hub ∙ e)) ∙ c.requires.unread) inv.begun

pub returns-clause-passed : goal.returns-clause-passed
returns-clause-passed c =
    let inv = c.places.invariant in
    all_read c.args.around c.args.region.flow.now c.args.region.t c.places.fronts c.vertex_at.new.fronts c.places.self c.args.passed c.places.place inv.onward c.vertex_at.ensures.read inv.passed

pub returns-clause-settled : goal.returns-clause-settled
returns-clause-settled c = λ _.
    let f = c.args.region.flow.now in
    let t = c.args.region.t in
    let good = IsSettledIn (side_around c.args.around) c.args.region.graph.now f t c.places.self in
    before_end good (list_around c.args.around f t c.vertex_at.new.fronts c.places.self) c.places.place (c.vertex_at.ensures.end c.in_default.is)
    (kept_around good c.args.around f t c.places.fronts c.vertex_at.new.fronts c.places.self c.places.place c.vertex_at.ensures.read c.places.invariant.settled)

pub vertex_at-requires-clause-flow : goal.vertex_at-requires-clause-flow
vertex_at-requires-clause-flow c = c.requires.flow

pub vertex_at-requires-clause-between : goal.vertex_at-requires-clause-between
vertex_at-requires-clause-between c = c.places.invariant.searching.between

pub vertex_at-requires-clause-front : goal.vertex_at-requires-clause-front
vertex_at-requires-clause-front c = c.places.invariant.front

pub settle-requires-clause-flow : goal.settle-requires-clause-flow
settle-requires-clause-flow c = c.requires.flow

pub settle-requires-clause-searching : goal.settle-requires-clause-searching
settle-requires-clause-searching c = rw c.side.ensures c.places.invariant.searching

pub settle-requires-clause-near : goal.settle-requires-clause-near
settle-requires-clause-near c = c.places.invariant.near

pub settle-requires-clause-front : goal.settle-requires-clause-front
settle-requires-clause-front c = c.vertex_at.ensures.front

pub settle-requires-clause-from_one : goal.settle-requires-clause-from_one
settle-requires-clause-from_one c = c.in-Some.ensures.vertex.0

pub settle-requires-clause-to_n : goal.settle-requires-clause-to_n
settle-requires-clause-to_n c = c.in-Some.ensures.vertex.1

pub returns-in_err-settle-clause-front : goal.returns-in_err-settle-clause-front
returns-in_err-settle-clause-front c =
    front_on c.args.region.graph.now c.args.region.flow.now c.args.region.t c.places.self.hub.hub c.vertex_at.new.fronts c.settle.new.fronts c.vertex_at.ensures.front c.settle.ensures.fronts

pub returns-then-not-branch-clause-searching : goal.returns-then-not-branch-clause-searching
returns-then-not-branch-clause-searching c = rw c.side.ensures at c.in_ok-settle.ensures.searching

pub returns-then-not-branch-clause-near : goal.returns-then-not-branch-clause-near
returns-then-not-branch-clause-near c = c.in_ok-settle.ensures.near

pub returns-then-not-branch-clause-begun : goal.returns-then-not-branch-clause-begun
returns-then-not-branch-clause-begun c = c.in_ok-settle.ensures.begun

pub returns-then-not-branch-clause-settled : goal.returns-then-not-branch-clause-settled
returns-then-not-branch-clause-settled c = λ done. cc

pub returns-then-not-branch-clause-ended : goal.returns-then-not-branch-clause-ended
returns-then-not-branch-clause-ended c = λ ended. c.in_ok-settle.ensures.ended c.if-not-branch.true

pub returns-clause-searching : goal.returns-clause-searching
returns-clause-searching c = c.places.invariant.searching

pub returns-clause-near : goal.returns-clause-near
returns-clause-near c = c.places.invariant.near

pub returns-clause-goes_on : goal.returns-clause-goes_on
returns-clause-goes_on c = c.places.invariant.goes_on

pub returns-clause-front : goal.returns-clause-front
returns-clause-front c = c.vertex_at.ensures.front

pub returns-clause-ended : goal.returns-clause-ended
returns-clause-ended c = λ ended. cc
