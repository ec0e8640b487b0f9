-- One place more is passed.
use Rattle.std.proofs.Common.{ℕ, ◌+◌, ◌-◌, ◌<◌, length, sym, subst, arith}
use Rattle.std.specs.Prelude.{Option, IfSome}
use Rattle.std.proofs.lemmas.Option.{slice_get_past, slice_get_within}
use Rattle.region_parts.specs.Passed.{IsLeft, IsListedIn, list_around}
use Rattle.region_parts.proofs.Passing.{all_read, at_place, before_next, kept_around}
use Rattle.region_parts.proofs.splitter.Splitter.pass_around.Goals as goal

pub returns-then-is_left-clause-passed : goal.returns-then-is_left-clause-passed
returns-then-is_left-clause-passed c =
    let inv = c.places.invariant in
    all_read c.args.around c.args.region.flow.now c.args.region.t c.places.fronts c.vertex_at.new.fronts c.args.self.now c.args.passed c.places.place inv.onward c.vertex_at.ensures.read inv.passed

pub returns-then-is_left-clause-further : goal.returns-then-is_left-clause-further
returns-then-is_left-clause-further c =
    let f = c.args.region.flow.now in
    let t = c.args.region.t in
    kept_around (IsListedIn f t c.args.self.now) c.args.around f t c.places.fronts c.vertex_at.new.fronts c.args.self.now c.places.place c.vertex_at.ensures.read c.places.invariant.further

pub places-smaller : goal.places-smaller
places-smaller c =
    let f = c.args.region.flow.now in
    let t = c.args.region.t in
    let old = list_around c.args.around f t c.places.fronts c.args.self.now in
    let new = list_around c.args.around f t c.vertex_at.new.fronts c.args.self.now in
    let l = slice_get_within new c.places.place c.in-Some.v c.in-Some.ensures.at in
    let less : length new - (c.places.place + 1) < length old - c.places.place = omega (arith, l, c.vertex_at.ensures.read.shorter) in
    less

pub places-preserved : goal.places-preserved
places-preserved c =
    let inv = c.places.invariant in
    let f = c.args.region.flow.now in
    let t = c.args.region.t in
    let s = c.args.self.now in
    let read = c.vertex_at.new.fronts in
    record {
      front = c.vertex_at.ensures.front;
      passed = all_read c.args.around f t c.places.fronts read s c.args.passed c.places.place inv.onward c.vertex_at.ensures.read inv.passed;
      further = before_next (IsListedIn f t s) (list_around c.args.around f t read s) c.places.place c.in-Some.v c.in-Some.ensures.at (c.is_left.ensures.no c.if-is_left.false)
          (kept_around (IsListedIn f t s) c.args.around f t c.places.fronts read s c.places.place c.vertex_at.ensures.read inv.further);
      onward = omega (arith, inv.onward);
    }

pub returns-clause-passed : goal.returns-clause-passed
returns-clause-passed c =
    let inv = c.places.invariant in
    all_read c.args.around c.args.region.flow.now c.args.region.t c.places.fronts c.vertex_at.new.fronts c.args.self.now c.args.passed c.places.place inv.onward c.vertex_at.ensures.read inv.passed

pub returns-clause-further : goal.returns-clause-further
returns-clause-further c =
    let f = c.args.region.flow.now in
    let t = c.args.region.t in
    kept_around (IsListedIn f t c.args.self.now) c.args.around f t c.places.fronts c.vertex_at.new.fronts c.args.self.now c.places.place c.vertex_at.ensures.read c.places.invariant.further

pub returns-clause-left : goal.returns-clause-left
returns-clause-left c =
    let f = c.args.region.flow.now in
    let t = c.args.region.t in
    let list = list_around c.args.around f t c.vertex_at.new.fronts c.args.self.now in
    subst (λ (o : Option ℕ). IfSome o (IsLeft f t c.args.self.now)) (sym (slice_get_past list c.places.place (c.vertex_at.ensures.end c.in_default.is))) tt

pub vertex_at-requires-clause-flow : goal.vertex_at-requires-clause-flow
vertex_at-requires-clause-flow c = c.requires.flow

pub vertex_at-requires-clause-between : goal.vertex_at-requires-clause-between
vertex_at-requires-clause-between c = c.requires.between

pub vertex_at-requires-clause-front : goal.vertex_at-requires-clause-front
vertex_at-requires-clause-front c = c.places.invariant.front

pub returns-then-is_left-clause-front : goal.returns-then-is_left-clause-front
returns-then-is_left-clause-front c = c.vertex_at.ensures.front

pub returns-then-is_left-clause-left : goal.returns-then-is_left-clause-left
returns-then-is_left-clause-left c = rw c.in-Some.ensures.at (c.is_left.ensures.yes c.if-is_left.true)

pub returns-clause-front : goal.returns-clause-front
returns-clause-front c = c.vertex_at.ensures.front

pub is_left-requires-clause-v : goal.is_left-requires-clause-v
is_left-requires-clause-v c = omega (arith, c.in-Some.ensures.vertex.1, c.requires.flow.labels_length)

pub is_left-requires-clause-t : goal.is_left-requires-clause-t
is_left-requires-clause-t c = omega (arith, c.requires.between.region.at_border.to_n, c.requires.flow.labels_length)

pub is_left-requires-clause-inner : goal.is_left-requires-clause-inner
is_left-requires-clause-inner c = omega (arith, c.in-Some.ensures.vertex.1, c.requires.between.halves.inner_half.kept.turns_length)

pub is_left-requires-clause-outer : goal.is_left-requires-clause-outer
is_left-requires-clause-outer c = omega (arith, c.in-Some.ensures.vertex.1, c.requires.between.halves.outer_half.kept.turns_length)

pub overflow_add-place : goal.overflow_add-place
overflow_add-place c = omega (arith, c.in-Some.ensures.next)

pub places-init : goal.places-init
places-init c = record {
  front = c.requires.front;
  passed = c.requires.passed;
  further = rw c.place-place.ensures (at_place c.args.around c.args.region.flow.now c.args.region.t c.args.fronts.now c.args.self.now c.args.passed c.requires.passed);
  onward = omega arith;
}
