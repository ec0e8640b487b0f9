-- The range takes in the least vertex around as long as it has a greater one, and comes first after that.
use Rattle.std.proofs.Common.{◌≤◌, ◌<◌, inl, inr, length, ap, sym, subst, arith}
use Rattle.rooted_cactus.specs.CutRanges.{Range}
use Rattle.cactus_walk.specs.Weighing.{IsRangeOf, range_of}
use Rattle.canonical_cactus.specs.FirstBest.{IsWithin, count_of, place_at, range_at}
use Rattle.canonical_cactus.specs.declared.first_side.Ends.{Ends}
use Rattle.canonical_cactus.specs.declared.first_side.Ranked.{Ranked}
use Rattle.canonical_cactus.proofs.Around.{border_in, joined_end, joined_next, joined_start, range_fits, same_beyond, vertex_bound}
use Rattle.canonical_cactus.proofs.first_side.Ranked.first_around.Goals as goal

-- both ranges are ranges of the list
bounds_fit : (k : Ranked) (bounds inner : Ends) → IsWithin k bounds inner → IsRangeOf (count_of k) (range_at k bounds)
bounds_fit k bounds inner is = range_fits k bounds.start bounds.start bounds.end bounds.end (omega arith) (omega (arith, is.start, is.some, is.end)) (omega arith) (omega (arith, is.start, is.some, is.end)) is.block

inner_fits : (k : Ranked) (bounds inner : Ends) → IsWithin k bounds inner → IsRangeOf (count_of k) (range_at k inner)
inner_fits k bounds inner is = range_fits k bounds.start inner.start inner.end bounds.end is.start (omega (arith, is.some)) is.end (omega (arith, is.start, is.some, is.end)) is.block

-- the borders of both ranges are in the list of borders
end_in : (k : Ranked) (bounds inner : Ends) → IsWithin k bounds inner → bounds.end < length k.ranges.borders.items
end_in k bounds inner is = border_in k bounds.start bounds.end bounds.end (omega arith) (omega (arith, is.start, is.some, is.end)) is.block

pub span-all-requires-clause-end : goal.span-all-requires-clause-end
span-all-requires-clause-end c = end_in c.args.self.now c.args.bounds c.args.inner c.requires.within

pub span-requires-clause-start : goal.span-requires-clause-start
span-requires-clause-start c = omega (arith, end_in c.args.self.now c.args.bounds c.args.inner c.requires.within, c.requires.within.some, c.requires.within.end)

pub span-requires-clause-end : goal.span-requires-clause-end
span-requires-clause-end c = omega (arith, end_in c.args.self.now c.args.bounds c.args.inner c.requires.within, c.requires.within.end)

pub least_beyond-vertex-requires-clause-span : goal.least_beyond-vertex-requires-clause-span
least_beyond-vertex-requires-clause-span c =
    let k = c.args.self.now in
    subst (IsRangeOf (count_of k)) (sym c.span-all.ensures) (bounds_fit k c.args.bounds c.args.inner c.requires.within)

pub least_beyond-vertex-requires-clause-other : goal.least_beyond-vertex-requires-clause-other
least_beyond-vertex-requires-clause-other c =
    let k = c.args.self.now in
    subst (IsRangeOf (count_of k)) (sym c.span.ensures) (inner_fits k c.args.bounds c.args.inner c.requires.within)

pub taken-init : goal.taken-init
taken-init c =
    let k = c.args.self.now in
    record {
      all = c.span-all.ensures;
      within = c.requires.within;
      start = omega arith;
      end = omega arith;
      least = same_beyond k (range_of c.span-all.result) (range_of c.span.result) (range_at k c.args.bounds) (range_at k c.args.inner) c.least_beyond-vertex.result c.span-all.ensures c.span.ensures
          record { no_less = c.least_beyond-vertex.ensures.no_less; there = c.least_beyond-vertex.ensures.there };
      joined = joined_start k c.args.bounds c.args.inner;
    }

pub span-requires-in-taken-clause-start : goal.span-requires-in-taken-clause-start
span-requires-in-taken-clause-start c =
    let is = c.taken.invariant.within in
    omega (arith, end_in c.args.self.now c.args.bounds c.taken.ends is, is.some, is.end)

pub span-requires-in-taken-clause-end : goal.span-requires-in-taken-clause-end
span-requires-in-taken-clause-end c =
    let is = c.taken.invariant.within in
    omega (arith, end_in c.args.self.now c.args.bounds c.taken.ends is, is.end)

pub has_greater-requires-clause-span : goal.has_greater-requires-clause-span
has_greater-requires-clause-span c =
    let k = c.args.self.now in
    subst (IsRangeOf (count_of k)) (sym c.span-in-taken.ensures) (inner_fits k c.args.bounds c.taken.ends c.taken.invariant.within)

pub with_vertex-ends-requires-clause-vertex : goal.with_vertex-ends-requires-clause-vertex
with_vertex-ends-requires-clause-vertex c =
    let k = c.args.self.now in
    let g = c.has_greater.ensures.some c.taken-test.true in
    let fits = inner_fits k c.args.bounds c.taken.ends c.taken.invariant.within in
    omega (arith, g.3, vertex_bound k g.0 c.requires.ranked (omega (arith, g.2, fits.1, ap (λ (r : Range). r.to) c.span-in-taken.ensures)))

pub with_vertex-ends-requires-clause-around : goal.with_vertex-ends-requires-clause-around
with_vertex-ends-requires-clause-around c =
    let k = c.args.self.now in
    let g = c.has_greater.ensures.some c.taken-test.true in
    let fits = inner_fits k c.args.bounds c.taken.ends c.taken.invariant.within in
    elim c.taken.invariant.least.there [
      | inl e ↦ absurd (omega (arith, e, g.3, vertex_bound k g.0 c.requires.ranked (omega (arith, g.2, fits.1, ap (λ (r : Range). r.to) c.span-in-taken.ensures))))
      | inr w ↦ w
    ]

pub span-requires-in-taken-2-clause-end : goal.span-requires-in-taken-2-clause-end
span-requires-in-taken-2-clause-end c =
    let is = c.with_vertex-ends.ensures.within in
    omega (arith, end_in c.args.self.now c.args.bounds c.with_vertex-ends.result is, is.end)

pub least_beyond-vertex-requires-in-taken-clause-span : goal.least_beyond-vertex-requires-in-taken-clause-span
least_beyond-vertex-requires-in-taken-clause-span c =
    let k = c.args.self.now in
    subst (IsRangeOf (count_of k)) (sym c.taken.invariant.all) (bounds_fit k c.args.bounds c.args.inner c.requires.within)

pub least_beyond-vertex-requires-in-taken-clause-other : goal.least_beyond-vertex-requires-in-taken-clause-other
least_beyond-vertex-requires-in-taken-clause-other c =
    let k = c.args.self.now in
    subst (IsRangeOf (count_of k)) (sym c.span-in-taken-2.ensures) (inner_fits k c.args.bounds c.with_vertex-ends.result c.with_vertex-ends.ensures.within)

pub taken-preserved : goal.taken-preserved
taken-preserved c =
    let k = c.args.self.now in
    let i = c.taken.invariant in
    let old = c.taken.ends in
    let new = c.with_vertex-ends.result in
    let g = c.has_greater.ensures.some c.taken-test.true in
    let from : place_at k old.start ≤ g.0 = omega (arith, g.1, ap (λ (r : Range). r.from) c.span-in-taken.ensures) in
    let to : g.0 < place_at k old.end = omega (arith, g.2, ap (λ (r : Range). r.to) c.span-in-taken.ensures) in
    let moved : (new.start ≤ old.start) × (old.end ≤ new.end) = elim c.with_vertex-ends.ensures.taken [
      | inl t ↦ (omega (arith, t.0), omega (arith, t.2))
      | inr t ↦ (omega (arith, t.0), omega (arith, t.2, t.3))
    ] in
    record {
      all = i.all;
      within = c.with_vertex-ends.ensures.within;
      start = omega (arith, i.start, moved.0);
      end = omega (arith, i.end, moved.1);
      least = same_beyond k (range_of c.span-all.result) (range_of c.span-in-taken-2.result) (range_at k c.args.bounds) (range_at k new) c.least_beyond-vertex-in-taken.result i.all c.span-in-taken-2.ensures
          record { no_less = c.least_beyond-vertex-in-taken.ensures.no_less; there = c.least_beyond-vertex-in-taken.ensures.there };
      joined = joined_next k c.args.bounds c.args.inner old new c.taken.vertex g.0 c.requires.ranked i.within c.with_vertex-ends.ensures.within i.start i.end c.with_vertex-ends.ensures.taken i.least.no_less from to g.3 i.joined;
    }

pub returns-clause-first : goal.returns-clause-first
returns-clause-first c =
    let k = c.args.self.now in
    let i = c.taken.invariant in
    joined_end k c.args.bounds c.args.inner c.taken.ends c.taken.vertex c.requires.ranked i.within i.least.no_less
    (λ q from to. c.has_greater.ensures.none c.taken-test.false q (omega (arith, from, ap (λ (r : Range). r.from) c.span-in-taken.ensures)) (omega (arith, to, ap (λ (r : Range). r.to) c.span-in-taken.ensures)))
    i.joined
