-- The vertex is before the range or after it.
use Rattle.std.proofs.Common.{◌≤◌, inl, inr, ap, arith}
use Rattle.std.proofs.lemmas.Bool.{cases_eq}
use Rattle.rooted_cactus.specs.CutRanges.{Range}
use Rattle.canonical_cactus.specs.FirstBest.{place_at}
use Rattle.canonical_cactus.proofs.Around.{apart_borders, has_here, not_here, range_fits, same_last}
use Rattle.canonical_cactus.proofs.first_side.Ranked.with_vertex.Goals as goal

pub least-requires-clause-from : goal.least-requires-clause-from
least-requires-clause-from c =
    let k = c.args.self.now in
    let fits = range_fits k c.args.bounds.start c.args.bounds.start c.args.inner.start c.args.bounds.end (omega arith) c.requires.within.start (omega (arith, c.requires.within.some, c.requires.within.end)) (omega (arith, c.requires.within.start, c.requires.within.some, c.requires.within.end)) c.requires.within.block in
    omega (arith, fits.0, fits.1, ap (λ (r : Range). r.from) c.between-before.ensures.is, c.requires.ranked.least_size)

pub least-requires-clause-to : goal.least-requires-clause-to
least-requires-clause-to c =
    let k = c.args.self.now in
    let fits = range_fits k c.args.bounds.start c.args.bounds.start c.args.inner.start c.args.bounds.end (omega arith) c.requires.within.start (omega (arith, c.requires.within.some, c.requires.within.end)) (omega (arith, c.requires.within.start, c.requires.within.some, c.requires.within.end)) c.requires.within.block in
    omega (arith, fits.1, ap (λ (r : Range). r.to) c.between-before.ensures.is, c.requires.ranked.least_size)

pub last_with-requires-clause-has : goal.last_with-requires-clause-has
last_with-requires-clause-has c =
    let k = c.args.self.now in
    let fits = range_fits k c.args.bounds.start c.args.bounds.start c.args.inner.start c.args.bounds.end (omega arith) c.requires.within.start (omega (arith, c.requires.within.some, c.requires.within.end)) (omega (arith, c.requires.within.start, c.requires.within.some, c.requires.within.end)) c.requires.within.block in
    has_here k c.args.bounds.start c.args.inner.start c.args.vertex c.least.result c.between-before.result c.requires.ranked c.between-before.ensures.is fits.1 c.least.ensures c.if-least-vertex.true c.requires.vertex

pub first_with-requires-clause-within : goal.first_with-requires-clause-within
first_with-requires-clause-within c =
    omega (arith, same_last c.args.self.now c.args.bounds.start c.args.inner.end (omega (arith, c.requires.within.start, c.requires.within.some)) (omega (arith, c.requires.within.end, c.requires.within.block)), c.requires.within.block)

pub first_with-requires-clause-behind : goal.first_with-requires-clause-behind
first_with-requires-clause-behind c =
    let k = c.args.self.now in
    let fits = range_fits k c.args.bounds.start c.args.bounds.start c.args.inner.start c.args.bounds.end (omega arith) c.requires.within.start (omega (arith, c.requires.within.some, c.requires.within.end)) (omega (arith, c.requires.within.start, c.requires.within.some, c.requires.within.end)) c.requires.within.block in
    let w = c.requires.around in
    let p = w.0 in
    let behind : place_at k c.args.inner.end ≤ p = elim w.1.2 [
      | inl before ↦ elim (not_here k c.args.bounds.start c.args.inner.start c.args.vertex c.least.result p c.between-before.result c.requires.ranked c.between-before.ensures.is fits.1 c.least.ensures (omega (arith, c.if-least-vertex.false)) (omega (arith, w.2))) [
        | inl l ↦ absurd (omega (arith, l, w.1.0))
        | inr l ↦ absurd (omega (arith, l, before))
      ]
      | inr l ↦ l
    ] in
    elim (cases_eq c.args.inner.end c.args.bounds.end) [
      | inl e ↦ absurd (apart_borders k c.args.inner.end c.args.bounds.end p behind w.1.1 e)
      | inr ne ↦ omega (arith, c.requires.within.end, ne)
    ]

pub first_with-requires-clause-has : goal.first_with-requires-clause-has
first_with-requires-clause-has c =
    let k = c.args.self.now in
    let fits = range_fits k c.args.bounds.start c.args.bounds.start c.args.inner.start c.args.bounds.end (omega arith) c.requires.within.start (omega (arith, c.requires.within.some, c.requires.within.end)) (omega (arith, c.requires.within.start, c.requires.within.some, c.requires.within.end)) c.requires.within.block in
    let w = c.requires.around in
    let p = w.0 in
    let behind : place_at k c.args.inner.end ≤ p = elim w.1.2 [
      | inl before ↦ elim (not_here k c.args.bounds.start c.args.inner.start c.args.vertex c.least.result p c.between-before.result c.requires.ranked c.between-before.ensures.is fits.1 c.least.ensures (omega (arith, c.if-least-vertex.false)) (omega (arith, w.2))) [
        | inl l ↦ absurd (omega (arith, l, w.1.0))
        | inr l ↦ absurd (omega (arith, l, before))
      ]
      | inr l ↦ l
    ] in
    (p, behind, w.1.1, omega (arith, w.2))
