-- A part without such a vertex is passed, and the part at which the search ends has one.
use Rattle.std.proofs.Common.{◌≡◌, ◌+◌, ◌-◌, ◌<◌, inl, inr, ap, subst, arith}
use Rattle.std.proofs.lemmas.Bool.{cases_eq}
use Rattle.rooted_cactus.specs.CutRanges.{Range}
use Rattle.canonical_cactus.specs.FirstBest.{place_at}
use Rattle.canonical_cactus.proofs.Around.{apart_borders, has_here, not_here, range_fits}
use Rattle.canonical_cactus.proofs.first_side.Ranked.last_with.Goals as goal

pub least-requires-clause-from : goal.least-requires-clause-from
least-requires-clause-from c =
    let k = c.args.self.now in
    let fits = range_fits k c.args.from c.parts.at (c.parts.at + 1) c.args.end c.parts.invariant.from (omega arith) (omega (arith, c.parts.invariant.end)) c.requires.behind c.requires.within in
    omega (arith, fits.0, fits.1, ap (λ (r : Range). r.from) c.between.ensures.is, c.requires.ranked.least_size)

pub least-requires-clause-to : goal.least-requires-clause-to
least-requires-clause-to c =
    let k = c.args.self.now in
    let fits = range_fits k c.args.from c.parts.at (c.parts.at + 1) c.args.end c.parts.invariant.from (omega arith) (omega (arith, c.parts.invariant.end)) c.requires.behind c.requires.within in
    omega (arith, fits.1, ap (λ (r : Range). r.to) c.between.ensures.is, c.requires.ranked.least_size)

pub overflow_sub-at-in-parts : goal.overflow_sub-at-in-parts
overflow_sub-at-in-parts c =
    let k = c.args.self.now in
    let i = c.parts.invariant in
    let at = c.parts.at in
    let fits = range_fits k c.args.from at (at + 1) c.args.end i.from (omega arith) (omega (arith, i.end)) c.requires.behind c.requires.within in
    elim (not_here k at (at + 1) c.args.vertex c.least.result i.has.0 c.between.result c.requires.ranked c.between.ensures.is fits.1 c.least.ensures c.parts-test.true i.has.3) [
      | inl l ↦ elim (cases_eq c.args.from at) [
        | inl e ↦ absurd (apart_borders k c.args.from at i.has.0 i.has.1 l e)
        | inr ne ↦ omega (arith, i.from, ne)
      ]
      | inr l ↦ absurd (omega (arith, l, i.has.2))
    ]

pub parts-smaller : goal.parts-smaller
parts-smaller c =
    let k = c.args.self.now in
    let i = c.parts.invariant in
    let at = c.parts.at in
    let fits = range_fits k c.args.from at (at + 1) c.args.end i.from (omega arith) (omega (arith, i.end)) c.requires.behind c.requires.within in
    elim (not_here k at (at + 1) c.args.vertex c.least.result i.has.0 c.between.result c.requires.ranked c.between.ensures.is fits.1 c.least.ensures c.parts-test.true i.has.3) [
      | inl l ↦ elim (cases_eq c.args.from at) [
        | inl e ↦ absurd (apart_borders k c.args.from at i.has.0 i.has.1 l e)
        | inr ne ↦ omega (arith, i.from, ne)
      ]
      | inr l ↦ absurd (omega (arith, l, i.has.2))
    ]

pub parts-preserved : goal.parts-preserved
parts-preserved c =
    let k = c.args.self.now in
    let i = c.parts.invariant in
    let at = c.parts.at in
    let p = i.has.0 in
    let fits = range_fits k c.args.from at (at + 1) c.args.end i.from (omega arith) (omega (arith, i.end)) c.requires.behind c.requires.within in
    let before : p < place_at k at = elim (not_here k at (at + 1) c.args.vertex c.least.result p c.between.result c.requires.ranked c.between.ensures.is fits.1 c.least.ensures c.parts-test.true i.has.3) [
      | inl l ↦ l
      | inr l ↦ absurd (omega (arith, l, i.has.2))
    ] in
    let later : c.args.from < at = elim (cases_eq c.args.from at) [
      | inl e ↦ absurd (apart_borders k c.args.from at p i.has.1 before e)
      | inr ne ↦ omega (arith, i.from, ne)
    ] in
    let same : at ≡ at - 1 + 1 = omega (arith, later) in
    record {
      from = omega (arith, later);
      end = omega (arith, i.end);
      has = (p, i.has.1, subst (λ j. p < place_at k j) same before, i.has.3);
    }

pub returns-clause-has : goal.returns-clause-has
returns-clause-has c =
    let k = c.args.self.now in
    let at = c.parts.at in
    let i = c.parts.invariant in
    let fits = range_fits k c.args.from at (at + 1) c.args.end i.from (omega arith) (omega (arith, i.end)) c.requires.behind c.requires.within in
    has_here k at (at + 1) c.args.vertex c.least.result c.between.result c.requires.ranked c.between.ensures.is fits.1 c.least.ensures (omega (arith, c.parts-test.false)) c.requires.vertex
