-- A part without such a vertex is passed, and the part at which the search ends has one.
use Rattle.std.proofs.Common.{◌+◌, ◌≤◌, inl, inr, ap, arith}
use Rattle.std.proofs.lemmas.Bool.{cases_eq}
use Rattle.rooted_cactus.specs.CutRanges.{Range}
use Rattle.canonical_cactus.specs.FirstBest.{place_at}
use Rattle.canonical_cactus.proofs.Around.{apart_borders, has_here, not_here, range_fits}
use Rattle.canonical_cactus.proofs.first_side.Ranked.first_with.Goals as goal

pub least-requires-clause-from : goal.least-requires-clause-from
least-requires-clause-from c =
    let k = c.args.self.now in
    let fits = range_fits k c.args.from c.parts.at (c.parts.at + 1) c.args.end c.parts.invariant.from (omega arith) (omega (arith, c.parts.invariant.end)) c.requires.behind c.requires.within in
    omega (arith, fits.0, fits.1, ap (λ (r : Range). r.from) c.between.ensures.is, c.requires.ranked.least_size)

pub least-requires-clause-to : goal.least-requires-clause-to
least-requires-clause-to c =
    let k = c.args.self.now in
    let fits = range_fits k c.args.from c.parts.at (c.parts.at + 1) c.args.end c.parts.invariant.from (omega arith) (omega (arith, c.parts.invariant.end)) c.requires.behind c.requires.within in
    omega (arith, fits.1, ap (λ (r : Range). r.to) c.between.ensures.is, c.requires.ranked.least_size)

pub parts-preserved : goal.parts-preserved
parts-preserved c =
    let k = c.args.self.now in
    let at = c.parts.at in
    let i = c.parts.invariant in
    let fits = range_fits k c.args.from at (at + 1) c.args.end i.from (omega arith) (omega (arith, i.end)) c.requires.behind c.requires.within in
    let p = i.has.0 in
    let past : place_at k (at + 1) ≤ p = elim (not_here k at (at + 1) c.args.vertex c.least.result p c.between.result c.requires.ranked c.between.ensures.is fits.1 c.least.ensures c.parts-test.true i.has.3) [
      | inl l ↦ absurd (omega (arith, l, i.has.1))
      | inr l ↦ l
    ] in
    record {
      from = omega (arith, i.from);
      end = elim (cases_eq (at + 1) c.args.end) [
        | inl e ↦ absurd (apart_borders k (at + 1) c.args.end p past i.has.2 e)
        | inr ne ↦ omega (arith, i.end, ne)
      ];
      has = (p, past, i.has.2, i.has.3);
    }

pub returns-clause-has : goal.returns-clause-has
returns-clause-has c =
    let k = c.args.self.now in
    let at = c.parts.at in
    let i = c.parts.invariant in
    let fits = range_fits k c.args.from at (at + 1) c.args.end i.from (omega arith) (omega (arith, i.end)) c.requires.behind c.requires.within in
    has_here k at (at + 1) c.args.vertex c.least.result c.between.result c.requires.ranked c.between.ensures.is fits.1 c.least.ensures (omega (arith, c.parts-test.false)) c.requires.vertex
