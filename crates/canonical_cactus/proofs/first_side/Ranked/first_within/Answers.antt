-- The part with the least vertex of all comes before each range without it.
use Rattle.std.proofs.Common.{ℕ, ◌+◌, ◌≤◌, ◌<◌, ◌⊎◌, inl, inr, ap, arith}
use Rattle.std.proofs.lemmas.Bool.{cases_lt}
use Rattle.rooted_cactus.specs.CutRanges.{Range}
use Rattle.canonical_cactus.specs.FirstBest.{IsNoLater, place_at, side_between, vertex_at}
use Rattle.canonical_cactus.proofs.Around.{border_in, has_here, least_first, place_no_less, range_fits, vertex_bound}
use Rattle.canonical_cactus.proofs.FirstBest.{no_later_both}
use Rattle.canonical_cactus.proofs.first_side.Ranked.first_within.Goals as goal

pub span-requires-clause-end : goal.span-requires-clause-end
span-requires-clause-end c = border_in c.args.self.now c.args.bounds.start c.args.bounds.end c.args.bounds.end (omega arith) c.requires.some c.requires.block

pub least-vertex-requires-clause-from : goal.least-vertex-requires-clause-from
least-vertex-requires-clause-from c =
    let fits = range_fits c.args.self.now c.args.bounds.start c.args.bounds.start c.args.bounds.end c.args.bounds.end (omega arith) (omega (arith, c.requires.some)) (omega arith) c.requires.some c.requires.block in
    omega (arith, fits.0, fits.1, ap (λ (r : Range). r.from) c.span.ensures, c.requires.ranked.least_size)

pub least-vertex-requires-clause-to : goal.least-vertex-requires-clause-to
least-vertex-requires-clause-to c =
    let fits = range_fits c.args.self.now c.args.bounds.start c.args.bounds.start c.args.bounds.end c.args.bounds.end (omega arith) (omega (arith, c.requires.some)) (omega arith) c.requires.some c.requires.block in
    omega (arith, fits.1, ap (λ (r : Range). r.to) c.span.ensures, c.requires.ranked.least_size)

pub first_with-start-requires-clause-vertex : goal.first_with-start-requires-clause-vertex
first_with-start-requires-clause-vertex c =
    let k = c.args.self.now in
    let first = c.args.bounds.start in
    let fits = range_fits c.args.self.now c.args.bounds.start c.args.bounds.start c.args.bounds.end c.args.bounds.end (omega arith) (omega (arith, c.requires.some)) (omega arith) c.requires.some c.requires.block in
    let p = place_at k first in
    let some : p < place_at k (first + 1) = c.requires.none_empty first (omega (arith, c.requires.some, c.requires.block)) in
    let to : place_at k (first + 1) ≤ place_at k c.args.bounds.end = place_no_less k first (first + 1) c.args.bounds.end (omega arith) (omega (arith, c.requires.some)) c.requires.block in
    let there : p < place_at k c.args.bounds.end = omega (arith, some, to) in
    omega (
      arith,
      vertex_bound k p c.requires.ranked (omega (arith, there, fits.1)),
      c.requires.ranked.least_is p (omega (arith, there, fits.1)),
      c.least-vertex.ensures.no_less p (omega (arith, ap (λ (r : Range). r.from) c.span.ensures)) (omega (arith, there, ap (λ (r : Range). r.to) c.span.ensures)),
    )

pub first_with-start-requires-clause-has : goal.first_with-start-requires-clause-has
first_with-start-requires-clause-has c =
    let k = c.args.self.now in
    let first = c.args.bounds.start in
    let fits = range_fits c.args.self.now c.args.bounds.start c.args.bounds.start c.args.bounds.end c.args.bounds.end (omega arith) (omega (arith, c.requires.some)) (omega arith) c.requires.some c.requires.block in
    let p = place_at k first in
    let some : p < place_at k (first + 1) = c.requires.none_empty first (omega (arith, c.requires.some, c.requires.block)) in
    let to : place_at k (first + 1) ≤ place_at k c.args.bounds.end = place_no_less k first (first + 1) c.args.bounds.end (omega arith) (omega (arith, c.requires.some)) c.requires.block in
    let there : p < place_at k c.args.bounds.end = omega (arith, some, to) in
    has_here k first c.args.bounds.end c.least-vertex.result c.least-vertex.result c.span.result c.requires.ranked c.span.ensures fits.1 c.least-vertex.ensures (omega arith)
    (omega (
      arith,
      vertex_bound k p c.requires.ranked (omega (arith, there, fits.1)),
      c.requires.ranked.least_is p (omega (arith, there, fits.1)),
      c.least-vertex.ensures.no_less p (omega (arith, ap (λ (r : Range). r.from) c.span.ensures)) (omega (arith, there, ap (λ (r : Range). r.to) c.span.ensures)),
    ))

pub returns-clause-first : goal.returns-clause-first
returns-clause-first c = λ s e a b d.
    let k = c.args.self.now in
    let bounds = c.args.bounds in
    let at = c.first_with-start.result in
    let found = c.first_around.result in
    let fits = range_fits c.args.self.now c.args.bounds.start c.args.bounds.start c.args.bounds.end c.args.bounds.end (omega arith) (omega (arith, c.requires.some)) (omega arith) c.requires.some c.requires.block in
    let low = c.first_with-start.ensures.from in
    let high = c.first_with-start.ensures.end in
    let least : (p : ℕ) → place_at k bounds.start ≤ p → p < place_at k bounds.end → c.least-vertex.result ≤ vertex_at k p = λ p from to.
    omega (arith, c.requires.ranked.least_is p (omega (arith, to, fits.1)), c.least-vertex.ensures.no_less p (omega (arith, from, ap (λ (r : Range). r.from) c.span.ensures)) (omega (arith, to, ap (λ (r : Range). r.to) c.span.ensures))) in
    let core : IsNoLater (side_between k found.start found.end) (side_between k at (at + 1)) = c.first_around.ensures.first at (at + 1) low (omega arith) (omega arith) (omega (arith, high)) in
    let apart : (e ≤ at) ⊎ (at + 1 ≤ s) → IsNoLater (side_between k found.start found.end) (side_between k s e) = λ out.
    no_later_both (side_between k found.start found.end) (side_between k at (at + 1)) (side_between k s e) core
    (least_first k bounds at c.least-vertex.result s e c.requires.ranked c.requires.none_empty c.requires.block low high least c.first_with-start.ensures.has a b d out) in
    elim (cases_lt at s) [
      | inl l ↦ apart (inr (omega (arith, l)))
      | inr start ↦ elim (cases_lt at e) [
        | inl l ↦ c.first_around.ensures.first s e a start (omega (arith, l)) d
        | inr end ↦ apart (inl end)
      ]
    ]
