-- Each range between two borders side by side was looked at.
use Rattle.std.proofs.Common.{◌+◌, ◌<◌, inl, inr, ap, sym, subst, arith}
use Rattle.std.specs.List.{Contains}
use Rattle.std.proofs.lemmas.Bool.{cases_eq}
use Rattle.rooted_cactus.specs.Borders.{border_at, ranges_between}
use Rattle.rooted_cactus.specs.CutRanges.{Range}
use Rattle.cactus_walk.proofs.Between.{behind_there, between_fits, between_is}
use Rattle.cactus_walk.proofs.Stepping.{border_is}
use Rattle.canonical_cactus.specs.FirstBest.{count_of, place_at}
use Rattle.canonical_cactus.proofs.first_side.Ranked.empty_range.Goals as goal
use Rattle.canonical_cactus.proofs.first_side.Ranked.empty_range.Goals.{then-index-gt0+else-span, else-index-gt0}

pub between-span-requires-clause-end : goal.between-span-requires-clause-end
between-span-requires-clause-end c =
    let k = c.args.self.now in
    let bs = k.ranges.borders.items in
    behind_there (count_of k) bs c.starts.start (c.starts.start + 1) c.args.self.now.ranges.within (omega arith)
    (omega (arith, c.if-index-gt0.true, ap (λ b. b.following) (border_is bs c.starts.start c.index.result.now c.index.ensures (omega (arith, c.starts-test.true, c.starts.invariant.last)))))

pub returns-then-span : goal.returns-then-span
returns-then-span c =
    let k = c.args.self.now in
    let bs = k.ranges.borders.items in (
      subst (Contains (ranges_between bs)) (sym c.between-span.ensures.is) (between_is (count_of k) bs c.starts.start (c.starts.start + 1) c.args.self.now.ranges.within (omega arith)
          (omega (arith, c.if-index-gt0.true, ap (λ b. b.following) (border_is bs c.starts.start c.index.result.now c.index.ensures (omega (arith, c.starts-test.true, c.starts.invariant.last)))))),
      c.if-span.true,
    )

pub starts-preserved : goal.starts-preserved
starts-preserved c =
    let k = c.args.self.now in
    let bs = k.ranges.borders.items in
    let start = c.starts.start in
    let border = ap (λ b. b.following) (border_is bs start c.index.result.now c.index.ensures (omega (arith, c.starts-test.true, c.starts.invariant.last))) in
    record {
      last = c.starts.invariant.last;
      some = λ i to following. elim (cases_eq i start) [
        | inl e ↦
            let here : 0 < (border_at bs start).following = subst (λ j. 0 < (border_at bs j).following) e following in
            subst (λ j. place_at k j < place_at k (j + 1)) (sym e) (elim c.if-index-gt0.branch [
              | then-index-gt0+else-span w ↦
                  let fits = between_fits (count_of k) bs start (start + 1) c.args.self.now.ranges.within c.args.self.now.ranges.chained (omega arith) (omega (arith, here)) in
                  omega (arith, fits.0, w.if-span.false, ap (λ (r : Range). r.from) w.between-span.ensures.is, ap (λ (r : Range). r.to) w.between-span.ensures.is)
              | else-index-gt0 w ↦ absurd (omega (arith, w.if-index-gt0.false, border, here))
            ])
        | inr ne ↦ c.starts.invariant.some i (omega (arith, to, ne)) following
      ];
    }
