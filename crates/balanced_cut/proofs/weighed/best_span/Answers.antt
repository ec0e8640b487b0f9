-- The search begins with the first cut, and ends when all ranges were weighed.
use Rattle.std.proofs.Common.{◌≡◌, ◌<◌, [], drop, subst, arith}
use Rattle.rooted_cactus.specs.Borders.{border_at, ranges_between}
use Rattle.cactus_walk.specs.Weighing.{range_of}
use Rattle.balanced_cut.proofs.Moving.{all_weighed, at_first, first_there}
use Rattle.balanced_cut.proofs.weighed.best_span.Goals as goal

pub starts-init : goal.starts-init
starts-init c =
    let r = c.args.ranges.now in
    let first = c.next_start-first.result in
    let lent = c.deref.ensures.value in
    let ensures = c.next_start-first.ensures in
    let there = first_there c.deref.result.now first (λ none. c.requires.some (subst (λ bs. ranges_between bs ≡ []) lent none)) ensures.ranges in
    record {
      last = omega (arith, c.len-start-end.ensures, r.borders.ok.0);
      search = at_first r first (range_of c.between.result) (subst (λ bs. 0 < (border_at bs first).following) lent (ensures.start there))
          (subst (λ bs. ranges_between (drop first bs) ≡ ranges_between (drop 0 bs)) lent ensures.ranges) c.between.ensures.is;
    }

pub returns-clause-none_greater : goal.returns-clause-none_greater
returns-clause-none_greater c =
    all_weighed c.args.ranges.now c.starts.start (range_of c.starts.search.best) c.starts.search.end (omega (arith, c.starts-test.false, c.starts.invariant.last)) c.starts.invariant.search
