-- Two of the ranges that begin at a border are weighed, and no other of them is better.
use Rattle.std.proofs.Common.{◌≡◌, ◌-◌, ◌/◌, ap, length, subst, arith}
use Rattle.cactus_walk.specs.Weighing.{IsShort, range_of}
use Rattle.cactus_walk.proofs.Between.{best_fits}
use Rattle.balanced_cut.specs.Ends.{half_mass}
use Rattle.balanced_cut.proofs.Moving.{IsBetter, better_fits, block_ends, moved_on}
use Rattle.balanced_cut.proofs.weighed.weigh_from.Goals as goal

pub returns-then-start-last : goal.returns-then-start-last
returns-then-start-last c =
    block_ends c.args.ranges.now c.args.start (range_of c.args.search.best) c.args.search.end c.requires.start (omega (arith, c.if-start-last.true, c.last_of-last.ensures.is)) c.requires.search

pub better-best-requires-clause-best : goal.better-best-requires-clause-best
better-best-requires-clause-best c =
    let r = c.args.ranges.now in
    best_fits (length r.order.items) r.borders.items (range_of c.args.search.best) r.within r.chained c.requires.search.member

pub better-requires-clause-best : goal.better-requires-clause-best
better-requires-clause-best c =
    let r = c.args.ranges.now in
    let long = c.between-longer.ensures.fits (omega (arith, c.min.ensures, c.first_end-end.ensures.behind, c.last_of-last.ensures.is)) (omega (arith, c.min.ensures, c.last_of-last.ensures.is)) in
    better_fits (length r.order.items) r (range_of c.args.search.best) (range_of c.between-longer.result) (range_of c.better-best.result) record { put = c.better-best.ensures.put; kept = c.better-best.ensures.kept }
    (best_fits (length r.order.items) r.borders.items (range_of c.args.search.best) r.within r.chained c.requires.search.member) long

pub returns : goal.returns
returns c =
    let r = c.args.ranges.now in
    let best = range_of c.args.search.best in
    let mid = range_of c.better-best.result in
    let new = range_of c.better.result in
    let first : IsBetter r best (range_of c.between-longer.result) mid = record { put = c.better-best.ensures.put; kept = c.better-best.ensures.kept } in
    let second : IsBetter r mid (range_of c.between-shorter.result) new = record { put = c.better.ensures.put; kept = c.better.ensures.kept } in
    let end = c.first_end-end.result in
    let half : c.total-total.result - c.total-total.result / 2 ≡ half_mass r = ap (λ t. t - t / 2) c.total-total.ensures in
    moved_on r c.args.start best mid new c.args.search.end end c.min.result c.max.result (omega (arith, c.last_of-last.ensures.is, c.if-start-last.false)) c.first_end-end.ensures.behind
    (subst (λ h. IsShort r h c.args.start end) half c.first_end-end.ensures.short) (λ l. omega (arith, half, c.first_end-end.ensures.reached (omega (arith, l)))) (omega (arith, c.min.ensures, c.last_of-last.ensures.is)) c.max.ensures
    (subst (λ x. IsBetter r best x mid) c.between-longer.ensures.is first) (subst (λ x. IsBetter r mid x new) c.between-shorter.ensures.is second) c.requires.search
