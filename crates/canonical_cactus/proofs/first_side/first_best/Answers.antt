-- The first of all sides of best balance was found, since there is one.
use Rattle.std.proofs.Common.{Some, ◌∙◌, subst, sym}
use Rattle.std.proofs.lemmas.Result.{IfOk-weaker}
use Rattle.cactus_walk.specs.Weighing.{range_of}
use Rattle.cactus_walk.proofs.Between.{best_fits}
use Rattle.rooted_cactus.specs.Rooted.{sides_of}
use Rattle.canonical_cactus.specs.FirstBest.{IsFirstBest, IsFound, IsNotAfter, count_of}
use Rattle.canonical_cactus.proofs.Searched.{known_ends, known_ranked, known_some}
use Rattle.canonical_cactus.proofs.first_side.first_best.Goals as goal

pub first-requires : goal.first-requires
first-requires c = record {
  ranked = known_ranked c.args.cactus.now.vertices c.args.weights.now (sides_of c.args.cactus.now) c.in_ok-ranked.ranked c.in_ok-some.some.members c.in_ok-ranked.ensures.cuts c.in_ok-some.ensures.best (c.in_ok-ranked.ensures.high ∙ c.balance_of-high.ensures);
}

pub side-requires : goal.side-requires
side-requires c =
    let k = c.in_ok-ranked.ranked in
    let found : IsFound k (Some c.in-Some.span) = subst (IsFound k) c.in-Some.is c.first.ensures.found in
    (best_fits (count_of k) k.ranges.borders.items (range_of c.in-Some.span) k.ranges.within k.ranges.chained found.0).1

pub returns-in-Some-clause-n : goal.returns-in-Some-clause-n
returns-in-Some-clause-n c = IfOk-weaker c.side.result _ _ (λ s h. h ∙ c.in_ok-ranked.ensures.cuts.weighed.long) c.side.ensures.n

pub returns-in-Some-clause-first : goal.returns-in-Some-clause-first
returns-in-Some-clause-first c =
    let k = c.in_ok-ranked.ranked in
    let span = c.in-Some.span in
    let first =
    known_ends c.args.cactus.now.vertices c.args.weights.now (sides_of c.args.cactus.now) c.in_ok-ranked.ranked c.in_ok-some.some.members span c.in_ok-ranked.ensures.cuts c.in_ok-some.ensures.best (c.in_ok-ranked.ensures.high ∙ c.balance_of-high.ensures)
    (subst (IsFound k) c.in-Some.is c.first.ensures.found) (λ r member wanted. subst (λ o. IsNotAfter k o r) c.in-Some.is (c.first.ensures.first r member wanted)) in
    IfOk-weaker c.side.result _ _ (λ s h. subst (IsFirstBest c.args.weights.now (sides_of c.args.cactus.now)) (sym h) first) c.side.ensures.side

pub returns-in-None-clause-first : goal.returns-in-None-clause-first
returns-in-None-clause-first c =
    let k = c.in_ok-ranked.ranked in
    absurd (known_some c.args.cactus.now.vertices c.args.weights.now (sides_of c.args.cactus.now) c.in_ok-ranked.ranked c.in_ok-some.some.members c.in_ok-ranked.ensures.cuts c.in_ok-some.ensures.best (c.in_ok-ranked.ensures.high ∙ c.balance_of-high.ensures)
    (λ r member wanted. subst (λ o. IsNotAfter k o r) c.in-None.is (c.first.ensures.first r member wanted)))
