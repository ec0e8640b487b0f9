-- The earlier one is kept.
use Rattle.std.proofs.Common.{Some, subst}
use Rattle.cactus_walk.specs.Weighing.{range_of}
use Rattle.cactus_walk.proofs.Between.{best_fits}
use Rattle.canonical_cactus.specs.FirstBest.{IsFound, IsNotAfter, count_of, side_of}
use Rattle.canonical_cactus.proofs.FirstBest.{no_later_both, no_later_itself}
use Rattle.canonical_cactus.proofs.first_side.Ranked.earlier.Goals as goal

pub goes_before-requires-clause-span : goal.goes_before-requires-clause-span
goes_before-requires-clause-span c =
    let k = c.args.self.now in
    let found : IsFound k (Some c.in-Some.best) = subst (IsFound k) c.in-Some.is c.requires.found in
    best_fits (count_of k) k.ranges.borders.items (range_of c.in-Some.best) c.args.self.now.ranges.within c.args.self.now.ranges.chained found.0

pub returns-else-goes_before-clause-kept : goal.returns-else-goes_before-clause-kept
returns-else-goes_before-clause-kept c = λ r h.
    let k = c.args.self.now in
    let old : IsNotAfter k (Some c.in-Some.best) r = subst (λ o. IsNotAfter k o r) c.in-Some.is h in
    no_later_both (side_of k (range_of c.args.span)) (side_of k (range_of c.in-Some.best)) (side_of k r) (c.goes_before.ensures.behind c.if-goes_before.false) old

pub returns-else-goes_before-clause-put : goal.returns-else-goes_before-clause-put
returns-else-goes_before-clause-put c = no_later_itself (side_of c.args.self.now (range_of c.args.span))

pub returns-in-None-clause-put : goal.returns-in-None-clause-put
returns-in-None-clause-put c = no_later_itself (side_of c.args.self.now (range_of c.args.span))
