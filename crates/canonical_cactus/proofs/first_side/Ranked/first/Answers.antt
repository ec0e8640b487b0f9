-- A side without vertices comes first.
use Rattle.std.specs.Prelude.{Some}
use Rattle.std.proofs.Common.{subst}
use Rattle.cactus_walk.specs.Weighing.{range_of}
use Rattle.cactus_walk.proofs.Between.{best_fits}
use Rattle.canonical_cactus.specs.FirstBest.{IsEmptyOne, count_of}
use Rattle.canonical_cactus.proofs.Around.{empty_first}
use Rattle.canonical_cactus.proofs.first_side.Ranked.first.Goals as goal

pub returns-in-Some-clause-first : goal.returns-in-Some-clause-first
returns-in-Some-clause-first c = λ r member wanted.
    let k = c.args.self.now in
    let bs = k.ranges.borders.items in
    let is : IsEmptyOne k (Some c.in-Some.span) = subst (IsEmptyOne k) c.in-Some.is c.empty_range.ensures in
    let fits = best_fits (count_of k) bs (range_of c.in-Some.span) c.args.self.now.ranges.within c.args.self.now.ranges.chained is.0 in
    let other = best_fits (count_of k) bs r c.args.self.now.ranges.within c.args.self.now.ranges.chained member in
    empty_first k (range_of c.in-Some.span) r c.requires.ranked fits.1 other.1 is.1
