-- The range is one between two borders of a block.
use Rattle.std.specs.Prelude.{Some}
use Rattle.std.proofs.Common.{subst, sym}
use Rattle.std.specs.List.{Contains}
use Rattle.rooted_cactus.specs.Borders.{ranges_between}
use Rattle.cactus_walk.specs.Weighing.{IsRangeOf}
use Rattle.cactus_walk.proofs.Between.{behind_there, between_fits, between_is}
use Rattle.canonical_cactus.specs.FirstBest.{IsFoundAt, IsWanted, count_of}
use Rattle.canonical_cactus.proofs.Bands.{found_next}
use Rattle.canonical_cactus.proofs.first_side.Ranked.earlier_of.Goals as goal

pub span-requires-clause-end : goal.span-requires-clause-end
span-requires-clause-end c =
    let k = c.args.self.now in
    let ends = c.in-Some.ends in
    let is : IsFoundAt k (Some ends) = subst (IsFoundAt k) c.in-Some.is c.requires.first in
    behind_there (count_of k) k.ranges.borders.items ends.start ends.end c.args.self.now.ranges.within is.0 is.1

pub earlier-requires-clause-span : goal.earlier-requires-clause-span
earlier-requires-clause-span c =
    let k = c.args.self.now in
    let ends = c.in-Some.ends in
    let is : IsFoundAt k (Some ends) = subst (IsFoundAt k) c.in-Some.is c.requires.first in
    subst (IsRangeOf (count_of k)) (sym c.span.ensures) (between_fits (count_of k) k.ranges.borders.items ends.start ends.end c.args.self.now.ranges.within c.args.self.now.ranges.chained is.0 is.1)

pub returns-in-Some-clause-found : goal.returns-in-Some-clause-found
returns-in-Some-clause-found c =
    let k = c.args.self.now in
    let ends = c.in-Some.ends in
    let bs = k.ranges.borders.items in
    let is : IsFoundAt k (Some ends) = subst (IsFoundAt k) c.in-Some.is c.requires.first in
    let member = subst (Contains (ranges_between bs)) (sym c.span.ensures) (between_is (count_of k) bs ends.start ends.end c.args.self.now.ranges.within is.0 is.1) in
    found_next k c.args.found c.span.result c.earlier.result c.requires.found (member, subst (IsWanted k) (sym c.span.ensures) is.2) c.earlier.ensures.one
