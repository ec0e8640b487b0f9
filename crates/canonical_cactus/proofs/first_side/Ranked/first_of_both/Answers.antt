-- A range of the balance has one of the two masses.
use Rattle.std.proofs.Common.{◌-◌, arith}
use Rattle.rooted_cactus.specs.Borders.{range_between}
use Rattle.canonical_cactus.proofs.Searched.{both_searched}
use Rattle.canonical_cactus.proofs.first_side.Ranked.first_of_both.Goals as goal

pub returns-then-rest-self-clause-first : goal.returns-then-rest-self-clause-first
returns-then-rest-self-clause-first c =
    let k = c.args.self.now in
    let one = c.first_of_mass-found.ensures.first in
    both_searched k (c.total.result - k.high) c.first_of_mass-found.result (omega (arith, c.requires.ranked.half, c.total.ensures)) one (λ i e a b w m. one i e a b w (omega (arith, m, c.if-rest-self.true)))

pub returns-clause-first : goal.returns-clause-first
returns-clause-first c =
    let k = c.args.self.now in
    both_searched k (c.total.result - k.high) c.first_of_mass.result (omega (arith, c.requires.ranked.half, c.total.ensures))
    (λ i e a b w m. c.first_of_mass.ensures.kept (range_between k.ranges.borders.items i e) (c.first_of_mass-found.ensures.first i e a b w m)) c.first_of_mass.ensures.first
