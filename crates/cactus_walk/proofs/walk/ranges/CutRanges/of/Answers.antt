-- The masses before the places of a list do not fall, and are small.
use Rattle.std.proofs.Common.{◌≡◌, ◌∙◌, ◌≤◌, ℕ, ap, arith, length, get_or, subst}
use Rattle.std.specs.List.{All}
use Rattle.cut_definitions.specs.Graph.{IsVertex}
use Rattle.cactus_walk.specs.RangeMasses.{mass_before}
use Rattle.cactus_walk.proofs.RangeMasses.{before_no_less}
use Rattle.cactus_walk.proofs.Weighing.{sums_small}
use Rattle.cactus_walk.proofs.walk.ranges.CutRanges.of.Goals as goal

pub invariant_of-result : goal.invariant_of-result
invariant_of-result c =
    let order = c.args.order.items in
    let masses = c.args.weights.now in
    let sums = c.in_ok-sums.sums.items in
    let long = c.in_ok-sums.ensures.long in
    let same = c.deref.ensures.value in
    let sum : (k : ℕ) → k ≤ length order → get_or sums k 0 ≡ mass_before masses order k =
    λ k l. c.in_ok-sums.ensures.masses k (omega (arith, l, ap length same)) ∙ ap (λ o. mass_before masses o k) same in
    let all : All (IsVertex (length masses)) order = subst (λ n. All (IsVertex n) order) c.requires.counted c.requires.vertices in
    record {
      few = omega (arith, c.requires.counted, c.len-known.ensures.masses.few);
      vertices = c.requires.vertices;
      within = c.requires.within;
      chained = c.requires.chained;
      long = omega (arith, long, ap length same);
      rising = λ i j le within. omega (arith, sum i (omega (arith, le, within)), sum j within, before_no_less masses order i j le within);
      small = omega (arith, sum (length order) (omega arith), sums_small masses order c.len-known.ensures.masses all c.requires.counted);
    }
