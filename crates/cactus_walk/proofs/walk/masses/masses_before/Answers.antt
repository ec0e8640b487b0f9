-- The running sum is the mass of the vertices that were passed, which fits.
use Rattle.std.proofs.Common.{◌≡◌, ℕ, ◌+◌, ◌∷◌, [], get_or, length, rules, ap, length-append, arith}
use Rattle.cut_definitions.specs.Balance.{mass_of}
use Rattle.cactus_walk.proofs.RangeMasses.{before_bound, before_next, sums_more}
use Rattle.cactus_walk.proofs.walk.masses.masses_before.Goals as goal

pub overflow_add-total : goal.overflow_add-total
overflow_add-total c =
    omega (arith, c.places.invariant.total, before_bound c.args.weights.now c.args.order.now c.places.vertex-index c.len-known.ensures.masses c.requires.vertices c.places.invariant.within, c.requires.few, c.places.invariant.within, c.of.type_inv)

pub places-preserved : goal.places-preserved
places-preserved c =
    let order = c.args.order.now in
    let masses = c.args.weights.now in
    let k = c.places.vertex-index in
    let inv = c.places.invariant in
    let more = c.in_ok-push-2.ensures.items in
    let mass : c.of.result ≡ mass_of masses (get_or order k 0) = search rules in
    record {
      long = omega (arith, ap length more, length-append c.places.masses.items ((c.places.total + c.of.result) ∷ []), inv.long);
      within = omega (arith, c.places-test.true);
      total = omega (arith, inv.total, mass, before_next masses order k c.places-test.true);
      sums = sums_more masses order c.places.masses.items c.push-in-places.new.self.items k c.places.total (c.places.total + c.of.result) inv.long c.places-test.true inv.total
          (ap (λ (m : ℕ). c.places.total + m) mass) more inv.sums;
    }
