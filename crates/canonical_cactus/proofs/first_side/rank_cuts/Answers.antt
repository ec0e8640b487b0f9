-- What is known of the ranges and the trees of minima.
use Rattle.std.proofs.Common.{◌∙◌, length, map, slice_index, ap, sym, subst, arith}
use Rattle.cut_definitions.specs.Cuts.{has}
use Rattle.rooted_cactus.specs.Borders.{ranges_between}
use Rattle.rooted_cactus.specs.Places.{AreOnce, side_at}
use Rattle.rooted_cactus.proofs.Once.{each_there}
use Rattle.canonical_cactus.proofs.first_side.rank_cuts.Goals as goal

pub returns-clause-cuts : goal.returns-clause-cuts
returns-clause-cuts c =
    let n = c.args.cactus.now.vertices in
    let r = c.in_ok-ranges.ranges in
    let order = c.in_ok-ranges.ensures.order in
    record {
      weighed = record {
        counted = c.requires.weights;
        long = ap length order ∙ c.in_ok-places.ensures.long;
        once = subst (AreOnce n) (sym order) c.in_ok-places.ensures.once;
        every = λ v l m. ap (λ xs. has xs v) (order ∙ c.in_ok-places.ensures.order) ∙ each_there n c.args.cactus.now.root c.n-n.ensures.cactus v l m;
        sums = c.in_ok-ranges.ensures.sums;
      };
      shown = ap (λ o. map (side_at n o) (ranges_between r.borders.items)) order ∙ ap (λ bs. map (side_at n c.in_ok-places.places.order.items) (ranges_between bs)) c.in_ok-ranges.ensures.borders ∙ c.in_ok-places.ensures.sides;
      least = c.in_ok-least.ensures.tree;
      least_size = c.in_ok-least.ensures.size ∙ ap length c.deref.ensures.value;
      least_is = λ p l. c.in_ok-least.ensures.leaves p (omega (arith, l, ap length c.deref.ensures.value)) ∙ ap (λ o. slice_index o p) c.deref.ensures.value;
      wanting = c.in_ok-wanting-2.ensures.tree;
      wanting_size = c.in_ok-wanting-2.ensures.size ∙ ap length c.deref-3.ensures.value ∙ c.in_ok-wanting.ensures.long ∙ ap length c.deref-2.ensures.value;
      wanting_is = λ p l.
          let one = c.in_ok-wanting.ensures.wanting p (omega (arith, l, ap length c.deref-2.ensures.value)) in
          let two = c.in_ok-wanting-2.ensures.leaves p (omega (arith, l, ap length c.deref-3.ensures.value, c.in_ok-wanting.ensures.long, ap length c.deref-2.ensures.value)) in
          omega (arith, one, two, ap (λ o. slice_index o p) c.deref-3.ensures.value, ap (λ o. slice_index o p) c.deref-2.ensures.value);
    }
