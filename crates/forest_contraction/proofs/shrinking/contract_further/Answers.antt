-- What was found for a lower bound, or else the list, tells as much.
use Rattle.std.proofs.Common.{sym, subst, arith}
use Rattle.cut_definitions.specs.Graph.{Graph}
use Rattle.forest_contraction.specs.Left.{IsLesser}
use Rattle.forest_contraction.proofs.Lessening.{found_left}
use Rattle.forest_contraction.proofs.shrinking.contract_further.Goals as goal

pub bounds-preserved : goal.bounds-preserved
bounds-preserved c =
    let left = c.bounds.left in
    let made = c.in_ok-bound.ensures in
    let found = c.in_ok-bound.field-0 in
    record {
      left = λ whole is. c.in_ok-left-2.ensures.left whole
          (subst (λ (g : Graph). IsLesser whole found.bound g) (sym c.unwrap_or.ensures) (found_left left.list left.bound found.bound found.list made.left whole (c.bounds.invariant.left whole is)));
      fits = omega (arith, c.in_ok-left-2.ensures.at_most, made.at_most, c.bounds.invariant.fits);
    }
