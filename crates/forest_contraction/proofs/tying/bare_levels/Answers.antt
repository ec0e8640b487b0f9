-- One more level.
use Rattle.std.proofs.Common.{◌+◌, length-append, ◌∷◌, [], arith}
use Rattle.forest_contraction.proofs.Levels.{over-more, alone-more}
use Rattle.forest_contraction.proofs.tying.bare_levels.Goals as goal

pub levels-preserved : goal.levels-preserved
levels-preserved c =
    let levels = c.levels.levels.items in
    let x = c.in_ok-classes.classes in
    let inv = c.levels.invariant in
    rw c.in_ok-push.ensures.items (record {
      count = omega (arith, length-append levels (x ∷ []), inv.count);
      over = over-more (c.args.n + 1) levels x inv.over c.in_ok-classes.ensures.long;
      alone = λ k l. alone-more levels x (λ j h. inv.alone j (omega (arith, inv.count))) c.in_ok-classes.ensures.alone k (omega (arith, inv.count));
    })

pub returns-clause-alone : goal.returns-clause-alone
returns-clause-alone c = λ l h. c.levels.invariant.alone l (omega (arith, c.levels-test.false))
