-- At the end all have been compared.
use Rattle.std.proofs.Common.{arith}
use Rattle.std.proofs.lemmas.List.Sorted.{IsNonDecreasingBy-from_all_adjacent}
use Rattle.region_fronts.specs.declared.parts.Placed.{Placed}
use Rattle.region_fronts.proofs.parts.is_ascending.Goals as goal

pub returns : goal.returns
returns c = λ yes.
    IsNonDecreasingBy-from_all_adjacent (λ (p : Placed). p.number) c.args.placed.now (λ k d l. c.loop-k.invariant k d (omega (arith, l)))
