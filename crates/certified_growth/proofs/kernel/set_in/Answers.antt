use Rattle.std.proofs.Common.{subst}
use Rattle.std.specs.Prelude.{IfOk, IfSome, Option, Result}
use Rattle.std.specs.declared.alloc.AllocError.{AllocError as NoMemory}
use Rattle.certified_growth.specs.GrownSets.{IsGrownSet}
use Rattle.certified_growth.specs.declared.grown_set.GrownSet.{GrownSet}
use Rattle.certified_growth.proofs.kernel.set_in.Goals as goal

pub returns : goal.returns
returns c =
    subst (λ (o : Option (Result GrownSet NoMemory)). IfSome o (λ r. IfOk r (IsGrownSet c.args.graph.now c.args.least c.args.owners.now c.args.share.own))) c.unwrap.ensures c.requires.grown
