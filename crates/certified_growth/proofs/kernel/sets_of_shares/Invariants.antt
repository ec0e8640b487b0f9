use Rattle.std.proofs.Common.{length}
use Rattle.std.specs.List.{All}
use Rattle.certified_growth.specs.GrownSets.{AreInOrder, IsFoundShare}
use Rattle.certified_growth.proofs.kernel.sets_of_shares.Given as goal

abbrev pub invariant-shares : goal.invariant-shares
invariant-shares l = All (IsFoundShare l.graph l.least l.owners) l.shares.items × AreInOrder l.graph l.least l.owners l.sets.items

abbrev pub decreases-shares : goal.decreases-shares
decreases-shares l = length l.shares.items
