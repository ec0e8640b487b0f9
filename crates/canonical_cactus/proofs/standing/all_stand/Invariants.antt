use Rattle.std.proofs.Common.{length}
use Rattle.rooted_cactus.specs.Numbers.{seen}
use Rattle.canonical_cactus.proofs.Inner.{Rising}
use Rattle.canonical_cactus.proofs.standing.all_stand.Given as goal

abbrev pub invariant-up : goal.invariant-up
invariant-up l = Rising (seen l.fn.nodes.items) (seen l.nodes.items) l.known.items

abbrev pub decreases-up : goal.decreases-up
decreases-up l = length l.nodes.items
