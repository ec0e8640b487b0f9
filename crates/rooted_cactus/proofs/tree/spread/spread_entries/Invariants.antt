use Rattle.std.proofs.Common.{List, ℕ}
use Rattle.cut_definitions.specs.Contraction.{lift}
use Rattle.rooted_cactus.specs.Spread.{AreGathered}
use Rattle.rooted_cactus.specs.Entries.{top_first, Shows}
use Rattle.rooted_cactus.proofs.Entries.{nodes_left}
use Rattle.rooted_cactus.proofs.tree.spread.spread_entries.Given as goal

abbrev pub invariant-walk : goal.invariant-walk
invariant-walk l = (classes : List ℕ) → AreGathered classes l.groups → Shows (lift classes) l.fn.root l.entries.items (top_first l.stack.items)

abbrev pub decreases-walk : goal.decreases-walk
decreases-walk l = nodes_left (top_first l.stack.items)
