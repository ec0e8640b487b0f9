use Rattle.std.proofs.Common.{◌≡◌, ◌++◌, length}
use Rattle.rooted_cactus.specs.Outlines.{outlined}
use Rattle.rooted_cactus.specs.Heads.{entries_waiting}
use Rattle.rooted_cactus.proofs.tree.outline.outline_of.Given as goal

abbrev pub invariant-walk : goal.invariant-walk
invariant-walk l = l.entries.items ++ entries_waiting l.stack.items ≡ outlined l.root

abbrev pub decreases-walk : goal.decreases-walk
decreases-walk l = length (entries_waiting l.stack.items)
