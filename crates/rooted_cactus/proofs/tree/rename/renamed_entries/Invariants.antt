use Rattle.rooted_cactus.specs.Entered.{renamed}
use Rattle.rooted_cactus.specs.Entries.{top_first, Shows}
use Rattle.rooted_cactus.proofs.Entries.{nodes_left}
use Rattle.rooted_cactus.proofs.tree.rename.renamed_entries.Given as goal

abbrev pub invariant-walk : goal.invariant-walk
invariant-walk l = Shows (renamed l.names) l.fn.root l.entries.items (top_first l.stack.items)

abbrev pub decreases-walk : goal.decreases-walk
decreases-walk l = nodes_left (top_first l.stack.items)
