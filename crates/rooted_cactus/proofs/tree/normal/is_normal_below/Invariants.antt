use Rattle.std.proofs.Common.{◌≡◌}
use Rattle.std.specs.List.{list_all}
use Rattle.rooted_cactus.specs.Normal.{block_shape}
use Rattle.rooted_cactus.specs.Trees.{blocks}
use Rattle.rooted_cactus.specs.Numbers.{seen}
use Rattle.rooted_cactus.proofs.AllFine.{all_fine}
use Rattle.rooted_cactus.proofs.Tallies.{nodes_to_come}
use Rattle.rooted_cactus.proofs.tree.normal.is_normal_below.Given as goal

abbrev pub invariant-walk : goal.invariant-walk
invariant-walk l = all_fine (seen l.stack.items) ≡ list_all (λ b. (block_shape b).fine) (blocks l.root)

abbrev pub decreases-walk : goal.decreases-walk
decreases-walk l = nodes_to_come (seen l.stack.items)
