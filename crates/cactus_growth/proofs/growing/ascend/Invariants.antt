use Rattle.std.proofs.Common.{◌≡◌, ℕ, length, true}
use Rattle.rooted_cactus.specs.Entries.{top_first}
use Rattle.rooted_cactus.specs.Sides.{below}
use Rattle.rooted_cactus.specs.declared.tree.Node.{Node}
use Rattle.cactus_growth.specs.Growth.{IsGrown}
use Rattle.cactus_growth.specs.Levels.{AreAbove}
use Rattle.cactus_growth.proofs.growing.ascend.Given as goal

abbrev pub invariant-levels : goal.invariant-levels
invariant-levels l =
    (u v : ℕ) (root old : Node) → AreAbove root (top_first l.initial.levels.items) old → below old u ≡ true → below old v ≡ true → IsGrown u v old l.initial.node →
    (o : Node) × AreAbove root (top_first l.levels.items) o × (below o u ≡ true) × (below o v ≡ true) × IsGrown u v o l.node

abbrev pub decreases-levels : goal.decreases-levels
decreases-levels l = length l.levels.items
