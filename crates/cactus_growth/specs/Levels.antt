-- Nodes above a node, each without the node below it on the way.
use Rattle.std.specs.Prelude.{◌≡◌, List, [], ◌∷◌}
use Rattle.rooted_cactus.specs.Entered.{entered}
use Rattle.rooted_cactus.specs.Trees.{nodes_in}
use Rattle.rooted_cactus.specs.declared.tree.Node.{Node}
use Rattle.cactus_growth.specs.declared.growing.Opened.{Opened}
use Rattle.cactus_growth.specs.Growth.{AreOnce, IsOpened}

-- opened nodes, the lowest first, are above a node and below the root
abbrev pub AreAbove : Node → List Opened → Node → Type 0
AreAbove root [] x = root ≡ x
AreAbove root (l ∷ ls) x = (y : Node) × IsOpened y l.top (nodes_in l.before) x (nodes_in l.after) × AreOnce (entered y) × AreAbove root ls y
