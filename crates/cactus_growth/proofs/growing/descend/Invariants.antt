use Rattle.std.proofs.Common.{◌≡◌, length, drop}
use Rattle.rooted_cactus.specs.Entered.{entered}
use Rattle.rooted_cactus.specs.Entries.{top_first}
use Rattle.rooted_cactus.specs.declared.tree.Node.{Node}
use Rattle.cactus_growth.specs.Growth.{AreOnce}
use Rattle.cactus_growth.specs.Levels.{AreAbove}
use Rattle.cactus_growth.specs.Ways.{IsWay}
use Rattle.cactus_growth.proofs.growing.descend.Given as goal

abbrev pub invariant-steps : goal.invariant-steps
invariant-steps l = record {
  end : l.i-end ≡ length l.way;
  above : AreAbove l.fn.root (top_first l.levels.items) l.node;
  once : AreOnce (entered l.node);
  way : (z : Node) → IsWay l.fn.root l.way z → IsWay l.node (drop l.i l.way) z;
}
