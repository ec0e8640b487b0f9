use Rattle.std.proofs.Common.{◌≡◌, length, take}
use Rattle.std.specs.List.{flat_map}
use Rattle.rooted_cactus.specs.Entries.{nodes_of}
use Rattle.rooted_cactus.specs.Trees.{blocks}
use Rattle.cactus_growth.specs.Ways.{AreVisited}
use Rattle.cactus_growth.proofs.ways.visit_below.Given as goal

abbrev pub invariant-each_block : goal.invariant-each_block
invariant-each_block l = record {
  end : l.place-end ≡ length (blocks l.node);
  stacked : AreVisited l.v l.node l.depth (flat_map nodes_of (take l.place (blocks l.node))) l.initial.stack.items l.stack.items;
}
