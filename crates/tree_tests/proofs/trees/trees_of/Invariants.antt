use Rattle.std.proofs.Common.{◌≡◌, length}
use Rattle.std.specs.List.{flat_map}
use Rattle.rooted_cactus.specs.Entered.{entered}
use Rattle.rooted_cactus.specs.Trees.{nodes_in}
use Rattle.tree_tests.specs.Sketches.{AreWide, lists_of}
use Rattle.tree_tests.proofs.trees.trees_of.Given as goal

abbrev pub invariant-nodes : goal.invariant-nodes
invariant-nodes l = record {
  end : l.i-end ≡ length l.fn.sketch.ends.now;
  entered : flat_map entered (nodes_in l.trees) ≡ lists_of l.fn.sketch.homes.now l.i;
  wide : AreWide (nodes_in l.trees);
}
