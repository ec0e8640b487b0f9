use Rattle.std.proofs.Common.{◌≡◌, length}
use Rattle.std.specs.List.{flat_map}
use Rattle.rooted_cactus.specs.Entered.{entered}
use Rattle.rooted_cactus.specs.Trees.{nodes_in}
use Rattle.tree_tests.specs.Sketches.{AreWide}
use Rattle.tree_tests.proofs.trees.close_blocks.Given as goal

abbrev pub invariant-each : goal.invariant-each
invariant-each l = record {
  end : l.i-end ≡ length l.counts;
  entered : flat_map entered (nodes_in l.trees) ≡ flat_map entered (nodes_in l.initial.trees);
  wide : AreWide (nodes_in l.initial.trees) → AreWide (nodes_in l.trees);
}
