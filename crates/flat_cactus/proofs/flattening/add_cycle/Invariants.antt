use Rattle.std.proofs.Common.{◌≡◌, ℕ, ◌+◌, List, ◌++◌, take, drop, map, length}
use Rattle.std.specs.List.{flat_map}
use Rattle.rooted_cactus.specs.Trees.{nodes_in}
use Rattle.rooted_cactus.specs.Outlines.{sizes}
use Rattle.flat_cactus.specs.Flattened.{tree_joins, trees_size}
use Rattle.flat_cactus.specs.Tasks.{with_cycle}
use Rattle.flat_cactus.proofs.flattening.add_cycle.Given as goal

abbrev pub invariant-members : goal.invariant-members
invariant-members l = record {
  flat : l.flat ≡ with_cycle l.fn.flat l.up (take l._i (nodes_in l.nodes));
  root : l.root ≡ length l.fn.flat.nodes + trees_size (map tree_joins (take l._i (nodes_in l.nodes)));
  rest : (rest : List ℕ) × (drop l.root l.subtrees ≡ flat_map sizes (drop l._i (nodes_in l.nodes)) ++ rest);
}
