use Rattle.std.proofs.Common.{◌≡◌, ◌≤◌, length, ◌++◌, map, take, drop}
use Rattle.rooted_cactus.specs.Trees.{nodes_in}
use Rattle.rooted_cactus.specs.Sides.{part, block_part}
use Rattle.cactus_merge.specs.Joined.{bridges, held, block_held, IsWide, IsWideBlock}
use Rattle.std.specs.List.{All, flat_map}
use Rattle.cactus_merge.proofs.assembly.bridge_down.Given as goal

abbrev pub invariant-down : goal.invariant-down
invariant-down l = record {
  few : length (nodes_in l.nodes) ≤ length (nodes_in l.initial.nodes);
  enough : l.until ≤ length (nodes_in l.nodes);
  front : nodes_in l.nodes ≡ take (length (nodes_in l.nodes)) (nodes_in l.initial.nodes);
  joined : block_part l.hanging ≡ bridges (map part (drop (length (nodes_in l.nodes)) (nodes_in l.initial.nodes))) (block_part l.initial.hanging);
  wide : All IsWide (nodes_in l.initial.nodes) → IsWideBlock l.initial.hanging → All IsWide (nodes_in l.nodes) × IsWideBlock l.hanging;
  held : block_held l.hanging ≡ flat_map held (drop (length (nodes_in l.nodes)) (nodes_in l.initial.nodes)) ++ block_held l.initial.hanging;
}

abbrev pub decreases-down : goal.decreases-down
decreases-down l = length (nodes_in l.nodes)
