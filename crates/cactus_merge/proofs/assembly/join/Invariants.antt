use Rattle.std.proofs.Common.{◌≡◌, ℕ, ◌≤◌, ◌<◌, length, map, take, drop}
use Rattle.std.specs.Prelude.{slice_index_or}
use Rattle.rooted_cactus.specs.Trees.{nodes_in}
use Rattle.rooted_cactus.specs.Sides.{part, block_part}
use Rattle.residual_chain.specs.declared.run.Run.{Run}
use Rattle.cactus_merge.specs.Joined.{held, block_held, IsWide, IsWideBlock}
use Rattle.std.specs.List.{All, flat_map}
use Rattle.cactus_merge.proofs.Tails.{IsTail}
use Rattle.cactus_merge.proofs.assembly.join.Given as goal

abbrev pub no_run : Run
no_run = record { first = 0; last = 0 }

abbrev pub invariant-runs : goal.invariant-runs
invariant-runs l = record {
  some : 1 ≤ length (nodes_in l.nodes);
  more : length (nodes_in l.nodes) < length (nodes_in l.fn.nodes);
  left : l.left ≤ length l.runs;
  front : nodes_in l.nodes ≡ take (length (nodes_in l.nodes)) (nodes_in l.fn.nodes);
  before : (k : ℕ) → k < l.left → (slice_index_or l.runs k no_run).last ≤ length (nodes_in l.nodes);
  tail : IsTail (map part (nodes_in l.fn.nodes)) (drop l.left l.runs) (drop (length (nodes_in l.nodes)) (map part (nodes_in l.fn.nodes))) (block_part l.hanging);
  wide : All IsWide (nodes_in l.fn.nodes) → All IsWide (nodes_in l.nodes) × IsWideBlock l.hanging;
  held : block_held l.hanging ≡ flat_map held (drop (length (nodes_in l.nodes)) (nodes_in l.fn.nodes));
}

abbrev pub decreases-runs : goal.decreases-runs
decreases-runs l = l.left
