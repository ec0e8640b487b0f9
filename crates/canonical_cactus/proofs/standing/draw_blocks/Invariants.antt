use Rattle.std.proofs.Common.{◌≡◌, ◌≤◌, ◌++◌, ℕ, List, Option, length, map, take, drop}
use Rattle.std.specs.List.{filter, flat_map, list_all}
use Rattle.rooted_cactus.specs.Trees.{blocks_in}
use Rattle.rooted_cactus.specs.Entries.{nodes_of}
use Rattle.rooted_cactus.specs.Numbers.{is_inner}
use Rattle.canonical_cactus.specs.Canonical.{all_vertices, arranged_block, ascend, leasts}
use Rattle.canonical_cactus.specs.Inner.{is_turned, leasts_of}
use Rattle.canonical_cactus.specs.Standing.{least_in}
use Rattle.canonical_cactus.proofs.Ascending.{first_or_zero}
use Rattle.canonical_cactus.proofs.standing.draw_blocks.Given as goal

abbrev pub invariant-back : goal.invariant-back
invariant-back l = record {
  count : l.count ≡ length (blocks_in l.blocks);
  within : l.i ≤ length (blocks_in l.blocks);
  least : l.least ≡ least_in (all_vertices (map arranged_block (drop l.i (blocks_in l.blocks))));
  next : l.next ≡ first_or_zero (leasts (map arranged_block (drop l.i (blocks_in l.blocks))));
  ascends : l.ascends ≡ ascend (leasts (map arranged_block (drop l.i (blocks_in l.blocks))));
  each : l.each ≡ list_all is_turned (drop l.i (blocks_in l.blocks));
  known : (rest : List (Option ℕ)) → l.initial.known.items ≡ rest ++ leasts_of (filter is_inner (flat_map nodes_of (blocks_in l.blocks))) → l.known.items ≡ rest ++ leasts_of (filter is_inner (flat_map nodes_of (take l.i (blocks_in l.blocks))));
}

abbrev pub decreases-back : goal.decreases-back
decreases-back l = l.i
