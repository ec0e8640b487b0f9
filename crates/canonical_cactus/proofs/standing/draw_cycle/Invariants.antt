use Rattle.std.proofs.Common.{◌≡◌, ◌≤◌, ◌++◌, ℕ, List, Option, length, map, take, drop}
use Rattle.std.specs.List.{filter}
use Rattle.rooted_cactus.specs.Trees.{nodes_in}
use Rattle.rooted_cactus.specs.Numbers.{is_inner}
use Rattle.canonical_cactus.specs.Canonical.{all_vertices, arranged, leasts}
use Rattle.canonical_cactus.specs.Inner.{leasts_of}
use Rattle.canonical_cactus.specs.Standing.{least_in}
use Rattle.canonical_cactus.proofs.Ascending.{first_or_zero, last_or_zero}
use Rattle.canonical_cactus.proofs.standing.draw_cycle.Given as goal

abbrev pub invariant-back : goal.invariant-back
invariant-back l = record {
  count : l.count ≡ length (nodes_in l.nodes);
  within : l.i ≤ length (nodes_in l.nodes);
  least : l.least ≡ least_in (all_vertices (map arranged (drop l.i (nodes_in l.nodes))));
  first : l.first ≡ first_or_zero (leasts (map arranged (drop l.i (nodes_in l.nodes))));
  last : l.last ≡ last_or_zero (leasts (map arranged (drop l.i (nodes_in l.nodes))));
  known : (rest : List (Option ℕ)) → l.initial.known.items ≡ rest ++ leasts_of (filter is_inner (nodes_in l.nodes)) → l.known.items ≡ rest ++ leasts_of (filter is_inner (take l.i (nodes_in l.nodes)));
}

abbrev pub decreases-back : goal.decreases-back
decreases-back l = l.i
