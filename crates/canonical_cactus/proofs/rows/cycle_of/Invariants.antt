use Rattle.std.proofs.Common.{◌≡◌, ◌++◌, None, length, map}
use Rattle.rooted_cactus.specs.Entries.{top_first}
use Rattle.rooted_cactus.specs.Trees.{nodes_in}
use Rattle.canonical_cactus.proofs.Ordered.{child_in, least_at, lessers}
use Rattle.canonical_cactus.proofs.rows.cycle_of.Given as goal

abbrev pub invariant-close : goal.invariant-close
invariant-close l = record {
  nodes : nodes_in l.children ++ map child_in (top_first l.nodes.items) ≡ map child_in (top_first l.initial.nodes.items);
  least : lessers l.least (map least_at (top_first l.nodes.items)) ≡ lessers None (map least_at (top_first l.initial.nodes.items));
}

abbrev pub decreases-close : goal.decreases-close
decreases-close l = length l.nodes.items
