use Rattle.std.proofs.Common.{◌≡◌, ◌++◌, length, map}
use Rattle.rooted_cactus.specs.Entries.{top_first}
use Rattle.rooted_cactus.specs.Trees.{blocks_in}
use Rattle.canonical_cactus.specs.Standing.{least_in}
use Rattle.canonical_cactus.specs.declared.parts.Hung.{Hung}
use Rattle.canonical_cactus.proofs.Ordered.{block_in, lessers}
use Rattle.canonical_cactus.proofs.rows.node_of.Given as goal

abbrev pub invariant-fill : goal.invariant-fill
invariant-fill l = record {
  blocks : blocks_in l.blocks ++ map block_in (top_first l.row.items) ≡ map block_in (top_first l.initial.row.items);
  least : lessers l.least (map (λ (h : Hung). h.least) (top_first l.row.items)) ≡ lessers (least_in l.fn.vertices) (map (λ (h : Hung). h.least) (top_first l.initial.row.items));
}

abbrev pub decreases-fill : goal.decreases-fill
decreases-fill l = length l.row.items
