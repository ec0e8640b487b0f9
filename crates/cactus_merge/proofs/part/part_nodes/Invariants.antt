use Rattle.std.proofs.Common.{◌≡◌, ℕ, ◌+◌, ◌<◌, length, ◌++◌}
use Rattle.std.specs.Vec.Iter.{into_iter_items, into_iter_len}
use Rattle.std.specs.Prelude.{slice_index_or}
use Rattle.rooted_cactus.specs.Trees.{nodes_in}
use Rattle.rooted_cactus.specs.declared.tree.Node.{Node}
use Rattle.cactus_merge.specs.declared.part.PartCactus.{PartCactus}
use Rattle.cactus_merge.specs.Assembled.{IsNodeOf}
use Rattle.cactus_merge.proofs.part.part_nodes.Given as goal

abbrev pub invariant-each : goal.invariant-each
invariant-each l = record {
  left : l.left + length l.yielded ≡ l.count;
  many : length (nodes_in l.nodes) ≡ length l.yielded;
  each : (i : ℕ) (p : PartCactus) (x : Node) → i < length l.yielded → IsNodeOf l.chain (i + 1) (slice_index_or l.yielded i p) (slice_index_or (nodes_in l.nodes) i x);
  whole : l.yielded ++ into_iter_items l.part-iterator ≡ l.fn.parts.items;
  waiting : into_iter_len l.part-iterator + length l.yielded ≡ length l.fn.parts.items;
  next : (goal.iterator-each).can_next l.part-iterator;
  finite : (goal.iterator-each).is_finite l.part-iterator;
}
