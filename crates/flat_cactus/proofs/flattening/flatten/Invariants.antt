use Rattle.std.proofs.Common.{◌≡◌, drop, length}
use Rattle.std.specs.List.{flat_map}
use Rattle.flat_cactus.specs.Flattened.{flat_of}
use Rattle.flat_cactus.specs.Tasks.{pendings, pending_sizes}
use Rattle.flat_cactus.proofs.Tasked.{completed, pendings_weight}
use Rattle.flat_cactus.proofs.flattening.flatten.Given as goal

abbrev pub invariant-walk : goal.invariant-walk
invariant-walk l = record {
  whole : completed l.flat (pendings l.stack.items) ≡ flat_of l.cactus;
  sizes : drop (length l.flat.nodes) l.subtrees.items ≡ flat_map pending_sizes (pendings l.stack.items);
}

abbrev pub decreases-walk : goal.decreases-walk
decreases-walk l = pendings_weight (pendings l.stack.items)
