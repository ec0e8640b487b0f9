-- The classes stay, and so do their firsts; the number at hand is in the class of the one that is asked for.
use Rattle.std.proofs.Common.{◌≡◌, ℕ, ◌<◌, length, get_or}
use Rattle.vertex_classes.specs.Classes.{AreJoined, AreParents, HasSameClasses}
use Rattle.vertex_classes.proofs.classes.first_of.Given as goal

abbrev pub invariant-loop-parents : goal.invariant-loop-parents
invariant-loop-parents l = record {
  parents : AreParents l.parents;
  same : HasSameClasses l.fn.parents l.parents;
  firsts : (u : ℕ) → get_or l.fn.parents u 0 ≡ u → get_or l.parents u 0 ≡ u;
  joined : AreJoined l.fn.parents l.at l.fn.v;
  within : l.at < length l.fn.parents;
}

abbrev pub decreases-loop-parents : goal.decreases-loop-parents
decreases-loop-parents l = l.at
