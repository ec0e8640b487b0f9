-- The numbers so far are their own parents.
use Rattle.std.proofs.Common.{◌≡◌, ℕ, ◌<◌, length, get_or}
use Rattle.vertex_classes.proofs.classes.own_parents.Given as goal

abbrev pub invariant-loop-v : goal.invariant-loop-v
invariant-loop-v l = record {
  long : length l.parents.items ≡ l.v;
  own : (u : ℕ) → u < l.v → get_or l.parents.items u 0 ≡ u;
}
