use Rattle.std.proofs.Common.{◌≡◌, ◌≤◌, ◌^◌, ◌+◌, length}
use Rattle.edge_arrays.proofs.Joined.{AreJoinedBy}
use Rattle.edge_arrays.proofs.Places.{IsSummed}
use Rattle.edge_arrays.proofs.joining.join_ends.Given as goal

abbrev pub invariant-places : goal.invariant-places
invariant-places l = record {
  long : length l.classes ≡ l.n + 1;
  summed : IsSummed l.n l.us l.vs l.ws l.i l.total;
  joined : AreJoinedBy l.us l.vs l.ws l.i l.classes;
  small : l.total ≤ 2 ^ 61;
}
