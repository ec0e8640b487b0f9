use Rattle.std.proofs.Common.{◌≡◌, length}
use Rattle.tree_tests.proofs.Sketched.{own_to}
use Rattle.tree_tests.proofs.trees.own_list.Given as goal

abbrev pub invariant-homes : goal.invariant-homes
invariant-homes l = record {
  end : l.i-end ≡ length l.homes;
  own : l.own ≡ own_to l.homes l.node l.i;
}
