use Rattle.std.proofs.Common.{◌≡◌, ◌+◌, ◌-◌, ◌≤◌, length}
use Rattle.cut_definitions.specs.Cuts.{has}
use Rattle.cut_definitions.specs.Weight.{complement}
use Rattle.balanced_cut.proofs.Gathered.{mass_among}
use Rattle.balanced_cut.proofs.side_balance.balance_of.Given as goal

abbrev pub invariant-vertices : goal.invariant-vertices
invariant-vertices l = record {
  last : l.v-end ≡ length l.weights + 1;
  from_one : 1 ≤ l.v;
  inside : l.inside ≡ mass_among l.weights (has l.side.members) (l.v - 1);
  outside : l.outside ≡ mass_among l.weights (complement (has l.side.members)) (l.v - 1);
}
