use Rattle.std.proofs.Common.{◌≡◌, ℕ, ◌+◌, [], length}
use Rattle.rooted_cactus.specs.Spread.{group_at}
use Rattle.rooted_cactus.proofs.tree.spread.no_groups.Given as goal

abbrev pub invariant-groups : goal.invariant-groups
invariant-groups l = record {
  len : length l.groups.items ≡ l._class + 1;
  empty : (c : ℕ) → group_at l.groups.items c ≡ [];
}
