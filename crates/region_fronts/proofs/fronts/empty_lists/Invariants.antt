-- The lists so far have no entry.
use Rattle.std.proofs.Common.{◌≡◌, ℕ, [], length}
use Rattle.region_fronts.specs.Fronts.{list_at, lists_of}
use Rattle.region_fronts.proofs.fronts.empty_lists.Given as goal

abbrev pub invariant-lists : goal.invariant-lists
invariant-lists l = record {
  count : length (lists_of l.lists.items) ≡ l._list;
  empty : (region : ℕ) → list_at (lists_of l.lists.items) region ≡ [];
}
