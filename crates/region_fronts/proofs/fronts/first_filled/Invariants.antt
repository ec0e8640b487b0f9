-- Each label whose list is not empty is left in the stack.
use Rattle.std.proofs.Common.{ℕ, ◌≤◌, length}
use Rattle.std.specs.List.{Contains}
use Rattle.region_fronts.specs.Fronts.{list_at, lists_of}
use Rattle.region_fronts.proofs.fronts.first_filled.Given as goal

abbrev pub invariant-loop-stack : goal.invariant-loop-stack
invariant-loop-stack l = record {
  stacked : (region : ℕ) → 1 ≤ length (list_at (lists_of l.lists) region) → Contains l.stack.items region;
  no_other : (region : ℕ) → Contains l.stack.items region → Contains l.fn.stack.items region;
}

abbrev pub decreases-loop-stack : goal.decreases-loop-stack
decreases-loop-stack l = length l.stack.items
