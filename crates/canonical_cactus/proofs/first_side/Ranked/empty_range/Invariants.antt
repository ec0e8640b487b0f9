use Rattle.std.proofs.Common.{◌≡◌, ℕ, ◌+◌, ◌<◌, length}
use Rattle.rooted_cactus.specs.Borders.{border_at}
use Rattle.canonical_cactus.specs.FirstBest.{place_at}
use Rattle.canonical_cactus.proofs.first_side.Ranked.empty_range.Given as goal

abbrev pub invariant-starts : goal.invariant-starts
invariant-starts l = record {
  last : l.start-end ≡ length l.self.ranges.borders.items;
  some : (i : ℕ) → i < l.start → 0 < (border_at l.self.ranges.borders.items i).following → place_at l.self i < place_at l.self (i + 1);
}
