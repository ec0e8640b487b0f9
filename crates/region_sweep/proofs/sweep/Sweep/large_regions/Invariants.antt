-- The regions ascend to the last one, and each is that of a large part.
use Rattle.std.proofs.Common.{ℕ, ◌≤◌}
use Rattle.std.specs.List.{All}
use Rattle.region_fronts.specs.Listed.{part_list}
use Rattle.region_sweep.specs.Shares.{IsLargePart}
use Rattle.region_sweep.proofs.ShareLaws.{AscendTo}
use Rattle.region_sweep.proofs.sweep.Sweep.large_regions.Given as goal

abbrev pub invariant-loop-before : goal.invariant-loop-before
invariant-loop-before l = record {
  ascend : AscendTo l.last l.regions.items;
  large : All (λ region. (part : ℕ) × (part ≤ l.self.parts.count) × IsLargePart l.self.flow.labels (part_list l.self.parts part) l.least region) l.regions.items;
}
