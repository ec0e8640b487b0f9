-- What one scan tells of a graph.
use Rattle.std.specs.Prelude.{◌+◌, ◌<◌, ◌≤◌, min}
use Rattle.cut_definitions.specs.Cuts.{value}
use Rattle.cut_definitions.specs.Graph.{Graph}
use Rattle.weighted_graph.specs.ContractionLaws.{IsLabelled, PartsNoClass}
use Rattle.round_workers.specs.declared.threshold.Threshold.{Threshold}
use Rattle.min_value.specs.declared.scanning.Scanned.{Scanned}

-- a bound between the lesser of the threshold's and the value, and that of the threshold; and classes, which no minimum cut
-- parts if the value is below the bound and the slack: with slack 0 they keep the value, and with slack 1 all minimum cuts,
-- where the value is at most the bound
pub record IsScan (g : Graph) (threshold : Threshold) (s : Scanned) : Type 0 where
  pub at_most : s.bound ≤ threshold.bound
  pub at_least : min threshold.bound (value g) ≤ s.bound
  pub labelled : IsLabelled g s.labels
  pub safe : value g < s.bound + threshold.slack → PartsNoClass g s.labels
