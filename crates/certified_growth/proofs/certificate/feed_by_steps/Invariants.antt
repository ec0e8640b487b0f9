use Rattle.std.proofs.Common.{◌≡◌}
use Rattle.region_flow.specs.Regions.{IsRegionFlow}
use Rattle.certified_growth.proofs.certificate.feed_by_steps.Given as goal

abbrev pub invariant-searches : goal.invariant-searches
invariant-searches l = IsRegionFlow l.graph l.flow × (l.flow.labels ≡ l.fn.flow.labels)
