-- The parts so far are placed.
use Rattle.region_flow.specs.Regions.{IsRegionFlow}
use Rattle.region_parts.specs.Covered.{IsRefined}
use Rattle.region_sweep.specs.Regrouping.{AreNumberedAround, ArePlaced, KeepsFeed}
use Rattle.region_sweep.proofs.regroup.place_parts.Given as goal

abbrev pub invariant-loop-before : goal.invariant-loop-before
invariant-loop-before l = record {
  flow : IsRegionFlow l.parted.graph.now l.flow;
  placed : ArePlaced l.parted.parts.now.numbers l.fn.flow.labels l.flow.labels l.fn.homes l.homes l.nodes l.before l.fn.fresh l.fresh;
  numbered : AreNumberedAround l.parted.graph.now.vertices l.flow.labels l.parted.region l.t l.fresh;
  refined : IsRefined l.fn.flow.labels l.flow.labels;
  fed : KeepsFeed l.parted.graph.now l.fn.flow l.flow;
}
