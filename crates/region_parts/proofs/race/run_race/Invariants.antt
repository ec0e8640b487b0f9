-- Both searches have gone on.
use Rattle.std.proofs.Common.{◌+◌, ◌-◌, get_or}
use Rattle.cut_definitions.specs.Weight.{VertexSet}
use Rattle.arc_search.specs.Found.{IsSearch, GoesOn}
use Rattle.region_fronts.specs.Fronts.{list_at}
use Rattle.region_parts.specs.Sided.{goes_from, other_side, stops}
use Rattle.region_parts.specs.Hubs.{HaveBegun, HubGoesOn, IsHubSearch, KeepsFrontsFor}
use Rattle.region_parts.proofs.race.run_race.Given as goal

abbrev pub invariant-loop-hub : goal.invariant-loop-hub
invariant-loop-hub l = record {
  near : (starts : VertexSet) → IsSearch l.task.region.graph.now.vertices (goes_from l.task.side l.task.region.graph.now l.task.region.flow.now) (stops l.task.side l.task.region.flow.now l.task.region.t) l.task.own.now starts l.fn.near →
      IsSearch l.task.region.graph.now.vertices (goes_from l.task.side l.task.region.graph.now l.task.region.flow.now) (stops l.task.side l.task.region.flow.now l.task.region.t) l.task.own.now starts l.near;
  kept : GoesOn l.fn.near l.near;
  hub : IsHubSearch (other_side l.task.side) l.task.region.graph.now l.task.region.flow.now l.task.region.t l.other l.hub;
  hub_goes_on : HubGoesOn l.fn.hub l.hub;
  fronts : KeepsFrontsFor l.task.region.flow.now.labels l.fn.hub.hub l.fn.fronts l.fronts;
  begun : HaveBegun l.task.region.flow.now l.task.region.t (list_at l.fn.fronts.lists (get_or l.task.region.flow.now.labels l.task.region.t 0)) l.fn.hub →
      HaveBegun l.task.region.flow.now l.task.region.t (list_at l.fronts.lists (get_or l.task.region.flow.now.labels l.task.region.t 0)) l.hub;
}

abbrev pub decreases-loop-hub : goal.decreases-loop-hub
decreases-loop-hub l = (l.task.region.graph.now.vertices + 2) - l.near.place
