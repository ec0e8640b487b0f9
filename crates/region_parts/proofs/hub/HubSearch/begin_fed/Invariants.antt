-- The entries so far have been looked at.
use Rattle.std.proofs.Common.{◌≡◌, ℕ, List, length, get_or}
use Rattle.region_parts.specs.declared.side.Side.TheVariants.{Outer}
use Rattle.region_parts.specs.declared.hub.Hub.TheVariants.{Outside}
use Rattle.region_fronts.specs.Fronts.{list_at}
use Rattle.region_parts.specs.Hubs.{HaveBegun, HubGoesOn, IsHubSearch, KeepsFrontsFor}
use Rattle.region_parts.proofs.hub.HubSearch.begin_fed.Given as goal

abbrev pub invariant-loop : goal.invariant-loop
invariant-loop l = record {
  goes_on : HubGoesOn l.fn.self l.self;
  long : length l.self.search.seen ≡ length l.fn.self.search.seen;
  fronts : KeepsFrontsFor l.region.flow.now.labels Outside l.fn.fronts l.fronts;
  begun : HaveBegun l.region.flow.now l.region.t (list_at l.fn.fronts.lists (get_or l.region.flow.now.labels l.region.t 0)) l.fn.self →
      HaveBegun l.region.flow.now l.region.t (list_at l.fronts.lists (get_or l.region.flow.now.labels l.region.t 0)) l.self;
  search : (turns : List ℕ) → ((v : ℕ) → get_or turns v 0 ≡ 0) → IsHubSearch Outer l.region.graph.now l.region.flow.now l.region.t turns l.fn.self →
      IsHubSearch Outer l.region.graph.now l.region.flow.now l.region.t turns l.self;
}
