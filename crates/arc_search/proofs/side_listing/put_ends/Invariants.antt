-- The ends so far are met.
use Rattle.std.proofs.Common.{take}
use Rattle.std.specs.List.{All}
use Rattle.weighted_graph.specs.declared.graph.Arc.{Arc}
use Rattle.arc_search.specs.Listing.{IsBorder, IsMet, StaysAtBorder, HasMore}
use Rattle.arc_search.proofs.side_listing.put_ends.Given as goal

abbrev pub invariant-loop-arc : goal.invariant-loop-arc
invariant-loop-arc l = record {
  border : IsBorder l.regions.graph.now.vertices l.border.items l.at_border;
  more : HasMore l.initial.border.items l.border.items;
  stays : StaysAtBorder l.initial.at_border l.at_border;
  met : All (λ (a : Arc). IsMet l.regions.labels.now l.region l.turns l.at_border a.to) (take l.arc-index l.row);
}
