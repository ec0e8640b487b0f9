-- The vertices so far are on the list, and the ends of their rows are met.
use Rattle.std.proofs.Common.{◌≡◌, ◌++◌, take}
use Rattle.std.specs.List.{All}
use Rattle.arc_search.specs.Listing.{IsBorder, IsRowMet, StaysAtBorder, HasMore}
use Rattle.arc_search.proofs.side_listing.list_all.Given as goal

abbrev pub invariant-loop-v : goal.invariant-loop-v
invariant-loop-v l = record {
  list : l.list.items ≡ l.initial.list.items ++ take l.v-index l.found;
  border : IsBorder l.regions.graph.now.vertices l.border.items l.at_border;
  more : HasMore l.initial.border.items l.border.items;
  stays : StaysAtBorder l.initial.at_border l.at_border;
  met : All (IsRowMet l.regions.graph.now l.regions.labels.now l.turns l.at_border) (take l.v-index l.found);
}
