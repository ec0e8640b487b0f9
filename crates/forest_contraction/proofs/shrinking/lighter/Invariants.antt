-- The bound is lowered by cuts of what is left, none of which is lighter than each cut of the list, and up to the half it tells as much as the list.
use Rattle.std.proofs.Common.{◌≤◌, min}
use Rattle.cut_definitions.specs.Cuts.{value}
use Rattle.forest_contraction.specs.Left.{IsLesser, IsLowered}
use Rattle.forest_contraction.proofs.shrinking.lighter.Given as goal

abbrev pub invariant-trials : goal.invariant-trials
invariant-trials l = record {
  above : 2 ≤ l.small.vertices → value l.fn.list ≤ value l.small;
  lowered : IsLowered l.small l.fn.bound l.low;
  kept : IsLesser (min l.half (value l.fn.list)) l.half l.small;
}

abbrev pub decreases-trials : goal.decreases-trials
decreases-trials l = l.small.vertices
