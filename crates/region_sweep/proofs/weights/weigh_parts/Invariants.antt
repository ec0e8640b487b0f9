-- The vertices of the parts so far are done.
use Rattle.std.proofs.Common.{◌+◌}
use Rattle.arc_search.specs.Searched.{is_listed}
use Rattle.region_fronts.specs.Listed.{part_in}
use Rattle.node_tree.specs.Weighed.{listed_below, AreWeighed}
use Rattle.region_sweep.proofs.weights.weigh_parts.Given as goal

abbrev pub invariant-loop-i : goal.invariant-loop-i
invariant-loop-i l = AreWeighed l.parted.graph.now (is_listed l.parted.parts.now.numbers) (listed_below l.parted.parts.now.numbers (l.i + 1)) l.parted.parts.now.count (part_in l.parted.parts.now l.flow.labels l.parted.region) l.later l.next
