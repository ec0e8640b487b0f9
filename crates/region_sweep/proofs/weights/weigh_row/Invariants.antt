-- The arcs so far were added.
use Rattle.std.proofs.Common.{ℕ, ◌≡◌, ◌+◌, get_or, take}
use Rattle.std.specs.List.{sum_by}
use Rattle.cut_definitions.specs.Chain.{one_part}
use Rattle.region_flow.specs.Parted.{later_parts}
use Rattle.arc_search.specs.Searched.{is_listed}
use Rattle.region_fronts.specs.Listed.{part_in}
use Rattle.node_tree.specs.Weighed.{arc_adds}
use Rattle.region_sweep.proofs.weights.weigh_row.Given as goal

abbrev pub invariant-loop-arc : goal.invariant-loop-arc
invariant-loop-arc l = let part = part_in l.parted.parts.now l.flow.labels l.parted.region in record {
  later : (i : ℕ) → get_or l.later i 0 ≡ get_or l.initial.later i 0 + sum_by (arc_adds (is_listed l.parted.parts.now.numbers) (one_part part i) (later_parts part (i + 1)) l.v) (take l.arc-index l.row);
  next : (i : ℕ) → get_or l.next i 0 ≡ get_or l.initial.next i 0 + sum_by (arc_adds (is_listed l.parted.parts.now.numbers) (one_part part i) (one_part part (i + 1)) l.v) (take l.arc-index l.row);
}
