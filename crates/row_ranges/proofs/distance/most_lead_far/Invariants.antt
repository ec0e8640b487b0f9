use Rattle.std.proofs.Common.{◌≡◌, ◌-◌, nat_lt, take}
use Rattle.std.specs.Prelude.{not}
use Rattle.std.specs.List.{count_by}
use Rattle.cut_definitions.specs.declared.edge_list.Edge.{Edge}
use Rattle.row_ranges.proofs.distance.most_lead_far.Given as goal

abbrev pub invariant-loop-edge : goal.invariant-loop-edge
invariant-loop-edge l = l.far ≡ count_by (λ (e : Edge). not (nat_lt (e.v - e.u) l.distance)) (take l.edge-index l.edges)
