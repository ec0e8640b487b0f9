use Rattle.std.proofs.Common.{◌≡◌}
use Rattle.std.specs.List.{flat_map, range_with_len}
use Rattle.graph_maker.specs.Made.{ring_edges}
use Rattle.graph_maker.proofs.rings.make.Given as goal

-- the edges of the rings before this one are in the list
abbrev pub invariant-rings : goal.invariant-rings
invariant-rings l = l.edges.items ≡ flat_map (ring_edges l.rings) (range_with_len 0 l.ring)
