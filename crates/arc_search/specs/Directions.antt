-- Which arcs a search takes.
use Rattle.std.specs.Prelude.{ℕ, ◌*◌, Bool, nat_lt}
use Rattle.weighted_graph.specs.declared.graph.Arc.{Arc}
use Rattle.arc_search.specs.declared.direction.Direction.{Direction}
use Rattle.arc_search.specs.declared.direction.Direction.TheVariants.{Along, Against}

-- whether a search takes an arc of a row, which can carry so much: against the arcs it asks for the opposite arc, which can
-- carry the rest of twice the weight
abbrev pub is_open : Direction → Arc → ℕ → Bool
is_open Along arc amount = nat_lt 0 amount
is_open Against arc amount = nat_lt amount (2 * arc.weight)
