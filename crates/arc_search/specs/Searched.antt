-- The vertices that were listed: those with a turn above 0.
use Rattle.std.specs.Prelude.{ℕ, nat_lt, List, slice_index}
use Rattle.cut_definitions.specs.Weight.{VertexSet}

abbrev pub is_listed : List ℕ → VertexSet
is_listed turn v = nat_lt 0 (slice_index turn v)
