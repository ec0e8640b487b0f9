-- What a search of a graph has seen.
use Rattle.std.specs.Prelude.{Bool, List, slice_index_or, false}
use Rattle.cut_definitions.specs.Weight.{VertexSet}

-- the vertices that are marked in a list with a mark for each number from 0 on
abbrev pub is_seen : List Bool → VertexSet
is_seen marks v = slice_index_or marks v false
