-- The vertices that have a part: the number 0 stands for none.
use Rattle.std.specs.Prelude.{ℕ, ◌&&◌, nat_lt, nat_le, List}
use Rattle.cut_definitions.specs.Weight.{VertexSet}
use Rattle.arc_search.specs.Marks.{mark_of}

-- the vertices that have a part
abbrev pub marked : List ℕ → VertexSet
marked part_of v = nat_lt 0 (mark_of part_of v)

-- the vertices of the first parts
abbrev pub marked_upto : List ℕ → ℕ → VertexSet
marked_upto part_of last v = nat_lt 0 (mark_of part_of v) && nat_le (mark_of part_of v) last
