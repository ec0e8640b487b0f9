-- Lists of sides that grow by a part at a time.
use Rattle.std.specs.Prelude.{ℕ, Bool, false, List, [], ◌∷◌, ◌++◌, map, slice_index, slice_index_or}
use Rattle.std.specs.List.{filter, range_with_len}
use Rattle.cut_definitions.specs.Weight.{VertexSet, either}
use Rattle.cut_definitions.specs.Cuts.{has}
use Rattle.vertex_set.specs.Side.{VertexList, listed}

-- the union of two sets of the vertices 1 to n
abbrev pub union_of : ℕ → List ℕ → List ℕ → List ℕ
union_of n first second = filter (either (has first) (has second)) (range_with_len 1 n)

-- the union of two sides over one n
abbrev pub joined_with : VertexList → VertexList → VertexList
joined_with part side = listed part.vertices (either (has part.members) (has side.members))

-- some sides, then the union of each with one more, then that one
abbrev pub doubled : VertexList → List VertexList → List VertexList
doubled part sides = sides ++ (map (joined_with part) sides ++ part ∷ [])

-- the vertices whose number is chosen
abbrev pub chosen_vertices : List ℕ → List Bool → VertexSet
chosen_vertices part_of chosen v = slice_index_or chosen (slice_index part_of v) false
