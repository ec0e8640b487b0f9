-- The marks of a search: 0 stands for none.
use Rattle.std.specs.Prelude.{ℕ, ◌==◌, ◌-◌, List, slice_index}
use Rattle.std.specs.List.{count_by}

-- the mark of a vertex: the marks stand in the order of the vertices
abbrev pub mark_of : List ℕ → ℕ → ℕ
mark_of marks v = slice_index marks (v - 1)

-- how many vertices have no mark
abbrev pub unmarked : List ℕ → ℕ
unmarked marks = count_by (λ m. m == 0) marks
