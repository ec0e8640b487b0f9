-- What the vertices of a set hold.
use Rattle.std.specs.Prelude.{ℕ, ◌+◌, if◌then◌else◌, List, [], ◌∷◌}
use Rattle.cut_definitions.specs.Weight.{VertexSet}

-- what the vertices of a set hold, where the first number of the list is that of a vertex k, and so on
abbrev pub held_from : ℕ → VertexSet → List ℕ → ℕ
held_from k s [] = 0
held_from k s (x ∷ xs) = (if s k then x else 0) + held_from (k + 1) s xs

abbrev pub held : VertexSet → List ℕ → ℕ
held s excess = held_from 0 s excess
