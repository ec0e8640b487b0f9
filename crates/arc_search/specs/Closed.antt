-- Sets of vertices that no step leaves.
use Rattle.std.specs.Prelude.{ℕ, Bool, IsTrue}
use Rattle.cut_definitions.specs.Weight.{VertexSet}

-- a set is closed where no such arc leaves it
abbrev pub IsClosed : (ℕ → ℕ → Bool) → VertexSet → Type 0
IsClosed arcs x = (u v : ℕ) → IsTrue (arcs u v) → IsTrue (x u) → IsTrue (x v)
