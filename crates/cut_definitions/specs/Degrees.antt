-- The degrees of vertices.
use Rattle.std.specs.Prelude.{ℕ, ◌≡◌, ◌≤◌}
use Rattle.cut_definitions.specs.Graph.{Graph}
use Rattle.cut_definitions.specs.Weight.{weight}
use Rattle.cut_definitions.specs.Scan.{single}

-- no vertex has a smaller degree
abbrev pub HasDegrees : Graph → ℕ → Type 0
HasDegrees g low = (v : ℕ) → 1 ≤ v → v ≤ g.vertices → low ≤ weight g (single v)

-- the least degree: that of some vertex, and no vertex has a smaller one
pub record IsLeastDegree (g : Graph) (low : ℕ) : Type 0 where
  pub vertex : ℕ
  pub from_one : 1 ≤ vertex
  pub to_n : vertex ≤ g.vertices
  pub has_it : weight g (single vertex) ≡ low
  pub least : HasDegrees g low
