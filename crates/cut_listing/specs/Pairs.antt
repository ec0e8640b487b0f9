-- Two vertices as masses: what lies on either side of a cut that separates them has a mass of 1.
use Rattle.std.specs.Prelude.{ℕ, ◌≡◌, ◌≤◌, ◌==◌, ◌&&◌, ◌||◌, nat_le, if◌then◌else◌, List, length}
use Rattle.cut_definitions.specs.Balance.{mass_of}

-- a vertex of 1 to n, and vertex 1 for any other number: it is in no side, as that is
abbrev pub vertex_or_one : ℕ → ℕ → ℕ
vertex_or_one n v = if nat_le 1 v && nat_le v n then v else 1

-- of the vertices 1 to n two have the mass 1, and all others none
pub record ArePairMasses (n first second : ℕ) (masses : List ℕ) : Type 0 where
  pub many : length masses ≡ n
  pub ones : (v : ℕ) → 1 ≤ v → v ≤ n → mass_of masses v ≡ (if (v == first) || (v == second) then 1 else 0)
