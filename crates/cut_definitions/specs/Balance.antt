-- Balance: how evenly a side divides the vertices, each of which has a mass.
use Rattle.std.specs.Prelude.{ℕ, ◌-◌, ◌≤◌, ◌<◌, ◌^◌, if◌then◌else◌, List, get_or, length, min}
use Rattle.std.specs.List.{All, Contains, range_with_len, sum_by}
use Rattle.cut_definitions.specs.Weight.{VertexSet, complement}
use Rattle.cut_definitions.specs.Cuts.{has}

-- the masses of the vertices 1 to n, in their order: whole numbers below 2^64, of at most 4,194,304 vertices
pub record AreMasses (masses : List ℕ) : Type 0 where
  pub few : length masses ≤ 4194304
  pub bounded : All (λ m. m < 2 ^ 64) masses

-- the mass of a vertex, counted from 1
abbrev pub mass_of : List ℕ → ℕ → ℕ
mass_of masses v = get_or masses (v - 1) 0

-- the mass of a set: the sum of the masses of its vertices
unfoldable pub mass : List ℕ → VertexSet → ℕ
mass masses s = sum_by (λ v. if s v then mass_of masses v else 0) (range_with_len 1 (length masses))

-- the smaller of the mass of a side and that of all other vertices
abbrev pub balance : List ℕ → List ℕ → ℕ
balance masses side = min (mass masses (has side)) (mass masses (complement (has side)))

-- a member of a list of sides than which no other has a greater balance
pub record IsBest (masses : List ℕ) (sides : List (List ℕ)) (side : List ℕ) : Type 0 where
  pub member : Contains sides side
  pub none_greater : All (λ other. balance masses other ≤ balance masses side) sides
