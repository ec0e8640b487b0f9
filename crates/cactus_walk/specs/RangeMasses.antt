-- Masses of the ranges of the list of all vertices.
use Rattle.std.specs.Prelude.{ℕ, ◌-◌, List, take}
use Rattle.std.specs.List.{sum_by}
use Rattle.cut_definitions.specs.Balance.{mass_of}
use Rattle.rooted_cactus.specs.CutRanges.{Range}

-- the mass of the vertices before a place of the list
abbrev pub mass_before : List ℕ → List ℕ → ℕ → ℕ
mass_before masses order place = sum_by (mass_of masses) (take place order)

-- the mass of the vertices at the places of a range
abbrev pub range_mass : List ℕ → List ℕ → Range → ℕ
range_mass masses order r = mass_before masses order r.to - mass_before masses order r.from
