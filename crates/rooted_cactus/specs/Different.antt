-- The number of the different members of a list, and lists with the same members.
use Rattle.std.specs.Prelude.{ℕ, ◌≡◌, ◌<◌, ◌↔◌, List, length}
use Rattle.std.specs.List.{All, Contains}
use Rattle.cut_definitions.specs.Members.{AreDifferent}
use Rattle.rooted_cactus.specs.Rooted.{Rooted, sides_of}

-- a list of k different members has the members of the list
pub record HasDifferent (k : ℕ) (xs : List (List ℕ)) : Type 0 where
  pub members : List (List ℕ)
  pub different : AreDifferent members
  pub same : (l : List ℕ) → Contains members l ↔ Contains xs l
  pub many : length members ≡ k

-- each side of the one cactus is a side of the other
abbrev pub HaveSameSides : Rooted → Rooted → Type 0
HaveSameSides c d = (side : List ℕ) → Contains (sides_of c) side ↔ Contains (sides_of d) side

-- no side is empty
abbrev pub HasNoEmptySide : Rooted → Type 0
HasNoEmptySide c = All (λ side. 0 < length side) (sides_of c)
