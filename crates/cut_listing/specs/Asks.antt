-- What is asked of a side, and tests that decide it.
use Rattle.std.specs.Prelude.{ℕ, Bool, ◌≡◌, ◌≤◌, nat_le, true, List, length}
use Rattle.std.specs.Borrow.{Bor}
use Rattle.std.specs.Coded.{Coded-set, Unit-prop, coded_ℕ}
use Rattle.cut_definitions.specs.Balance.{balance}
use Rattle.cut_definitions.specs.Weight.{parts}
use Rattle.cut_definitions.specs.Cuts.{has, IsAscendingWithin}
use Rattle.vertex_set.specs.Side.{VertexList}
use Rattle.cut_listing.specs.declared.ask.Ask.{Ask}
use Rattle.cut_listing.specs.declared.ask.Ask.TheVariants.{All, Parting, Least}

-- whether the balance of a side is at least a number
abbrev pub is_balanced : List ℕ → ℕ → List ℕ → Bool
is_balanced masses least side = nat_le least (balance masses side)

-- whether an ask lets a side through: all of them, those that part two vertices, or those of a least balance
abbrev pub lets : Ask → List ℕ → Bool
lets All side = true
lets (Parting u v) side = parts (has side) u v
lets (Least least weights) side = is_balanced weights.now least side

-- an ask is of the vertices 1 to n: its two vertices are of these, or its masses are theirs
abbrev pub IsAskWithin : ℕ → Ask → Type 0
IsAskWithin n All = Unit {0}
IsAskWithin n (Parting u v) = (1 ≤ u) × (u ≤ n) × (1 ≤ v) × (v ≤ n)
IsAskWithin n (Least least weights) = length weights.now ≡ n

-- if a least balance is asked for, there is a mass for each of n vertices
abbrev pub HasMasses : ℕ → Ask → Type 0
HasMasses n All = Unit {0}
HasMasses n (Parting u v) = Unit {0}
HasMasses n (Least least weights) = length weights.now ≡ n

-- a set of vertices of 1 to n
pub record IsOver (n : ℕ) (side : VertexList) : Type 0 where
  pub vertices : side.vertices ≡ n
  pub ascending : IsAscendingWithin 1 n side.members

-- a test, by the sides that it takes: it may be called on every side over n
abbrev pub TakesSides : (Bor VertexList → Type 0) → ℕ → Type 0
TakesSides takes n = (side : Bor VertexList) → IsOver n side.now → takes side

-- a test, by the results that it can have: on a side over n it returns true exactly if the side is asked for
abbrev pub AnswersAsk : (Bor VertexList → Bool → Type 0) → ℕ → Ask → Type 0
AnswersAsk gives n ask = (side : Bor VertexList) (answer : Bool) → IsOver n side.now → gives side answer → answer ≡ lets ask side.now.members

-- that an ask has the masses that it needs is one fact, of which any two proofs are equal
pub has_masses-prop : (n : ℕ) (ask : Ask) → IsProp (HasMasses n ask)
has_masses-prop n All = Unit-prop
has_masses-prop n (Parting u v) = Unit-prop
has_masses-prop n (Least least weights) = Coded-set coded_ℕ (length weights.now) n
