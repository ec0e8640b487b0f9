-- Laws of the machine.
use Rattle.std.specs.Prelude.{ℕ, ◌≡◌, ◌≢◌, ◌≤◌, true, List, [], ◌∷◌, Contains}
use Rattle.cut_definitions.specs.Graph.{Graph}
use Rattle.cut_definitions.specs.Safe.{IsFair}
use Rattle.scan_core.specs.Machine.{Machine, Move, opening_machine, seat_at, times, IsLive, IsAllowed, after, IsKept}

-- a machine goes through a list of steps, each of them allowed
abbrev pub Makes : Machine → List Move → Machine → Type 0
Makes m [] n = n ≡ m
Makes m (move ∷ moves) n = IsAllowed m move × Makes (after m move) moves n

-- the facts of the machine hold after every list of steps from an opening state
abbrev pub LawOfSteps : Type 0
LawOfSteps = (g : Graph) (slack bound : ℕ) → IsFair g bound → (moves : List Move) (m : Machine) → Makes (opening_machine g slack bound) moves m → IsKept m

-- each allowed step keeps the facts, from any state that meets them
abbrev pub LawOfKeeping : Type 0
LawOfKeeping = (m : Machine) (move : Move) → IsKept m → IsAllowed m move → IsKept (after m move)

-- a taken vertex was won once by one live seat, and by no other seat
abbrev pub LawOfWinners : Type 0
LawOfWinners = (m : Machine) → IsKept m → (v : ℕ) → m.is_taken v ≡ true
    → (k : ℕ) × IsLive m k × (times v (seat_at m k).won ≡ 1) × ((j : ℕ) → j ≢ k → times v (seat_at m j).won ≡ 0)

-- a marked edge is in the set of some live seat
abbrev pub LawOfMarkers : Type 0
LawOfMarkers = (m : Machine) → IsKept m → (e : ℕ) → m.is_marked e ≡ true → (k : ℕ) × IsLive m k × Contains (seat_at m k).own e

-- the bound never rises
abbrev pub LawOfFalling : Type 0
LawOfFalling = (m : Machine) (move : Move) → (after m move).bound ≤ m.bound
