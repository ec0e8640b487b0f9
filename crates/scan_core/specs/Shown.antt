-- The machine as a value: what it shows, the events, and what a result says.
use Rattle.std.specs.Prelude.{ℕ, ◌≡◌, ◌≢◌, ◌-◌, ◌<◌, ◌≤◌, ◌↔◌, ◌⊎◌, Bool, true, false, List, [], ◌∷◌, map, length, suc, IsTrue, slice_index_or}
use Rattle.std.specs.List.{Any}
use Rattle.cut_definitions.specs.Graph.{Graph}
use Rattle.cut_definitions.specs.Weight.{parts, weight, IsCut}
use Rattle.cut_definitions.specs.Cuts.{has, mincuts}
use Rattle.weighted_graph.specs.RowLaws.{edge_at}
use Rattle.scan_core.specs.declared.played.CoreSeat.{CoreSeat}
use Rattle.scan_core.specs.declared.event.Event.{Event}
use Rattle.scan_core.specs.declared.event.Event.TheVariants.{Load, Lower, IsMarked, Mark, Split, Join, Take}
use Rattle.scan_core.specs.Machine.{IsSafeEdge, Knows, Machine, Move, loads, lowers, looks, marks, splits, joins, takes, IsLive, IsAllowed, after, seat_at}

-- some minimum cut separates the ends of the edge at a place
abbrev pub IsParted : Graph → ℕ → Type 0
IsParted g e = Any (λ side. IsTrue (parts (has side) (edge_at g e).u (edge_at g e).v)) (mincuts g)

-- a list of exactly the edges whose ends some minimum cut separates
abbrev pub ArePartedEdges : Graph → List ℕ → Type 0
ArePartedEdges g edges = (e : ℕ) → e < length g.edges → IsTrue (has edges e) ↔ IsParted g e

-- what a core keeps: of each edge whether it is marked, of each vertex, from 0 on, whether it is taken, and its seats
pub record CoreView : Type 0 where
  pub graph : Graph
  pub slack : ℕ
  pub bound : ℕ
  pub marked : List Bool
  pub taken : List Bool
  pub seats : List CoreSeat

abbrev pub seat_shown : Knows → CoreSeat
seat_shown s = record { live = s.live; seen = s.seen }

-- a core shows a machine: all is the same except for the three sets of each seat and the opening bound, which it does not keep
pub record Shows (c : CoreView) (m : Machine) : Type 0 where
  pub graph : c.graph ≡ m.graph
  pub slack : c.slack ≡ m.slack
  pub bound : c.bound ≡ m.bound
  pub marked : (e : ℕ) → m.is_marked e ≡ slice_index_or c.marked e false
  pub taken : (v : ℕ) → m.is_taken v ≡ slice_index_or c.taken v false
  pub seats : c.seats ≡ map seat_shown m.seats

-- seats have the numbers 1, 2, .. in the order in which they were made
abbrev pub IsLiveSeat : Machine → ℕ → Type 0
IsLiveSeat m seat = (1 ≤ seat) × IsLive m (seat - 1)

-- the move of an event
abbrev pub move_of : Graph → Event → Move
move_of g (Load seat) = loads (seat - 1)
move_of g (Lower seat side) = lowers (seat - 1) (weight g (has side.members))
move_of g (IsMarked seat edge) = looks (seat - 1) edge
move_of g (Mark seat edge) = marks (seat - 1) edge
move_of g (Split seat) = splits (seat - 1)
move_of g (Join seat other) = joins (seat - 1) (other - 1)
move_of g (Take seat vertex) = takes (seat - 1) vertex

-- an event is allowed if its seats are live and two; its side is a cut of the graph; its edge is in range, and at a mark
-- safe for the bound that the seat saw last; its vertex is in range; and a split if fewer than 1,000 seats were made
abbrev pub IsAllowedEvent : Machine → Event → Type 0
IsAllowedEvent m (Load seat) = IsLiveSeat m seat
IsAllowedEvent m (Lower seat side) = IsLiveSeat m seat × (side.vertices ≡ m.graph.vertices) × IsCut m.graph.vertices (has side.members)
IsAllowedEvent m (IsMarked seat edge) = IsLiveSeat m seat × (edge < length m.graph.edges)
IsAllowedEvent m (Mark seat edge) = IsLiveSeat m seat × (edge < length m.graph.edges) × IsSafeEdge m.graph (seat_at m (seat - 1)).seen m.slack edge
IsAllowedEvent m (Split seat) = IsLiveSeat m seat × (length m.seats < 1000)
IsAllowedEvent m (Join seat other) = IsLiveSeat m seat × IsLiveSeat m other × (other ≢ seat)
IsAllowedEvent m (Take seat vertex) = IsLiveSeat m seat × (1 ≤ vertex) × (vertex ≤ m.graph.vertices)

-- true: the event was allowed, its move is one that the machine allows, and it was made; false: it was not, and nothing changed
abbrev pub IsAnswer : CoreView → CoreView → Event → Bool → Type 0
IsAnswer old new event answer = (m : Machine) → Shows old m →
    (answer ≡ true → IsAllowedEvent m event × IsAllowed m (move_of m.graph event) × Shows new (after m (move_of m.graph event)))
    × (answer ≡ false → ¬ IsAllowedEvent m event × (new ≡ old))

-- a machine goes through a list of events, each taken in turn if it is allowed and else skipped, and takes this many
abbrev pub Goes : Machine → List Event → ℕ → Machine → Type 0
Goes m [] count n = (count ≡ 0) × (n ≡ m)
Goes m (event ∷ events) count n =
    (IsAllowedEvent m event × (rest : ℕ) × (count ≡ suc rest) × Goes (after m (move_of m.graph event)) events rest n)
    ⊎ ((¬ IsAllowedEvent m event) × Goes m events count n)

-- a machine that goes through the events and is shown then
pub record HasGone (m : Machine) (events : List Event) (count : ℕ) (view : CoreView) : Type 0 where
  pub machine : Machine
  pub goes : Goes m events count machine
  pub shows : Shows view machine

-- a seat that is shown to be live
abbrev pub no_seat : CoreSeat
no_seat = record { live = false; seen = 0 }

abbrev pub shown_seat : CoreView → ℕ → CoreSeat
shown_seat c seat = slice_index_or c.seats (seat - 1) no_seat

pub record IsShownLive (c : CoreView) (seat : ℕ) : Type 0 where
  pub from_one : 1 ≤ seat
  pub made : seat - 1 < length c.seats
  pub live : (shown_seat c seat).live ≡ true

-- an edge is safe for the bound that a seat is shown to have seen
abbrev pub IsSafeHere : CoreView → ℕ → ℕ → Type 0
IsSafeHere c seat edge = IsSafeEdge c.graph (shown_seat c seat).seen c.slack edge
