-- The machine of a board: a bound that falls, marked edges, taken vertices, and what each seat knows.
-- It has no rows, scans, words or threads.
use Rattle.std.specs.Prelude.{◌≡◌, ◌≢◌, ℕ, ◌<◌, ◌≤◌, min, Bool, true, false, if◌then◌else◌, ◌==◌, List, [], ◌∷◌, ◌++◌, length, slice_set, slice_index_or, Contains, sum_by, count_by}
use mathlib.Core.Option.{some}
use lib.ListN.{get_elem?}
use Rattle.cut_definitions.specs.Graph.{Graph}
use Rattle.cut_definitions.specs.Safe.{IsFair, IsSafe}
use Rattle.weighted_graph.specs.RowLaws.{edge_at}

-- the ends of the edge at a place are safe for a bound and a slack
abbrev pub IsSafeEdge : Graph → ℕ → ℕ → ℕ → Type 0
IsSafeEdge g bound slack e = IsSafe g bound slack (edge_at g e).u (edge_at g e).v

-- a seat: the bound that it saw last, the edges that it marked or took over, the vertices that it won or took over, and
-- the vertices that it knows to be taken
pub record Knows : Type 0 where
  pub live : Bool
  pub seen : ℕ
  pub own : List ℕ
  pub won : List ℕ
  pub known : List ℕ

-- a state; edges are counted from 0, vertices from 1, and seats from 0 in the order in which they were made
pub record Machine : Type 0 where
  pub graph : Graph
  pub slack : ℕ
  pub opening : ℕ
  pub bound : ℕ
  pub is_marked : ℕ → Bool
  pub is_taken : ℕ → Bool
  pub seats : List Knows

-- a seat that was joined into another
abbrev pub ended : Knows
ended = record { live = false; seen = 0; own = []; won = []; known = [] }

-- a seat that has seen a bound, and done nothing
abbrev pub fresh : ℕ → Knows
fresh seen = record { live = true; seen = seen; own = []; won = []; known = [] }

-- the opening state: no marks, no taken vertices, and one seat that saw the bound
abbrev pub opening_machine : Graph → ℕ → ℕ → Machine
opening_machine g slack bound = record { graph = g; slack = slack; opening = bound; bound = bound; is_marked = λ _. false; is_taken = λ _. false; seats = fresh bound ∷ [] }

-- the seven kinds of steps, each by a seat: it loads the bound; lowers it by the weight of a cut; looks whether an edge is
-- marked; marks an edge; splits off a new seat; joins another seat into itself; takes a vertex
pub data Move : Type 0 where
  loads : ℕ → Move
  lowers : ℕ → ℕ → Move
  looks : ℕ → ℕ → Move
  marks : ℕ → ℕ → Move
  splits : ℕ → Move
  joins : ℕ → ℕ → Move
  takes : ℕ → ℕ → Move

abbrev pub seat_at : Machine → ℕ → Knows
seat_at m k = slice_index_or m.seats k ended

abbrev pub sees : Knows → ℕ → Knows
sees s n = record s { seen = n }

abbrev pub gains : Knows → ℕ → Knows
gains s e = record s { own = e ∷ s.own }

-- a seat that took over the three sets of another
abbrev pub both : Knows → Knows → Knows
both s t = record { live = s.live; seen = min s.seen t.seen; own = s.own ++ t.own; won = s.won ++ t.won; known = s.known ++ t.known }

-- the vertex is known, and won if it was not taken before
abbrev pub learns : Knows → ℕ → Bool → Knows
learns s v was = record s { won = if was then s.won else (v ∷ s.won); known = v ∷ s.known }

-- how often a vertex is in a list
abbrev pub times : ℕ → List ℕ → ℕ
times v xs = count_by (λ x. x == v) xs

-- how often a vertex was won, by all seats together
abbrev pub wins : ℕ → List Knows → ℕ
wins v seats = sum_by (λ s. times v s.won) seats

abbrev pub IsLive : Machine → ℕ → Type 0
IsLive m k = (k < length m.seats) × ((seat_at m k).live ≡ true)

-- the seats of a step are live; lower has the weight of a cut, and mark an edge that is safe for the bound that the seat saw last
abbrev pub IsAllowed : Machine → Move → Type 0
IsAllowed m (loads k) = IsLive m k
IsAllowed m (lowers k x) = IsLive m k × IsFair m.graph x
IsAllowed m (looks k e) = IsLive m k × (e < length m.graph.edges)
IsAllowed m (marks k e) = IsLive m k × (e < length m.graph.edges) × IsSafeEdge m.graph (seat_at m k).seen m.slack e
IsAllowed m (splits k) = IsLive m k
IsAllowed m (joins k j) = IsLive m k × IsLive m j × (j ≢ k)
IsAllowed m (takes k v) = IsLive m k × (0 < v) × (v ≤ m.graph.vertices)

-- a new seat has seen what the seat saw last
abbrev pub forked : Machine → ℕ → Machine
forked m k = record m { seats = m.seats ++ fresh (seat_at m k).seen ∷ [] }

-- the seat takes over what the other knows, and the other ends
abbrev pub merged : Machine → ℕ → ℕ → Machine
merged m k j = record m { seats = slice_set (slice_set m.seats k (both (seat_at m k) (seat_at m j))) j ended }

abbrev pub loaded : Machine → ℕ → Machine
loaded m k = record m { seats = slice_set m.seats k (sees (seat_at m k) m.bound) }

-- the state after a step
abbrev pub after : Machine → Move → Machine
after m (loads k) = loaded m k
after m (lowers k x) = record m { bound = min m.bound x; seats = slice_set m.seats k (sees (seat_at m k) (min m.bound x)) }
after m (looks k e) = m
after m (marks k e) = record m { is_marked = λ i. if i == e then true else m.is_marked i; seats = slice_set m.seats k (gains (seat_at m k) e) }
after m (splits k) = forked (loaded m k) k
after m (joins k j) = loaded (merged m k j) k
after m (takes k v) = record m { is_taken = λ u. if u == v then true else m.is_taken u; seats = slice_set m.seats k (learns (seat_at m k) v (m.is_taken v)) }

-- some seat marked the edge, or took it over
abbrev pub IsOwned : List Knows → ℕ → Type 0
IsOwned seats e = (k : ℕ) × (s : Knows) × (get_elem? seats k ≡ some s) × Contains s.own e

-- what holds of a live seat: it saw the weight of a cut that is at least the bound, its edges are marked, and the vertices
-- that it knows are taken
pub record FitsSeat (m : Machine) (s : Knows) : Type 0 where
  pub above : m.bound ≤ s.seen
  pub fair : IsFair m.graph s.seen
  pub marked : (e : ℕ) → Contains s.own e → m.is_marked e ≡ true
  pub taken : (v : ℕ) → Contains s.known v → m.is_taken v ≡ true

-- the facts that each step keeps: the bound is the weight of a cut and at most the opening one, every mark is safe for it
pub record IsKept (m : Machine) : Type 0 where
  pub fair : IsFair m.graph m.bound
  pub lowered : m.bound ≤ m.opening
  pub safe : (e : ℕ) → m.is_marked e ≡ true → IsSafeEdge m.graph m.bound m.slack e
  pub seats : (k : ℕ) (s : Knows) → get_elem? m.seats k ≡ some s → s.live ≡ true → FitsSeat m s
  -- a taken vertex was won by one seat, once, and any other by none
  pub once : (v : ℕ) → wins v m.seats ≡ (if m.is_taken v then 1 else 0)
  -- a seat that has ended has marked nothing, won nothing and knows no vertex
  pub gone : (k : ℕ) (s : Knows) → get_elem? m.seats k ≡ some s → s.live ≡ false → s ≡ ended
  -- a marked edge stands in the set of some seat
  pub marker : (e : ℕ) → m.is_marked e ≡ true → IsOwned m.seats e
