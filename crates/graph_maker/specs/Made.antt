-- The made graph: rings of four vertices, each linked to the next one, and the last to the first.
use Rattle.std.specs.Prelude.{ℕ, ◌≡◌, ◌==◌, ◌↔◌, nat_lt, ◌+◌, ◌-◌, ◌*◌, ◌/◌, ◌<◌, ◌≤◌, if◌then◌else◌, min, max, List, [], ◌∷◌, ◌++◌, length}
use Rattle.std.specs.List.{Contains, flat_map, range_with_len}
use Rattle.cut_definitions.specs.declared.edge_list.Edge.{Edge}
use Rattle.cut_definitions.specs.Graph.{Graph, IsEdgeList}
use Rattle.cut_definitions.specs.Components.{IsConnected}

-- an edge of weight 2
abbrev pub double : ℕ → ℕ → Edge
double u v = record { u = u; v = v; w = 2 }

-- the edges that a ring, counted from 0, adds to the list at its first vertex: two round the ring, and in ring 0 the link from the last ring
abbrev pub at_first : ℕ → ℕ → List Edge
at_first rings ring = double (4 * ring + 1) (4 * ring + 2) ∷ double (4 * ring + 1) (4 * ring + 4) ∷ (if ring == 0 then double 1 (4 * rings - 1) ∷ [] else [])

-- the edges that a ring adds behind its first vertex: two round the ring, and except in the last ring the link to the next one
abbrev pub behind_first : ℕ → ℕ → List Edge
behind_first rings ring = double (4 * ring + 2) (4 * ring + 3) ∷ double (4 * ring + 3) (4 * ring + 4) ∷ (if nat_lt (ring + 1) rings then double (4 * ring + 3) (4 * ring + 5) ∷ [] else [])

abbrev pub ring_edges : ℕ → ℕ → List Edge
ring_edges rings ring = at_first rings ring ++ behind_first rings ring

-- a fourth of the number, rounded down, is the number of rings
unfoldable pub made_graph : ℕ → Graph
made_graph number = let rings = number / 4 in record { vertices = 4 * rings; edges = flat_map (ring_edges rings) (range_with_len 0 rings) }

-- the edge of weight 2 between two vertices, in whichever order these are named
abbrev pub joining : ℕ → ℕ → Edge
joining u v = double (min u v) (max u v)

-- the ring that follows a ring: after the last comes ring 0
abbrev pub following : ℕ → ℕ → ℕ
following rings ring = if ring + 1 == rings then 0 else ring + 1

-- the five edges of a ring whose vertices are a + 1 to a + 4: round the ring, and from a + 3 to the first vertex of the ring that follows
abbrev pub five_edges : ℕ → ℕ → List Edge
five_edges rings ring =
    let a = 4 * ring in
    joining (a + 1) (a + 2) ∷ joining (a + 2) (a + 3) ∷ joining (a + 3) (a + 4) ∷ joining (a + 1) (a + 4) ∷ joining (a + 3) (4 * following rings ring + 1) ∷ []

-- an edge is one of the five of some ring
pub record IsOfRing (rings : ℕ) (e : Edge) : Type 0 where
  pub ring : ℕ
  pub is_ring : ring < rings
  pub is_edge : Contains (five_edges rings ring) e

-- the made graph is a list of edges as it must be, and has the five edges of each ring and no others
pub record IsMade (number : ℕ) : Type 0 where
  pub edge_list : IsEdgeList (made_graph number)
  pub counted : length (made_graph number).edges ≡ 5 * (number / 4)
  pub exactly : (e : Edge) → Contains (made_graph number).edges e ↔ IsOfRing (number / 4) e

abbrev pub LawOfMaking : Type 0
LawOfMaking = (number : ℕ) → 12 ≤ number → number ≤ 100000 → IsMade number

abbrev pub LawOfConnectedMaking : Type 0
LawOfConnectedMaking = (number : ℕ) → 12 ≤ number → number ≤ 100000 → IsConnected (made_graph number)
