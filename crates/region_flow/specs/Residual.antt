-- What a flow between two vertices leaves each edge to carry.
-- An edge of weight w begins with w in either direction; carrying it one way leaves more for the other,
-- so the two always add up to 2 w, and one number tells both.
use Rattle.std.specs.Prelude.{ℕ, ◌≡◌, false, ◌+◌, ◌-◌, ◌*◌, ◌<◌, ◌≤◌, if◌then◌else◌, List, [], ◌∷◌, length, slice_index, slice_index_or, IsTrue}
use Rattle.cut_definitions.specs.declared.edge_list.Edge.{Edge}
use Rattle.cut_definitions.specs.Graph.{Graph}
use Rattle.cut_definitions.specs.Weight.{VertexSet, parts, weight}

-- what an edge can still carry out of a set, where `toward` is left from its lesser end to its greater
abbrev pub leaving : VertexSet → Edge → ℕ → ℕ
leaving s e toward = if s e.u then (if s e.v then 0 else toward) else (if s e.v then 2 * e.w - toward else 0)

-- what all edges can still carry out of a set
abbrev pub out : List Edge → List ℕ → VertexSet → ℕ
out [] toward s = 0
out (e ∷ es) [] s = 0
out (e ∷ es) (x ∷ xs) s = leaving s e x + out es xs s

-- an amount, counted where the set has the vertex
abbrev pub counted : VertexSet → ℕ → ℕ → ℕ
counted s v amount = if s v then amount else 0

-- the edge of a list at a place
abbrev pub edge_of : List Edge → ℕ → Edge
edge_of es i = slice_index_or es i (record { u = 0; v = 0; w = 0 })

-- each edge has at most twice its weight left
pub record IsResidual (g : Graph) (toward : List ℕ) : Type 0 where
  pub each : length toward ≡ length g.edges
  pub bounded : (i : ℕ) → i < length g.edges → slice_index toward i ≤ 2 * (edge_of g.edges i).w

-- a flow of this amount from s to t: for every set of vertices, what can still leave it, and the flow
-- where it has s, add up to its weight, and the flow where it has t
pub record IsFlow (g : Graph) (s t amount : ℕ) (toward : List ℕ) : Type 0 where
  pub residual : IsResidual g toward
  pub balance : (side : VertexSet) → out g.edges toward side + counted side s amount ≡ weight g side + counted side t amount

-- a set has s and not t
abbrev pub HasFirst : ℕ → ℕ → VertexSet → Type 0
HasFirst s t side = IsTrue (side s) × (side t ≡ false)

-- the least weight of a set that parts two vertices
pub record IsLeastBetween (g : Graph) (s t amount : ℕ) : Type 0 where
  pub least : (side : VertexSet) → IsTrue (parts side s t) → amount ≤ weight g side
  pub cut : VertexSet
  pub parting : IsTrue (parts cut s t)
  pub met : weight g cut ≡ amount
