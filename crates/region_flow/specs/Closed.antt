-- What each arc of a row can still carry, and the sets that no such arc leaves.
use Rattle.std.specs.Prelude.{ℕ, nat_lt, ◌≡◌, ◌+◌, ◌-◌, ◌*◌, ◌<◌, ◌≤◌, if◌then◌else◌, List, slice_index, IsTrue, ◌⊎◌}
use Rattle.std.specs.List.{All}
use Rattle.cut_definitions.specs.declared.edge_list.Edge.{Edge}
use Rattle.cut_definitions.specs.Graph.{Graph}
use Rattle.cut_definitions.specs.Weight.{VertexSet}
use Rattle.weighted_graph.specs.declared.graph.Arc.{Arc}
use Rattle.weighted_graph.specs.Rows.{row_of}
use Rattle.region_flow.specs.Residual.{HasFirst}

-- what an arc of the row of v can still carry
abbrev pub residual_on : ℕ → List ℕ → Arc → ℕ
residual_on v toward a = if nat_lt v a.to then slice_index toward a.edge else 2 * a.weight - slice_index toward a.edge

-- the two arcs of an edge, the i-th: that from its lesser end, and that from its greater
abbrev pub arc_up : ℕ → Edge → Arc
arc_up i e = record { to = e.v; edge = i; weight = e.w }

abbrev pub arc_down : ℕ → Edge → Arc
arc_down i e = record { to = e.u; edge = i; weight = e.w }

-- what the two arcs of an edge can still carry adds up to twice its weight
abbrev pub AddsUp : List ℕ → ℕ → Edge → Type 0
AddsUp toward i e = residual_on e.u toward (arc_up i e) + residual_on e.v toward (arc_down i e) ≡ 2 * e.w

-- no arc that can carry more leaves the set
abbrev pub IsClosed : Graph → List ℕ → VertexSet → Type 0
IsClosed g toward side = (v : ℕ) → 1 ≤ v → v ≤ g.vertices → IsTrue (side v) →
    All (λ a. 0 < residual_on v toward a → IsTrue (side a.to)) (row_of g v)

-- the least set with s that no such arc leaves, where t is not in it
pub record IsSourceSide (g : Graph) (toward : List ℕ) (s t : ℕ) (side : VertexSet) : Type 0 where
  pub first : HasFirst s t side
  pub closed : IsClosed g toward side
  pub least : (other : VertexSet) → IsClosed g toward other → IsTrue (other s) → (v : ℕ) → IsTrue (side v) → IsTrue (other v)

-- along an edge at least `bottleneck` can be carried from a to b
abbrev pub IsAlong : Edge → ℕ → ℕ → ℕ → ℕ → Type 0
IsAlong e toward a b bottleneck =
    ((e.u ≡ a) × (e.v ≡ b) × (bottleneck ≤ toward)) ⊎ ((e.u ≡ b) × (e.v ≡ a) × (bottleneck ≤ 2 * e.w - toward))
