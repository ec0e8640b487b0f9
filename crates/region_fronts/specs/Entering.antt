-- Which order of entering suits a graph.
use Rattle.std.specs.Prelude.{ℕ, ◌≢◌, ◌+◌, ◌-◌, ◌*◌, ◌/◌, ◌<◌, ◌≤◌, ◌⊎◌, List, length, max, nat_lt, not}
use Rattle.std.specs.List.{Contains, count_by}
use Rattle.cut_definitions.specs.declared.edge_list.Edge.{Edge}
use Rattle.cut_definitions.specs.Graph.{Graph}
use Rattle.weighted_graph.specs.Rows.{row_of}

-- a sparse graph: fewer than 16 edges for each vertex
abbrev pub IsSparse : Graph → Type 0
IsSparse g = length g.edges / 16 < g.vertices

-- the least difference at which the numbers of two vertices are far from each other: a sixteenth of all vertices, and at least 4,096
abbrev pub far_distance : Graph → ℕ
far_distance g = max 4096 (g.vertices / 16)

-- the ends of over half of the edges are far from each other
abbrev pub MostLeadFar : Graph → Type 0
MostLeadFar g = length g.edges / 2 < count_by (λ (e : Edge). not (nat_lt (e.v - e.u) (far_distance g))) g.edges

-- one edge weighs more than another
abbrev pub WeightsDiffer : List Edge → Type 0
WeightsDiffer edges = (d : Edge) × (e : Edge) × Contains edges d × Contains edges e × (d.w ≢ e.w)

-- a vertex has over four times as many edges as on the average, with one vertex more in the average and rounded down
abbrev pub HasBusyVertex : Graph → Type 0
HasBusyVertex g = (v : ℕ) × (1 ≤ v) × (v ≤ g.vertices) × (length g.edges * 8 / (g.vertices + 1) < length (row_of g v))

-- a sparse graph, most of whose edges lead far, with weights that differ or a busy vertex
pub record SuitsOldest (g : Graph) : Type 0 where
  pub sparse : IsSparse g
  pub far : MostLeadFar g
  pub uneven : WeightsDiffer g.edges ⊎ HasBusyVertex g
