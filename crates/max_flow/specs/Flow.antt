-- What contracts see of a flow, and what it shows after a run.
use Rattle.std.specs.Prelude.{ℕ, ◌≡◌, ◌<◌, ◌≤◌, ◌↔◌, List, [], Option, length, map, slice_index, slice_index_or, IfSome, IsTrue}
use Rattle.cut_definitions.specs.Graph.{Graph}
use Rattle.cut_definitions.specs.Weight.{VertexSet, weight}
use Rattle.cut_definitions.specs.Cuts.{has}
use Rattle.vertex_set.specs.Side.{VertexList}
use Rattle.weighted_graph.specs.Rows.{row_of, arc_at}
use Rattle.region_flow.specs.declared.outcome.BestRun.{BestRun}
use Rattle.region_flow.specs.Residual.{out, edge_of, HasFirst, IsFlow, IsLeastBetween}
use Rattle.region_flow.specs.Closed.{residual_on, AddsUp}

-- for each edge what is left toward its greater end, for each vertex what is left on the arcs of its row,
-- the side of the first vertex, and the last run if it returned `Best`
pub record FlowState : Type 0 where
  pub vertices : ℕ
  pub toward : List ℕ
  pub rows : List (List ℕ)
  pub source : VertexList
  pub best : Option BestRun

-- what is left on the arcs of the row of a vertex, in the order of the row
abbrev pub residuals_at : FlowState → ℕ → List ℕ
residuals_at f v = slice_index_or f.rows v []

-- no arc with something left leaves the set
abbrev pub IsShut : Graph → (ℕ → List ℕ) → VertexSet → Type 0
IsShut g residuals side = (v : ℕ) → 1 ≤ v → v ≤ g.vertices → IsTrue (side v) →
    (k : ℕ) → k < length (row_of g v) → 0 < slice_index (residuals v) k → IsTrue (side (arc_at (row_of g v) k).to)

-- the least set with s that no arc with something left leaves, if t is not in it
pub record IsShutSource (g : Graph) (residuals : ℕ → List ℕ) (s t : ℕ) (side : VertexSet) : Type 0 where
  pub first : HasFirst s t side
  pub shut : IsShut g residuals side
  pub least : (other : VertexSet) → IsShut g residuals other → IsTrue (other s) → (v : ℕ) → IsTrue (side v) → IsTrue (other v)

-- a greatest flow from s to t: its amount is the least weight between them, its rows show all sets of that weight,
-- and its source side is the least of these. `flow` and `shut` speak of all sets, also of those with both s and t, or
-- with neither: no arc with something left leaves such a set exactly if it weighs 0
pub record ShowsLeastCuts (g : Graph) (s t amount : ℕ) (f : FlowState) : Type 0 where
  pub least : IsLeastBetween g s t amount
  pub flow : IsFlow g s t amount f.toward
  pub greatest : (other : ℕ) (toward : List ℕ) → IsFlow g s t other toward → other ≤ amount
  pub rows : (v : ℕ) → v ≤ g.vertices → residuals_at f v ≡ map (residual_on v f.toward) (row_of g v)
  pub both_ways : (i : ℕ) → i < length g.edges → AddsUp f.toward i (edge_of g.edges i)
  pub shut : (side : VertexSet) → IsShut g (residuals_at f) side ↔ (out g.edges f.toward side ≡ 0)
  pub cuts : (side : VertexSet) → HasFirst s t side → IsShut g (residuals_at f) side ↔ (weight g side ≡ amount)
  pub source : IsShutSource g (residuals_at f) s t (has f.source.members)
  pub source_weight : weight g (has f.source.members) ≡ amount

-- a flow has a number for each edge of the graph, and one for each arc of each row
pub record HasSizesOf (f : FlowState) (g : Graph) : Type 0 where
  pub vertices : f.vertices ≡ g.vertices
  pub edges : length f.toward ≡ length g.edges
  pub rows : (v : ℕ) → v ≤ g.vertices → length (residuals_at f v) ≡ length (row_of g v)
  pub source : f.source.vertices ≡ g.vertices

-- a flow fits a graph: it has its sizes, and what it keeps of a run that returned `Best` is true of that graph
pub record StandsFor (f : FlowState) (g : Graph) : Type 0 where
  pub sizes : HasSizesOf f g
  pub shown : IfSome f.best (λ run. ShowsLeastCuts g run.s run.t run.amount f)
