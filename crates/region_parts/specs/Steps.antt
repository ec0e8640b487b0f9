-- The steps of a search inside the regions of a flow, along the arcs that can carry something or against them.
use Rattle.std.specs.Prelude.{ℕ, Bool, ◌≡◌, ◌≢◌, ◌==◌, ◌&&◌, ◌↔◌, nat_lt, slice_index, IsTrue}
use Rattle.std.specs.List.{list_any}
use Rattle.cut_definitions.specs.Graph.{Graph, IsGraph}
use Rattle.cut_definitions.specs.Weight.{VertexSet}
use Rattle.weighted_graph.specs.declared.graph.Arc.{Arc}
use Rattle.weighted_graph.specs.Rows.{row_of}
use Rattle.region_flow.specs.Closed.{residual_on}
use Rattle.arc_search.specs.declared.direction.Direction.{Direction}
use Rattle.arc_search.specs.declared.direction.Direction.TheVariants.{Along, Against}
use Rattle.arc_search.specs.Closed.{IsClosed}
use Rattle.region_flow.specs.Regions.{RegionState}
use Rattle.region_flow.specs.Inflow.{IsAround, IsClosedAround}
use Rattle.region_flow.specs.Tree.{residual_back}

-- what an arc of the row of v, or the one that comes back on it, can still carry
abbrev pub amount_in : RegionState → Direction → ℕ → Arc → ℕ
amount_in f Along v a = residual_on v f.toward a
amount_in f Against v a = residual_back f.toward v a

-- a search takes an arc of the row of v: it stays in the region, and it, or the one that comes back on it, can carry something
abbrev pub is_open_in : RegionState → Direction → ℕ → Arc → Bool
is_open_in f direction v a = (slice_index f.labels a.to == slice_index f.labels v) && nat_lt 0 (amount_in f direction v a)

unfoldable pub steps_in : Graph → RegionState → Direction → ℕ → ℕ → Bool
steps_in g f direction u v = list_any (λ (a : Arc). (a.to == v) && is_open_in f direction u a) (row_of g u)

-- a step against the arcs is one along them the other way
abbrev pub LawOfOpposite : Type 0
LawOfOpposite = (g : Graph) (f : RegionState) → IsGraph g → (u v : ℕ) → IsTrue (steps_in g f Against u v) ↔ IsTrue (steps_in g f Along v u)

-- nothing enters a set around t just where no vertex of it but t is fed and no step against the arcs leaves it
abbrev pub LawOfClosedSteps : Type 0
LawOfClosedSteps = (g : Graph) (f : RegionState) (t : ℕ) (s : VertexSet) → IsGraph g → IsAround f.labels t s →
    IsClosedAround g f t s ↔ (((v : ℕ) → IsTrue (s v) → v ≢ t → slice_index f.feed v ≡ 0) × IsClosed (steps_in g f Against) s)

-- a step stays in its region
abbrev pub LawOfSameRegion : Type 0
LawOfSameRegion = (g : Graph) (f : RegionState) (direction : Direction) (u v : ℕ) → IsTrue (steps_in g f direction u v) →
    slice_index f.labels u ≡ slice_index f.labels v
