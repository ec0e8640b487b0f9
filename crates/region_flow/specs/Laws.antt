-- The laws of the sets around a vertex, as facts that the functions of the module `laws` state.
use Rattle.std.specs.Prelude.{ℕ, ◌≡◌, ◌≤◌, ◌↔◌, slice_index}
use Rattle.cut_definitions.specs.Graph.{Graph, IsGraph}
use Rattle.cut_definitions.specs.Weight.{VertexSet, weight}
use Rattle.region_flow.specs.Regions.{RegionState, IsRegionFlow}
use Rattle.region_flow.specs.Inflow.{IsAround, IsClosedAround}

-- a set around a vertex weighs just what that is fed where nothing enters the set, and only there
abbrev pub LawOfClosed : Type 0
LawOfClosed = (g : Graph) (f : RegionState) (t : ℕ) → IsGraph g → IsRegionFlow g f → 1 ≤ t → t ≤ g.vertices →
    (s : VertexSet) → IsAround f.labels t s → IsClosedAround g f t s ↔ (weight g s ≡ slice_index f.feed t)

-- a set around a vertex weighs at least what that is fed
abbrev pub LawOfFeed : Type 0
LawOfFeed = (g : Graph) (f : RegionState) (t : ℕ) → IsGraph g → IsRegionFlow g f → 1 ≤ t → t ≤ g.vertices →
    (s : VertexSet) → IsAround f.labels t s → slice_index f.feed t ≤ weight g s
