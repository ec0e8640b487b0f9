-- What keeps open vertices in their lists, and fed vertices open, while labels are refined.
use Rattle.std.specs.Prelude.{ℕ, ◌≡◌, ◌≢◌, ◌≤◌, ◌⊎◌, List, slice_index, slice_set}
use Rattle.cut_definitions.specs.Graph.{Graph, IsGraph}
use Rattle.region_flow.specs.Regions.{RegionState, IsRegionFlow}
use Rattle.cut_definitions.specs.Regions.{IsOpenAt}
use Rattle.region_fronts.specs.Fronts.{FrontsState, IsCovered, KeepsAll, HasEnds}

-- vertices that share a region shared one
pub record IsRefined (labels labels' : List ℕ) : Type 0 where
  pub shared : (u v : ℕ) → 1 ≤ slice_index labels' v → slice_index labels' u ≡ slice_index labels' v → slice_index labels u ≡ slice_index labels v
  pub outside : (v : ℕ) → 1 ≤ slice_index labels' v → 1 ≤ slice_index labels v

-- each vertex of a region that is fed is open
abbrev pub FedAreOpen : Graph → RegionState → Type 0
FedAreOpen g f = (v : ℕ) → 1 ≤ slice_index f.labels v → 1 ≤ slice_index f.feed v → IsOpenAt g f.labels v

-- open vertices stand in their lists once the ends of each vertex whose label has changed were put there
abbrev pub LawOfCovering : Type 0
LawOfCovering = (g : Graph) (labels labels' : List ℕ) (f f' : FrontsState) → IsGraph g → IsCovered g labels f → KeepsAll f f' →
    ((v : ℕ) → 1 ≤ v → v ≤ g.vertices → slice_index labels v ≢ slice_index labels' v → HasEnds g labels' f' v) → IsCovered g labels' f'

-- no vertex of a region is open where all share one
abbrev pub LawOfOneRegion : Type 0
LawOfOneRegion = (g : Graph) (labels : List ℕ) (f : FrontsState) → IsGraph g →
    ((u v : ℕ) → 1 ≤ u → u ≤ g.vertices → 1 ≤ v → v ≤ g.vertices → slice_index labels u ≡ slice_index labels v) → IsCovered g labels f

-- no vertex of a region is fed where all share one
abbrev pub LawOfFedStart : Type 0
LawOfFedStart = (g : Graph) (f : RegionState) → IsGraph g → IsRegionFlow g f →
    ((u v : ℕ) → 1 ≤ u → u ≤ g.vertices → 1 ≤ v → v ≤ g.vertices → slice_index f.labels u ≡ slice_index f.labels v) → FedAreOpen g f

-- vertices that share a region after one vertex has entered shared one before
abbrev pub LawOfRefiningOne : Type 0
LawOfRefiningOne = (labels : List ℕ) (t : ℕ) → IsRefined labels (slice_set labels t 0)

-- a vertex that stays in a region stays open
abbrev pub LawOfStayingOpen : Type 0
LawOfStayingOpen = (g : Graph) (labels labels' : List ℕ) → IsRefined labels labels' → (v : ℕ) → 1 ≤ slice_index labels' v →
    IsOpenAt g labels v → IsOpenAt g labels' v

-- fed vertices stay open where labels are refined and no other feed changes than that of open vertices
abbrev pub LawOfFedOpen : Type 0
LawOfFedOpen = (g : Graph) (f f' : RegionState) → FedAreOpen g f → IsRefined f.labels f'.labels →
    ((v : ℕ) → 1 ≤ slice_index f'.labels v → (slice_index f'.feed v ≡ slice_index f.feed v) ⊎ IsOpenAt g f'.labels v) → FedAreOpen g f'

-- a flow into a vertex feeds no other one that is not open
abbrev pub LawOfFedOthers : Type 0
LawOfFedOthers = (g : Graph) (f f' : RegionState) (t : ℕ) → FedAreOpen g f → f'.labels ≡ f.labels →
    ((v : ℕ) → v ≢ t → slice_index f'.feed v ≤ slice_index f.feed v) →
    (v : ℕ) → v ≢ t → 1 ≤ slice_index f'.labels v → 1 ≤ slice_index f'.feed v → IsOpenAt g f'.labels v

-- a flow into an open vertex leaves fed vertices open
abbrev pub LawOfFedByFlow : Type 0
LawOfFedByFlow = (g : Graph) (f f' : RegionState) (t : ℕ) → FedAreOpen g f → IsOpenAt g f.labels t → f'.labels ≡ f.labels →
    ((v : ℕ) → v ≢ t → slice_index f'.feed v ≤ slice_index f.feed v) → FedAreOpen g f'
