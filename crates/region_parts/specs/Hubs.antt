-- The search from the hub of what is left between two lists.
use Rattle.std.specs.Prelude.{ℕ, ◌≡◌, ◌≢◌, ◌==◌, ◌<◌, ◌≤◌, false, true, List, Some, length, slice_get}
use Rattle.cut_definitions.specs.Graph.{Graph}
use Rattle.cut_definitions.specs.Weight.{VertexSet}
use Rattle.weighted_graph.specs.Searches.{is_seen}
use Rattle.region_flow.specs.Regions.{RegionState}
use Rattle.region_parts.specs.declared.side.Side.{Side}
use Rattle.region_parts.specs.declared.hub.Hub.{Hub}
use Rattle.region_parts.specs.declared.hub.Hub.TheVariants.{Outside, At}
use Rattle.region_parts.specs.declared.hub.HubSearch.{HubSearch}
use Rattle.arc_search.specs.Found.{IsSearch}
use Rattle.region_fronts.specs.Fronts.{FrontsState, KeepsFronts}
use Rattle.region_parts.specs.Sided.{fed_in, goes_from}

-- a vertex that stands for the hub: vertex 1 is outside each region
abbrev pub hub_vertex : Hub → ℕ
hub_vertex Outside = 1
hub_vertex (At h) = h

-- where the search of a hub starts: from the fed vertices of the region, or from the hub
abbrev pub starts_of : Hub → RegionState → ℕ → VertexSet
starts_of Outside f t v = fed_in f t v
starts_of (At h) f t v = v == h

-- the search of a hub by the steps of a side, in which nothing halts it
abbrev pub IsHubSearch : Side → Graph → RegionState → ℕ → List ℕ → HubSearch → Type 0
IsHubSearch side g f t turns s = IsSearch g.vertices (goes_from side g f) (λ v. false) turns (starts_of s.hub f t) s.search

-- the fed vertices among the first entries of the front have been found
abbrev pub HaveBegun : RegionState → ℕ → List ℕ → HubSearch → Type 0
HaveBegun f t list s = (k v : ℕ) → k < s.place → slice_get list k ≡ Some v → fed_in f t v ≡ true → is_seen s.search.seen v ≡ true

-- all that a hub leads to has been found, from each entry of the front where it is outside
pub record HasAll (list : List ℕ) (s : HubSearch) : Type 0 where
  pub all : s.search.place ≡ s.search.count
  pub begun : s.hub ≡ Outside → length list ≤ s.place

-- what a hub's search has found stays found; it looks at entries of a front only where the hub is outside
pub record HubGoesOn (s s' : HubSearch) : Type 0 where
  pub same : s'.hub ≡ s.hub
  pub seen_kept : (v : ℕ) → is_seen s.search.seen v ≡ true → is_seen s'.search.seen v ≡ true
  pub unread : s.hub ≢ Outside → s'.place ≡ s.place

-- reading a front for a hub keeps what stands in it, and changes it only where the hub is outside
pub record KeepsFrontsFor (labels : List ℕ) (hub : Hub) (f f' : FrontsState) : Type 0 where
  pub vertices : f'.vertices ≡ f.vertices
  pub kept : KeepsFronts labels f f'
  pub same : hub ≢ Outside → f' ≡ f
