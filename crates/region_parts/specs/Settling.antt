-- A search from one vertex beside the list of a side, in a race with that of a hub.
use Rattle.std.specs.Prelude.{ℕ, ◌≡◌, ◌==◌, ◌-◌, ◌≤◌, ◌⊎◌, true, slice_index}
use Rattle.cut_definitions.specs.Graph.{Graph}
use Rattle.weighted_graph.specs.Searches.{is_seen}
use Rattle.region_flow.specs.Regions.{RegionState}
use Rattle.region_parts.specs.declared.side.Side.{Side}
use Rattle.region_parts.specs.declared.splitter.Splitter.{Splitter}
use Rattle.arc_search.specs.Found.{SearchState, IsSearch}
use Rattle.region_parts.specs.Sided.{goes_from, other_side, stops}
use Rattle.region_parts.specs.Split.{half_of}

-- the search has begun from one vertex of the region, which is not listed
pub record IsBeside (side : Side) (g : Graph) (f : RegionState) (t : ℕ) (s : Splitter) (x : ℕ) : Type 0 where
  pub search : IsSearch g.vertices (goes_from side g f) (stops side f t) (half_of side s).turns (λ v. v == x) s.near
  pub some : 1 ≤ s.near.count
  pub first : slice_index s.near.order 0 ≡ x
  pub inside : slice_index f.labels x ≡ slice_index f.labels t
  pub free : slice_index (half_of (other_side side) s).turns x ≡ 0

-- the vertex that a search found last
abbrev pub last_of : SearchState → ℕ
last_of s = slice_index s.order (s.count - 1)

-- the vertex that a search found last always halts it, is good, or has been found from the hub
abbrev pub HasMet : Side → RegionState → ℕ → Splitter → Type 0
HasMet side f t s = (stops side f t (last_of s.near) ≡ true) ⊎ ((is_seen s.good.items (last_of s.near) ≡ true) ⊎ (is_seen s.hub.search.seen (last_of s.near) ≡ true))
