-- What a splitter knows while it lists the parts of a region.
use Rattle.std.specs.Prelude.{ℕ, ◌≡◌, ◌≢◌, ◌==◌, ◌+◌, ◌≤◌, ◌⊎◌, true, false, [], length, slice_index}
use Rattle.std.specs.List.{Contains}
use Rattle.cut_definitions.specs.Graph.{Graph}
use Rattle.cut_definitions.specs.Weight.{VertexSet}
use Rattle.weighted_graph.specs.Searches.{is_seen}
use Rattle.region_flow.specs.Regions.{RegionState}
use Rattle.cut_definitions.specs.Regions.{IsOpenAt}
use Rattle.region_parts.specs.declared.side.Side.{Side}
use Rattle.region_parts.specs.declared.side.Side.TheVariants.{Inner, Outer}
use Rattle.region_parts.specs.declared.hub.Hub.{Hub}
use Rattle.region_parts.specs.declared.hub.Hub.TheVariants.{Outside, At}
use Rattle.region_parts.specs.declared.splitter.Splitter.{Splitter}
use Rattle.arc_search.specs.Found.{IsNoneFound, IsQuiet, IsSearch}
use Rattle.cut_definitions.specs.Chain.{listed_upto}
use Rattle.region_fronts.specs.Fronts.{FrontsState, IsCovered}
use Rattle.region_parts.specs.Hubs.{IsHubSearch, hub_vertex}
use Rattle.arc_search.specs.Listing.{ListingState, HasMore, IsNothingListed}
use Rattle.region_parts.specs.Regional.{outer_turn}
use Rattle.region_parts.specs.Sided.{AreHalves, IsGood, IsRegionOf, IsSettled, fed_in, goes_from, other_side, stops}

-- the list of a side
abbrev pub half_of : Side → Splitter → ListingState
half_of Inner s = s.inner
half_of Outer s = s.outer

-- a splitter between two splits, for vertices 1 to n
pub record IsReady (n : ℕ) (s : Splitter) : Type 0 where
  pub near : IsNoneFound n s.near
  pub hub : length s.hub.search.seen ≡ n + 1
  pub inner : IsNothingListed n s.inner
  pub outer : IsNothingListed n s.outer
  pub good_length : length s.good.items ≡ n + 1
  pub good : (v : ℕ) → is_seen s.good.items v ≡ false
  pub touched : s.touched.items ≡ []
  pub memory : s.memory ≡ n

-- a hub inside is a vertex of the region
pub record IsHubIn (g : Graph) (f : RegionState) (t h : ℕ) : Type 0 where
  pub from_one : 1 ≤ h
  pub to_n : h ≤ g.vertices
  pub inside : slice_index f.labels h ≡ slice_index f.labels t

-- the two lists
pub record IsBetween (g : Graph) (f : RegionState) (t : ℕ) (s : Splitter) : Type 0 where
  pub region : IsRegionOf g f t
  pub halves : AreHalves g f t s.inner s.outer
  pub hub : length s.hub.search.seen ≡ g.vertices + 1
  pub good_length : length s.good.items ≡ g.vertices + 1
  pub touched : (v : ℕ) → is_seen s.good.items v ≡ true → Contains s.touched.items v
  pub touched_within : (v : ℕ) → Contains s.touched.items v → v ≤ g.vertices
  pub memory : s.memory ≡ g.vertices

-- while all around the list of one side is searched, from a hub
pub record IsSearching (side : Side) (g : Graph) (f : RegionState) (t : ℕ) (s : Splitter) : Type 0 where
  pub between : IsBetween g f t s
  pub some : 1 ≤ (half_of side s).count
  pub good : (v : ℕ) → is_seen s.good.items v ≡ true → IsGood side g f.labels t (slice_index f.feed t) (hub_vertex s.hub.hub) v
  pub hub_search : IsHubSearch (other_side side) g f t (half_of (other_side side) s).turns s.hub
  pub outside : s.hub.hub ≡ Outside → (side ≡ Inner) × (s.outer.count ≡ 0)
  pub inside : (h : ℕ) → s.hub.hub ≡ At h → IsHubIn g f t h

-- what is listed stays listed, by both sides
pub record StaysListed (s s' : Splitter) : Type 0 where
  pub inner : (v : ℕ) → 1 ≤ slice_index s.inner.turns v → 1 ≤ slice_index s'.inner.turns v
  pub outer : (v : ℕ) → 1 ≤ slice_index s.outer.turns v → 1 ≤ slice_index s'.outer.turns v

-- fed vertices but t are open, and open ones stand in the front of their region
pub record AreAtFront (g : Graph) (f : RegionState) (t : ℕ) (fronts : FrontsState) : Type 0 where
  pub vertices : fronts.vertices ≡ g.vertices
  pub covered : IsCovered g f.labels fronts
  pub fed : (v : ℕ) → v ≢ t → 1 ≤ slice_index f.labels v → 1 ≤ slice_index f.feed v → IsOpenAt g f.labels v

-- the search from one vertex beside the list of a side ended, and found nothing that halts it
pub record IsEnded (side : Side) (g : Graph) (f : RegionState) (t : ℕ) (s : Splitter) (x : ℕ) : Type 0 where
  pub search : IsSearch g.vertices (goes_from side g f) (stops side f t) (half_of side s).turns (λ v. v == x) s.near
  pub some : 1 ≤ s.near.count
  pub first : slice_index s.near.order 0 ≡ x
  pub all : s.near.place ≡ s.near.count
  pub quiet : IsQuiet (stops side f t) s.near
  pub inside : slice_index f.labels x ≡ slice_index f.labels t
  pub free : slice_index (half_of (other_side side) s).turns x ≡ 0

-- nothing changes but the list of a side, which only gets more
pub record IsSameButHalf (side : Side) (s s' : Splitter) : Type 0 where
  pub near : s'.near ≡ s.near
  pub hub : s'.hub ≡ s.hub
  pub good : s'.good.items ≡ s.good.items
  pub touched : s'.touched.items ≡ s.touched.items
  pub other : half_of (other_side side) s' ≡ half_of (other_side side) s
  pub border : HasMore (half_of side s).border (half_of side s').border
  pub more : (half_of side s).count ≤ (half_of side s').count

-- what the hub's search found may be taken into the list of a side
pub record MayTakeHub (side : Side) (g : Graph) (f : RegionState) (t : ℕ) (s : Splitter) : Type 0 where
  pub other_some : 1 ≤ (half_of (other_side side) s).count
  pub outside : s.hub.hub ≡ Outside → (side ≡ Outer) × (s.outer.count ≡ 0) × ((v : ℕ) → fed_in f t v ≡ true → is_seen s.hub.search.seen v ≡ true)
  pub inside : (h : ℕ) → s.hub.hub ≡ At h → IsHubIn g f t h × (slice_index (half_of (other_side side) s).turns h ≡ 0) × (is_seen s.hub.search.seen h ≡ true)
  pub first : (h : ℕ) → s.hub.hub ≡ At h → (half_of side s).count ≡ 0 → (side ≡ Inner) × (h ≡ t)

-- while vertices around the list of a side are settled: what is listed stays so, vertices stay good, and the other list stays;
-- a hub inside looks at no front
pub record GoesOnSettling (side : Side) (s s' : Splitter) : Type 0 where
  pub stays : StaysListed s s'
  pub border : HasMore (half_of side s).border (half_of side s').border
  pub hub : s'.hub.hub ≡ s.hub.hub
  pub other : half_of (other_side side) s' ≡ half_of (other_side side) s
  pub good : (v : ℕ) → is_seen s.good.items v ≡ true → is_seen s'.good.items v ≡ true
  pub seen : (v : ℕ) → is_seen s.hub.search.seen v ≡ true → is_seen s'.hub.search.seen v ≡ true
  pub unread : s.hub.hub ≢ Outside → s'.hub.place ≡ s.hub.place

-- a vertex of the region is listed, or good for the hub
abbrev pub IsSettledIn : Side → Graph → RegionState → ℕ → Splitter → ℕ → Type 0
IsSettledIn side g f t s v = IsSettled side g f t (hub_vertex s.hub.hub) s.inner s.outer v

-- a hub that may be searched from: the outside where nothing is listed there, else a vertex that is not listed, which is t where nothing is listed around that
pub record IsHub (g : Graph) (f : RegionState) (t : ℕ) (s : Splitter) (hub : Hub) : Type 0 where
  pub outside : hub ≡ Outside → (s.outer.count ≡ 0) × (1 ≤ s.inner.count)
  pub outer_some : (h : ℕ) → hub ≡ At h → 1 ≤ s.outer.count
  pub inside : (h : ℕ) → hub ≡ At h → IsHubIn g f t h
  pub free : (h : ℕ) → hub ≡ At h → (slice_index s.inner.turns h ≡ 0) × (slice_index s.outer.turns h ≡ 0)
  pub first : (h : ℕ) → hub ≡ At h → s.inner.count ≡ 0 → h ≡ t

-- the lists as sets of vertices
abbrev pub inner_set : Splitter → VertexSet
inner_set s = listed_upto (slice_index s.inner.turns) s.inner.count

abbrev pub outer_of : RegionState → ℕ → Splitter → ℕ → ℕ
outer_of f t s = outer_turn f.labels (slice_index f.labels t) s.outer.turns s.outer.count

abbrev pub outer_set : RegionState → ℕ → Splitter → VertexSet
outer_set f t s = listed_upto (outer_of f t s) s.outer.count

-- more is listed than before: from the outside for the first time, or a vertex that was not
abbrev pub IsFurther : Splitter → Splitter → Type 0
IsFurther s s' = ((s.outer.count ≡ 0) × (1 ≤ s'.outer.count))
    ⊎ ((v : ℕ) × (slice_index s.inner.turns v ≡ 0) × (slice_index s.outer.turns v ≡ 0) × ((1 ≤ slice_index s'.inner.turns v) ⊎ (1 ≤ slice_index s'.outer.turns v)))
