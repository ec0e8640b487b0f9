-- The vertices around what is listed, and how far they are known to be listed themselves.
use Rattle.std.specs.Prelude.{ℕ, ◌≡◌, ◌<◌, ◌≤◌, ◌⊎◌, List, length, take, slice_index}
use Rattle.region_flow.specs.Regions.{RegionState}
use Rattle.region_parts.specs.declared.passed.Around.{Around}
use Rattle.region_parts.specs.declared.passed.Around.TheVariants.{Border, Front}
use Rattle.region_parts.specs.declared.passed.Passed.{Passed}
use Rattle.region_parts.specs.declared.side.Side.{Side}
use Rattle.region_parts.specs.declared.side.Side.TheVariants.{Inner, Outer}
use Rattle.region_parts.specs.declared.splitter.Splitter.{Splitter}
use Rattle.region_fronts.specs.Fronts.{FrontsState, list_at}
use Rattle.region_parts.specs.Split.{half_of}

-- a vertex is listed on either side, if it is in the region
abbrev pub IsListedIn : RegionState → ℕ → Splitter → ℕ → Type 0
IsListedIn f t s v = slice_index f.labels v ≡ slice_index f.labels t → (1 ≤ slice_index s.inner.turns v) ⊎ (1 ≤ slice_index s.outer.turns v)

-- a vertex is in the region, and listed on neither side
abbrev pub IsLeft : RegionState → ℕ → Splitter → ℕ → Type 0
IsLeft f t s v = (slice_index f.labels v ≡ slice_index f.labels t) × (slice_index s.inner.turns v ≡ 0) × (slice_index s.outer.turns v ≡ 0)

-- something holds of each entry before a place of a list
pub record HoldsBefore (holds : ℕ → Type 0) (list : List ℕ) (place : ℕ) : Type 0 where
  pub within : place ≤ length list
  pub each : (i : ℕ) → i < place → holds (slice_index list i)

-- all vertices before a place of a list are listed
abbrev pub IsPassed : RegionState → ℕ → Splitter → List ℕ → ℕ → Type 0
IsPassed f t s = HoldsBefore (IsListedIn f t s)

-- all before a place are listed, in the lists beside both sides and in the front, which is not looked at before something is listed from the outside
pub record ArePassed (f : RegionState) (t : ℕ) (fronts : FrontsState) (s : Splitter) (p : Passed) : Type 0 where
  pub inner : IsPassed f t s s.inner.border p.inner
  pub outer : IsPassed f t s s.outer.border p.outer
  pub front : IsPassed f t s (list_at fronts.lists (slice_index f.labels t)) p.front
  pub unread : s.outer.count ≡ 0 → p.front ≡ 0

-- the side whose searches start from vertices around
abbrev pub side_around : Around → Side
side_around (Border side) = side
side_around Front = Outer

-- the list in which they stand
abbrev pub list_around : Around → RegionState → ℕ → FrontsState → Splitter → List ℕ
list_around (Border side) f t fronts s = (half_of side s).border
list_around Front f t fronts s = list_at fronts.lists (slice_index f.labels t)

-- how many of them are passed
abbrev pub place_in : Passed → Around → ℕ
place_in p (Border Inner) = p.inner
place_in p (Border Outer) = p.outer
place_in p Front = p.front

-- to look at the vertex at a place keeps those before it, and the fronts where it looks beside the list of a side
pub record IsReadAt (around : Around) (f : RegionState) (t : ℕ) (s : Splitter) (place : ℕ) (fronts fronts' : FrontsState) : Type 0 where
  pub before : take place (list_around around f t fronts' s) ≡ take place (list_around around f t fronts s)
  pub shorter : length (list_around around f t fronts' s) ≤ length (list_around around f t fronts s)
  pub same : (side : Side) → around ≡ Border side → fronts' ≡ fronts
