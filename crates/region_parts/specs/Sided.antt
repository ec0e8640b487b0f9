-- The two lists of the parts of a region, and what is known of them while it is split.
use Rattle.std.specs.Prelude.{ℕ, Bool, ◌≡◌, ◌==◌, ◌&&◌, ◌||◌, ◌≤◌, ◌⊎◌, not, nat_lt, true, false, List, [], slice_index, IsTrue}
use Rattle.std.proofs.Common.{refl}
use Rattle.std.proofs.lemmas.Bool.{false≢true}
use Rattle.cut_definitions.specs.Graph.{Graph}
use Rattle.cut_definitions.specs.Weight.{VertexSet}
use Rattle.arc_search.specs.declared.direction.Direction.{Direction}
use Rattle.arc_search.specs.declared.direction.Direction.TheVariants.{Along, Against}
use Rattle.region_flow.specs.Regions.{RegionState}
use Rattle.region_parts.specs.declared.side.Side.{Side}
use Rattle.region_parts.specs.declared.side.Side.TheVariants.{Inner, Outer}
use Rattle.region_parts.specs.Steps.{steps_in}
use Rattle.region_flow.specs.Growing.{IsMember}
use Rattle.cut_definitions.specs.Chain.{listed_upto}
use Rattle.region_parts.specs.Sides.{IsListed}
use Rattle.arc_search.specs.Listing.{ListingState, IsKept, IsBordered}
use Rattle.region_parts.specs.Regional.{IsRest, BringsHub, ComesWithHub, outer_turn, HoldsAround}
use Rattle.region_parts.specs.Taking.{IsSearched}

abbrev pub direction_of : Side → Direction
direction_of Inner = Against
direction_of Outer = Along

abbrev pub other_side : Side → Side
other_side Inner = Outer
other_side Outer = Inner

-- the steps of the searches of a side
abbrev pub goes_from : Side → Graph → RegionState → ℕ → ℕ → Bool
goes_from side g f = steps_in g f (direction_of side)

-- the sets that are listed from a side: members, or all but a member
abbrev pub kind_of : Side → Graph → List ℕ → ℕ → ℕ → VertexSet → Type 0
kind_of Inner g labels t amount x = IsMember g labels t amount x
kind_of Outer g labels t amount x = IsRest g labels t amount x

-- the number of a vertex in the list of a side
abbrev pub turn_of : Side → List ℕ → ℕ → ListingState → ℕ → ℕ
turn_of Inner labels region s v = slice_index s.turns v
turn_of Outer labels region s v = outer_turn labels region s.turns s.count v

-- what a search of a side is to show of a vertex beside the list: a member that has it has the hub; or one that has the hub has it
abbrev pub IsGood : Side → Graph → List ℕ → ℕ → ℕ → ℕ → ℕ → Type 0
IsGood Inner g labels t amount hub v = BringsHub g labels t amount hub v
IsGood Outer g labels t amount hub v = ComesWithHub g labels t amount hub v

-- the region of t, as searches in a flow see it
abbrev pub IsRegionOf : Graph → RegionState → ℕ → Type 0
IsRegionOf g f t = IsSearched g f.labels f.feed t (slice_index f.feed t) (steps_in g f Against) (steps_in g f Along)

-- the list of one side
pub record IsHalf (side : Side) (g : Graph) (f : RegionState) (t : ℕ) (s : ListingState) : Type 0 where
  pub kept : IsKept g.vertices s
  pub bordered : IsBordered g f.labels s
  pub inside : (v : ℕ) → 1 ≤ slice_index s.turns v → slice_index f.labels v ≡ slice_index f.labels t
  pub bare : s.count ≡ 0 → s.border ≡ []
  pub listed : IsListed g.vertices (kind_of side g f.labels t (slice_index f.feed t)) (turn_of side f.labels (slice_index f.labels t) s) s.count

-- the lists of both sides, which share no vertex
pub record AreHalves (g : Graph) (f : RegionState) (t : ℕ) (inner outer : ListingState) : Type 0 where
  pub inner_half : IsHalf Inner g f t inner
  pub outer_half : IsHalf Outer g f t outer
  pub apart : (v : ℕ) → 1 ≤ slice_index inner.turns v → slice_index outer.turns v ≡ 0

-- a vertex of the region, but not t, that is fed
abbrev pub fed_in : RegionState → ℕ → VertexSet
fed_in f t v = (slice_index f.labels v == slice_index f.labels t) && (not (v == t) && nat_lt 0 (slice_index f.feed v))

-- what stops a search of a side for good: a fed vertex stops one against the arcs, and t one along them
abbrev pub stops : Side → RegionState → ℕ → ℕ → Bool
stops Inner f t v = not (v == t) && nat_lt 0 (slice_index f.feed v)
stops Outer f t v = v == t

-- all around the list of a side is outside the region, listed, or good
abbrev pub IsRoundDone : Side → Graph → RegionState → ℕ → ℕ → ListingState → ListingState → Type 0
IsRoundDone Inner g f t hub inner outer = HoldsAround g (listed_upto (slice_index inner.turns) inner.count) (λ v. ¬ (slice_index f.labels v ≡ slice_index f.labels t)
    ⊎ (IsTrue (listed_upto (outer_turn f.labels (slice_index f.labels t) outer.turns outer.count) outer.count v) ⊎ BringsHub g f.labels t (slice_index f.feed t) hub v))
IsRoundDone Outer g f t hub inner outer = HoldsAround g (listed_upto (outer_turn f.labels (slice_index f.labels t) outer.turns outer.count) outer.count) (λ v.
    IsTrue (listed_upto (slice_index inner.turns) inner.count v) ⊎ ComesWithHub g f.labels t (slice_index f.feed t) hub v)

-- what always halts a search halts it
pub stops_halt : (a b : Bool) → a ≡ true → (a || b) ≡ true
stops_halt true b is = refl
stops_halt false b is = absurd (false≢true is)

-- a vertex of the region is listed on either side, or good
abbrev pub IsSettled : Side → Graph → RegionState → ℕ → ℕ → ListingState → ListingState → ℕ → Type 0
IsSettled side g f t hub inner outer v = slice_index f.labels v ≡ slice_index f.labels t →
    (1 ≤ slice_index inner.turns v) ⊎ ((1 ≤ slice_index outer.turns v) ⊎ IsGood side g f.labels t (slice_index f.feed t) hub v)
