-- What searches from both sides of a region show, where steps along the arcs are those against them the other way.
use Rattle.std.specs.Prelude.{ℕ, Bool, ◌≡◌, ◌≢◌, ◌==◌, ◌+◌, ◌<◌, ◌≤◌, ◌↔◌, false, if◌then◌else◌, List, slice_index, IsTrue}
use Rattle.cut_definitions.specs.Graph.{Graph}
use Rattle.cut_definitions.specs.Weight.{VertexSet}
use Rattle.arc_search.specs.Closed.{IsClosed}
use Rattle.region_flow.specs.Inflow.{IsStopReached}
use Rattle.region_flow.specs.Growing.{IsMember}
use Rattle.region_parts.specs.Sides.{IsListed}
use Rattle.region_parts.specs.Regional.{IsAtBorder, IsRest, AreClosedSets, BringsHub, ComesWithHub}
use Rattle.arc_search.specs.Further.{AreFurther}

-- a region as searches see it
pub record IsSearched (g : Graph) (labels feed : List ℕ) (t amount : ℕ) (against along : ℕ → ℕ → Bool) : Type 0 where
  pub at_border : IsAtBorder g labels t amount
  pub closed_sets : AreClosedSets g labels feed t amount against
  pub opposite : (u v : ℕ) → IsTrue (against u v) ↔ IsTrue (along v u)
  pub same_region : (u v : ℕ) → IsTrue (along u v) → slice_index labels u ≡ slice_index labels v

-- a vertex of the region, but not t, that is fed
pub record IsFedIn (labels feed : List ℕ) (t v : ℕ) : Type 0 where
  pub inside : slice_index labels v ≡ slice_index labels t
  pub other : v ≢ t
  pub fed : 1 ≤ slice_index feed v

-- what leads to t, where none of it is fed, is the first part from t
pub record IsWhatLeadsTo (labels feed : List ℕ) (t : ℕ) (against : ℕ → ℕ → Bool) (found : VertexSet) : Type 0 where
  pub closed : IsClosed against found
  pub has_t : IsTrue (found t)
  pub inside : (v : ℕ) → IsTrue (found v) → slice_index labels v ≡ slice_index labels t
  pub dry : (v : ℕ) → IsTrue (found v) → v ≢ t → slice_index feed v ≡ 0
  pub least : (x : VertexSet) → IsClosed against x → IsTrue (x t) → (v : ℕ) → IsTrue (found v) → IsTrue (x v)

abbrev pub LawOfFirstInner : Type 0
LawOfFirstInner = (g : Graph) (labels feed : List ℕ) (t amount : ℕ) (against along : ℕ → ℕ → Bool) → IsSearched g labels feed t amount against along →
    (found : VertexSet) → IsWhatLeadsTo labels feed t against found → (inner : ℕ → ℕ) → ((v : ℕ) → inner v ≡ (if found v then 1 else 0)) →
    IsListed g.vertices (IsMember g labels t amount) inner 1

-- what the fed vertices lead to, where t is not of it, is the first part from the outside, with all that is outside
pub record IsWhatIsFed (labels feed : List ℕ) (t : ℕ) (along : ℕ → ℕ → Bool) (found : VertexSet) : Type 0 where
  pub closed : IsClosed along found
  pub lacks_t : found t ≡ false
  pub all_fed : (v : ℕ) → IsFedIn labels feed t v → IsTrue (found v)
  pub least : (x : VertexSet) → IsClosed along x → ((v : ℕ) → IsFedIn labels feed t v → IsTrue (x v)) → (v : ℕ) → IsTrue (found v) → IsTrue (x v)

abbrev pub LawOfFirstOuter : Type 0
LawOfFirstOuter = (g : Graph) (labels feed : List ℕ) (t amount : ℕ) (against along : ℕ → ℕ → Bool) → IsSearched g labels feed t amount against along →
    (found : VertexSet) → IsWhatIsFed labels feed t along found → (outer : ℕ → ℕ) →
    ((v : ℕ) → outer v ≡ (if slice_index labels v == slice_index labels t then (if found v then 1 else 0) else 1)) →
    IsListed g.vertices (IsRest g labels t amount) outer 1

abbrev pub LawOfFurtherInner : Type 0
LawOfFurtherInner = (g : Graph) (labels feed : List ℕ) (t amount : ℕ) (against along : ℕ → ℕ → Bool) → IsSearched g labels feed t amount against along →
    (old new : ℕ → ℕ) (count last : ℕ) → 1 ≤ count → IsListed g.vertices (IsMember g labels t amount) old count → AreFurther g.vertices against old new count last →
    ((v : ℕ) → count < new v → slice_index labels v ≡ slice_index labels t) → ((v : ℕ) → count < new v → slice_index feed v ≡ 0) →
    IsListed g.vertices (IsMember g labels t amount) new last

-- the list from the outside: all outside the region is in the first part
abbrev pub with_outside : List ℕ → ℕ → (ℕ → ℕ) → ℕ → ℕ
with_outside labels region turns v = if slice_index labels v == region then turns v else 1

abbrev pub LawOfFurtherOuter : Type 0
LawOfFurtherOuter = (g : Graph) (labels feed : List ℕ) (t amount : ℕ) (against along : ℕ → ℕ → Bool) → IsSearched g labels feed t amount against along →
    (old new : ℕ → ℕ) (count last : ℕ) → 1 ≤ count → IsListed g.vertices (IsRest g labels t amount) (with_outside labels (slice_index labels t) old) count →
    AreFurther g.vertices along old new count last → ((v : ℕ) → count < new v → slice_index labels v ≡ slice_index labels t) → new t ≡ 0 →
    IsListed g.vertices (IsRest g labels t amount) (with_outside labels (slice_index labels t) new) last

-- what leads to a vertex that brings the hub brings it
abbrev pub LawOfBringing : Type 0
LawOfBringing = (g : Graph) (labels feed : List ℕ) (t amount : ℕ) (against along : ℕ → ℕ → Bool) → IsSearched g labels feed t amount against along →
    (hub last v : ℕ) → BringsHub g labels t amount hub last → ((x : VertexSet) → IsClosed against x → IsTrue (x v) → IsTrue (x last)) → BringsHub g labels t amount hub v

-- a fed vertex is in no member; what the hub leads to brings it; what the fed vertices lead to is in no member
abbrev pub LawOfBrought : Type 0
LawOfBrought = (g : Graph) (labels feed : List ℕ) (t amount : ℕ) (against along : ℕ → ℕ → Bool) → IsSearched g labels feed t amount against along → (hub v : ℕ) →
    (v ≢ t → 1 ≤ slice_index feed v → BringsHub g labels t amount hub v)
    × (((x : VertexSet) → IsClosed along x → IsTrue (x hub) → IsTrue (x v)) → BringsHub g labels t amount hub v)
    × (((x : VertexSet) → IsClosed along x → ((u : ℕ) → IsFedIn labels feed t u → IsTrue (x u)) → IsTrue (x v)) → BringsHub g labels t amount hub v)

-- what comes with the hub: what leads to that, along the arcs, and what leads to the hub
abbrev pub LawOfComing : Type 0
LawOfComing = (g : Graph) (labels feed : List ℕ) (t amount : ℕ) (against along : ℕ → ℕ → Bool) → IsSearched g labels feed t amount against along → (hub v : ℕ) →
    ((last : ℕ) → ComesWithHub g labels t amount hub last → ((x : VertexSet) → IsClosed along x → IsTrue (x v) → IsTrue (x last)) → ComesWithHub g labels t amount hub v)
    × (((x : VertexSet) → IsClosed against x → IsTrue (x hub) → IsTrue (x v)) → ComesWithHub g labels t amount hub v)

-- where t brings a vertex outside the region, there is no member, and each set around t weighs more than the amount
abbrev pub LawOfNoMember : Type 0
LawOfNoMember = (g : Graph) (labels feed : List ℕ) (t amount hub : ℕ) (against along : ℕ → ℕ → Bool) → IsSearched g labels feed t amount against along →
    ¬ (slice_index labels hub ≡ slice_index labels t) → BringsHub g labels t amount hub t → IsStopReached g labels t (amount + 1)
