-- The members of a region as closed sets, from the part of t and from the outside.
use Rattle.std.specs.Prelude.{ℕ, Bool, ◌≡◌, ◌≢◌, ◌==◌, ◌+◌, ◌-◌, ◌≤◌, ◌⊎◌, false, if◌then◌else◌, nat_lt, List, slice_index, IsTrue}
use Rattle.std.specs.List.{Contains}
use Rattle.cut_definitions.specs.declared.edge_list.Edge.{Edge}
use Rattle.cut_definitions.specs.Graph.{Graph, IsGraph}
use Rattle.cut_definitions.specs.Weight.{VertexSet, complement, weight, minus, HasVertex, IsMinimumCut}
use Rattle.cut_definitions.specs.Chain.{IsJoined, listed_upto}
use Rattle.cut_definitions.specs.Components.{IsConnected}
use Rattle.arc_search.specs.Closed.{IsClosed}
use Rattle.region_flow.specs.Inflow.{IsAround}
use Rattle.region_flow.specs.Parted.{AreLightParts}
use Rattle.region_flow.specs.Growing.{IsMember, IsPartOf}
use Rattle.region_parts.specs.Sides.{IsNested, IsListed}

-- what is known of a region and t: t is joined to a vertex outside, and the amount is the least weight of a cut
pub record IsAtBorder (g : Graph) (labels : List ℕ) (t amount : ℕ) : Type 0 where
  pub is_graph : IsGraph g
  pub connected : IsConnected g
  pub from_one : 1 ≤ t
  pub to_n : t ≤ g.vertices
  pub in_region : 1 ≤ slice_index labels t
  pub root : slice_index labels 1 ≡ 0
  pub outer : ℕ
  pub joined : IsJoined g outer t
  pub apart : ¬ (slice_index labels outer ≡ slice_index labels t)
  pub minimum : VertexSet
  pub is_minimum : IsMinimumCut g minimum
  pub weighs : weight g minimum ≡ amount

-- a set is all but a member
abbrev pub IsRest : Graph → List ℕ → ℕ → ℕ → VertexSet → Type 0
IsRest g labels t amount e = IsMember g labels t amount (complement e)

-- the members are the sets around t that no step leads out of, against the arcs, and that have no fed vertex but t
pub record AreClosedSets (g : Graph) (labels feed : List ℕ) (t amount : ℕ) (goes : ℕ → ℕ → Bool) : Type 0 where
  pub closed : (x : VertexSet) → IsMember g labels t amount x → IsClosed goes x
  pub dry : (x : VertexSet) → IsMember g labels t amount x → (v : ℕ) → IsTrue (x v) → v ≢ t → slice_index feed v ≡ 0
  pub member : (x : VertexSet) → IsAround labels t x → ((v : ℕ) → IsTrue (x v) → v ≢ t → slice_index feed v ≡ 0) → IsClosed goes x → IsMember g labels t amount x

-- the number of a vertex in a list from the outside: where something is listed there, all outside the region is in the first part
abbrev pub outer_turn : List ℕ → ℕ → List ℕ → ℕ → ℕ → ℕ
outer_turn labels region turns count v = if slice_index labels v == region then slice_index turns v else (if count == 0 then 0 else 1)

-- the parts listed from t and from the outside, with one part between that is not listed where `between` is 1
abbrev pub two_sided : (ℕ → ℕ) → ℕ → (ℕ → ℕ) → ℕ → ℕ → ℕ → ℕ
two_sided inner inners outer outers between v =
    if nat_lt 0 (inner v) then inners + outers + between + 1 - inner v else (if nat_lt 0 (outer v) then outer v else outers + 1)

-- no member lies between what is listed from t and what is listed from the outside
abbrev pub IsNoneBetween : Graph → List ℕ → ℕ → ℕ → VertexSet → VertexSet → Type 0
IsNoneBetween g labels t amount b f = (x : VertexSet) → IsMember g labels t amount x → IsPartOf b x → HasVertex g.vertices (minus x b) →
    IsPartOf f (complement x) → HasVertex g.vertices (minus (complement x) f) → ⊥

-- the parts listed from both sides, all different
pub record AreTwoSided (g : Graph) (labels : List ℕ) (t amount : ℕ) (inner : ℕ → ℕ) (inners : ℕ) (outer : ℕ → ℕ) (outers : ℕ) : Type 0 where
  pub some : 1 ≤ inners + outers
  pub inner_listed : IsListed g.vertices (IsMember g labels t amount) inner inners
  pub outer_listed : IsListed g.vertices (IsRest g labels t amount) outer outers
  pub apart : (v : ℕ) → 1 ≤ inner v → outer v ≡ 0

-- where no member is left between the two lists, they are the chain of the region, with the part between where a vertex is left there
abbrev pub LawOfTwoSides : Type 0
LawOfTwoSides = (g : Graph) (labels : List ℕ) (t amount : ℕ) (inner : ℕ → ℕ) (inners : ℕ) (outer : ℕ → ℕ) (outers between : ℕ) → IsAtBorder g labels t amount →
    AreTwoSided g labels t amount inner inners outer outers → between ≤ 1 →
    (between ≡ 1 → (v : ℕ) × (1 ≤ v) × (v ≤ g.vertices) × (inner v ≡ 0) × (outer v ≡ 0)) →
    (between ≡ 0 → (1 ≤ inners) × (1 ≤ outers) × ((v : ℕ) → 1 ≤ v → v ≤ g.vertices → inner v ≡ 0 → 1 ≤ outer v)) →
    IsNoneBetween g labels t amount (listed_upto inner inners) (listed_upto outer outers) →
    AreLightParts g labels t (inners + outers + between) amount (two_sided inner inners outer outers between)

-- members, and what they leave, are nested
abbrev pub LawOfNestedSides : Type 0
LawOfNestedSides = (g : Graph) (labels : List ℕ) (t amount : ℕ) → IsAtBorder g labels t amount →
    IsNested g.vertices (IsMember g labels t amount) × IsNested g.vertices (IsRest g labels t amount)

-- something holds of each vertex outside a set to which an edge leads from the set
pub record HoldsAround (g : Graph) (q : VertexSet) (holds : ℕ → Type 0) : Type 0 where
  pub up : (e : Edge) → Contains g.edges e → IsTrue (q e.u) → q e.v ≡ false → holds e.v
  pub down : (e : Edge) → Contains g.edges e → IsTrue (q e.v) → q e.u ≡ false → holds e.u

-- a member with the vertex has the hub; and one with the hub has the vertex
abbrev pub BringsHub : Graph → List ℕ → ℕ → ℕ → ℕ → ℕ → Type 0
BringsHub g labels t amount hub v = (x : VertexSet) → IsMember g labels t amount x → IsTrue (x v) → IsTrue (x hub)

abbrev pub ComesWithHub : Graph → List ℕ → ℕ → ℕ → ℕ → ℕ → Type 0
ComesWithHub g labels t amount hub v = (x : VertexSet) → IsMember g labels t amount x → IsTrue (x hub) → IsTrue (x v)

-- no member lies between where each vertex around the inner list brings the hub, and each around the outer list comes with it;
-- a hub outside the region does without the second, and t as the hub without the first
abbrev pub LawOfNoneBetween : Type 0
LawOfNoneBetween = (g : Graph) (labels : List ℕ) (t amount hub : ℕ) (b f : VertexSet) → IsAtBorder g labels t amount →
    ((hub ≡ t) ⊎ (IsMember g labels t amount b × HoldsAround g b (λ v. ¬ (slice_index labels v ≡ slice_index labels t) ⊎ (IsTrue (f v) ⊎ BringsHub g labels t amount hub v)))) →
    (¬ (slice_index labels hub ≡ slice_index labels t) ⊎ (IsRest g labels t amount f × HoldsAround g f (λ v. IsTrue (b v) ⊎ ComesWithHub g labels t amount hub v))) →
    IsNoneBetween g labels t amount b f
