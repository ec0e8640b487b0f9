-- The parts of a region around one of its vertices, as they are listed: the part of that vertex first.
use Rattle.std.specs.Prelude.{ℕ, ◌≡◌, ◌⊎◌, List, slice_index, IsTrue}
use Rattle.std.specs.List.{Contains}
use Rattle.cut_definitions.specs.declared.edge_list.Edge.{Edge}
use Rattle.cut_definitions.specs.Graph.{Graph, IsGraph}
use Rattle.cut_definitions.specs.Weight.{VertexSet, weight, minus, joins, HasVertex, IsMinimumCut}
use Rattle.cut_definitions.specs.Chain.{IsWithin, IsJoined}
use Rattle.cut_definitions.specs.Components.{IsConnected}
use Rattle.region_flow.specs.Inflow.{IsAround}

-- a set around t that weighs the amount
pub record IsMember (g : Graph) (labels : List ℕ) (t amount : ℕ) (x : VertexSet) : Type 0 where
  pub around : IsAround labels t x
  pub weighs : weight g x ≡ amount

-- all vertices of one set are in another
abbrev pub IsPartOf : VertexSet → VertexSet → Type 0
IsPartOf x y = (v : ℕ) → IsTrue (x v) → IsTrue (y v)

-- of two sets around t that are minimum cuts one has all that the other has, where an edge leads from t out of the region
abbrev pub LawOfNested : Type 0
LawOfNested = (g : Graph) (labels : List ℕ) (s t : ℕ) → IsGraph g → IsJoined g s t → ¬ (slice_index labels s ≡ slice_index labels t) →
    (x y : VertexSet) → IsAround labels t x → IsAround labels t y → IsMinimumCut g x → IsMinimumCut g y →
    IsWithin g.vertices x y ⊎ IsWithin g.vertices y x

-- where one minimum cut has all of another and more, an edge joins that one to the rest
abbrev pub LawOfBorder : Type 0
LawOfBorder = (g : Graph) → IsGraph g → IsConnected g → (x y : VertexSet) → IsMinimumCut g x → IsMinimumCut g y →
    ((v : ℕ) → IsTrue (x v) → IsTrue (y v)) → HasVertex g.vertices (minus y x) →
    (e : Edge) × Contains g.edges e × IsTrue (joins x (minus y x) e.u e.v)
