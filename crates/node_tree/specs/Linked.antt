-- The nodes of the parts of a region, by what lies between the parts.
use Rattle.std.specs.Prelude.{ℕ, ◌≡◌, ◌+◌, ◌<◌, ◌≤◌, ◌^◌, List, slice_index}
use Rattle.cut_definitions.specs.Graph.{Graph, IsGraph}
use Rattle.cut_definitions.specs.Weight.{VertexSet, weight, IsMinimumCut}
use Rattle.cut_definitions.specs.Chain.{IsMinimumInterval}
use Rattle.node_tree.specs.declared.tree.Hanging.{Hanging}
use Rattle.node_tree.specs.declared.tree.Hanging.TheVariants.{Bridged, Followed, Touching}
use Rattle.region_flow.specs.Parted.{IsRegionChain}
use Rattle.node_tree.specs.Weighed.{AreWeights}

-- a chain of a region, the weight of the minimum cuts, and what lies between the parts of the chain
pub record IsWeighedChain (g : Graph) (region : VertexSet) (t count : ℕ) (part : ℕ → ℕ) (value : ℕ) (later next : List ℕ) : Type 0 where
  pub is_graph : IsGraph g
  pub chain : IsRegionChain g region t count part
  pub some : VertexSet
  pub minimum : IsMinimumCut g some
  pub weighs : weight g some ≡ value
  pub weights : AreWeights g count part later next

-- the weights of the inner parts fit, twice what lies between each and all later ones
pub record AreSmall (count value : ℕ) (later next : List ℕ) : Type 0 where
  pub value_small : value ≤ 2 ^ 61
  pub later_small : (i : ℕ) → 2 ≤ i → i < count → slice_index later i ≤ 2 ^ 60
  pub next_small : (i : ℕ) → 2 ≤ i → i < count → slice_index next i ≤ 2 ^ 61

-- the next part may hang like this from part i
abbrev pub MayHang : Graph → ℕ → (ℕ → ℕ) → ℕ → Hanging → Type 0
MayHang g count part i Bridged = ¬ IsMinimumInterval g count part i i
MayHang g count part i Followed = IsMinimumInterval g count part i i × (IsMinimumInterval g count part (i + 1) (i + 1) → IsMinimumInterval g count part i (i + 1))
MayHang g count part i Touching = IsMinimumInterval g count part i i × (IsMinimumInterval g count part i (i + 1) → ⊥)
