-- What contraction keeps.
use Rattle.std.specs.Prelude.{ℕ, ◌≡◌, ◌≤◌, List, length, map, min, nat_lt, false, if◌then◌else◌}
use Rattle.cut_definitions.specs.Safe.{IsFair, IsSafe}
use Rattle.std.specs.List.{All, Contains}
use Rattle.cut_definitions.specs.Graph.{Graph, IsGraph}
use Rattle.cut_definitions.specs.Weight.{VertexSet, weight, parts}
use Rattle.cut_definitions.specs.Cuts.{has, IsSide, value, mincuts}
use Rattle.cut_definitions.specs.Contraction.{label, classes, IsLabels, relabel, lift}
use Rattle.cut_definitions.specs.Components.{IsConnected}

-- labels for the vertices of a graph
pub record IsLabelled (g : Graph) (labels : List ℕ) : Type 0 where
  pub are_labels : IsLabels labels
  pub long : length labels ≡ g.vertices

-- no minimum cut separates two vertices of one class
abbrev pub PartsNoClass : Graph → List ℕ → Type 0
PartsNoClass g labels =
    All (λ side. (u v : ℕ) → 1 ≤ u → u ≤ g.vertices → 1 ≤ v → v ≤ g.vertices → label labels u ≡ label labels v → parts (has side) u v ≡ false) (mincuts g)

-- the value stays, and the minimum cuts are exactly the lifted ones of the contracted graph
pub record KeepsMinimumCuts (g : Graph) (labels : List ℕ) : Type 0 where
  pub same_value : value (relabel g labels) ≡ value g
  pub each_is_lifted : (side : List ℕ) → Contains (mincuts g) side → (small : List ℕ) × Contains (mincuts (relabel g labels)) small × (lift labels small ≡ side)
  pub lifted : (small : List ℕ) → Contains (mincuts (relabel g labels)) small → Contains (mincuts g) (lift labels small)

abbrev pub LawOfContractedGraph : Type 0
LawOfContractedGraph = (g : Graph) → IsGraph g → (labels : List ℕ) → IsLabelled g labels → IsGraph (relabel g labels)

-- for every set of classes at once
abbrev pub LawOfContractedWeights : Type 0
LawOfContractedWeights = (g : Graph) → IsGraph g → (labels : List ℕ) → IsLabelled g labels → (s : VertexSet) →
    weight (relabel g labels) s ≡ weight g (λ v. s (label labels v))

abbrev pub LawOfLiftedSides : Type 0
LawOfLiftedSides = (labels : List ℕ) → IsLabels labels → (side : List ℕ) → IsSide (classes labels) side → IsSide (length labels) (lift labels side)

abbrev pub LawOfContractedMinimumCuts : Type 0
LawOfContractedMinimumCuts = (g : Graph) → IsGraph g → (labels : List ℕ) → IsLabelled g labels → 2 ≤ g.vertices → PartsNoClass g labels → KeepsMinimumCuts g labels

abbrev pub LawOfContractedConnection : Type 0
LawOfContractedConnection = (g : Graph) → IsGraph g → (labels : List ℕ) → IsLabelled g labels → IsConnected g → IsConnected (relabel g labels)

-- two labellings one after the other lift as the one that they make
abbrev pub LawOfComposedLifts : Type 0
LawOfComposedLifts = (labels next : List ℕ) → IsLabels labels → length next ≡ classes labels → (side : List ℕ) →
    lift (map (label next) labels) side ≡ lift labels (lift next side)

-- each two vertices of one class are safe for a bound and a slack
abbrev pub ClassesAreSafe : Graph → List ℕ → ℕ → ℕ → Type 0
ClassesAreSafe g labels bound slack =
    (u v : ℕ) → 1 ≤ u → u ≤ g.vertices → 1 ≤ v → v ≤ g.vertices → label labels u ≡ label labels v → IsSafe g bound slack u v

-- if all pairs of a class are safe for a fair bound, the value is the lesser of the bound and the contracted graph's value, or the bound if one class is left
abbrev pub LawOfSafeContraction : Type 0
LawOfSafeContraction = (g : Graph) → IsGraph g → (labels : List ℕ) → IsLabelled g labels → 2 ≤ g.vertices → (bound : ℕ) → IsFair g bound → ClassesAreSafe g labels bound 0 →
    value g ≡ (if nat_lt (classes labels) 2 then bound else min bound (value (relabel g labels)))
