-- Contraction: labels give each vertex a class, and the classes are the vertices of the contracted graph.
use Rattle.std.specs.Prelude.{ℕ, ◌≡◌, ◌==◌, ◌↔◌, nat_lt, ◌+◌, ◌-◌, ◌≤◌, List, map, length, slice_index, max}
use Rattle.std.specs.List.{Contains, All, filter, flat_map, fold, range_with_len}
use Rattle.cut_definitions.specs.declared.edge_list.Edge.{Edge}
use Rattle.cut_definitions.specs.Graph.{Graph}
use Rattle.cut_definitions.specs.Weight.{VertexSet, weight, between, IsMinimumCut}
use Rattle.cut_definitions.specs.Cuts.{has, value}
use Rattle.cut_definitions.specs.Chain.{SameOn}

-- the class of a vertex: the labels are in the order of the vertices
abbrev pub label : List ℕ → ℕ → ℕ
label labels v = slice_index labels (v - 1)

-- the number of classes is the greatest label
abbrev pub classes : List ℕ → ℕ
classes labels = fold max 0 labels

-- each label is 1 or more, each class is used, and class 1 has vertex 1
pub record IsLabels (labels : List ℕ) : Type 0 where
  pub from_one : All (λ c. 1 ≤ c) labels
  pub used : (c : ℕ) → 1 ≤ c → c ≤ classes labels → Contains labels c
  pub first : 1 ≤ length labels → label labels 1 ≡ 1

-- the vertices of a class
abbrev pub class : List ℕ → ℕ → VertexSet
class labels c v = label labels v == c

-- the pairs of numbers from 1 to n, the smaller first, ascending
abbrev pub pairs : ℕ → List (ℕ × ℕ)
pairs n = flat_map (λ i. map (λ j. (i, j)) (range_with_len (i + 1) (n - i))) (range_with_len 1 n)

-- the graph on the classes: the weight between two classes is that of the edges between them
unfoldable pub relabel : Graph → List ℕ → Graph
relabel g labels = record {
  vertices = classes labels;
  edges = filter (λ (e : Edge). nat_lt 0 e.w) (map (λ p. record { u = p.0; v = p.1; w = between g (class labels p.0) (class labels p.1) }) (pairs (classes labels)));
}

-- all vertices whose class is in the side
abbrev pub lift : List ℕ → List ℕ → List ℕ
lift labels side = filter (λ v. has side (label labels v)) (range_with_len 1 (length labels))

-- the vertices of the classes in a set
abbrev pub lifted : List ℕ → VertexSet → VertexSet
lifted labels s v = s (label labels v)

-- a set has all vertices of a class or none
abbrev pub RespectsClasses : ℕ → List ℕ → VertexSet → Type 0
RespectsClasses n labels s = (u v : ℕ) → 1 ≤ u → u ≤ n → 1 ≤ v → v ≤ n → label labels u ≡ label labels v → s u ≡ s v

-- sets of classes weigh what their vertices weigh, the minimum cuts of the two graphs are the same but for the lift, and so is the value
pub record KeepsMinimumCuts (g : Graph) (labels : List ℕ) : Type 0 where
  pub weights : (s : VertexSet) → weight (relabel g labels) s ≡ weight g (lifted labels s)
  pub minimum : (s : VertexSet) → IsMinimumCut (relabel g labels) s ↔ IsMinimumCut g (lifted labels s)
  pub each_is_lifted : (x : VertexSet) → IsMinimumCut g x → (s : VertexSet) × IsMinimumCut (relabel g labels) s × SameOn g.vertices x (lifted labels s)
  pub same_value : 2 ≤ g.vertices → value (relabel g labels) ≡ value g
