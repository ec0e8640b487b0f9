-- What holds between two steps of the sweep, and what a step owes.
use Rattle.std.specs.Prelude.{ℕ, ◌≡◌, ◌+◌, ◌<◌, ◌≤◌, ◌==◌, if◌then◌else◌, List, length, slice_index, slice_set}
use Rattle.cut_definitions.specs.Graph.{Graph, IsGraph}
use Rattle.cut_definitions.specs.Weight.{VertexSet, weight, IsMinimumCut}
use Rattle.region_flow.specs.Inflow.{IsStopReached}
use Rattle.node_tree.specs.TreeSets.{IsTreeOfCuts}
use Rattle.node_tree.specs.Hung.{IsRegrouped}
use Rattle.region_flow.specs.Parted.{AreLightParts}
use Rattle.node_tree.specs.Flat.{NodeArrays, AreNodes, AreLinked, sets_of}

-- vertex 1 has entered; the tree has the minimum cuts that do not lie inside a region; and a region is all in one node
pub record IsSweeping (g : Graph) (labels : List ℕ) (a : NodeArrays) : Type 0 where
  pub entered : slice_index labels 1 ≡ 0
  pub nodes : AreNodes a
  pub cuts : IsTreeOfCuts g labels (sets_of a)
  pub one_home : (u v : ℕ) → 1 ≤ u → u ≤ g.vertices → 1 ≤ v → v ≤ g.vertices → 1 ≤ slice_index labels u → slice_index labels u ≡ slice_index labels v →
      a.homes u ≡ a.homes v

-- vertices that share a region shared one, and are in one part
abbrev pub IsFiner : ℕ → List ℕ → List ℕ → (ℕ → ℕ) → Type 0
IsFiner n labels labels' part = (u v : ℕ) → 1 ≤ u → u ≤ n → 1 ≤ v → v ≤ n → 1 ≤ slice_index labels' u → slice_index labels' u ≡ slice_index labels' v →
    (slice_index labels u ≡ slice_index labels v) × (part u ≡ part v)

abbrev pub LawOfSweepStart : Type 0
LawOfSweepStart = (g : Graph) (labels : List ℕ) (a : NodeArrays) → AreNodes a → length a.links.uppers ≡ 1 → ((v : ℕ) → a.homes v ≡ 0) →
    slice_index labels 1 ≡ 0 → ((v : ℕ) → 2 ≤ v → v ≤ g.vertices → slice_index labels v ≡ 1) → IsSweeping g labels a

-- t enters around which no set inside its region weighs the value
abbrev pub LawOfSweepEntering : Type 0
LawOfSweepEntering = (g : Graph) (labels : List ℕ) (a : NodeArrays) (t amount : ℕ) → IsGraph g → IsSweeping g labels a →
    2 ≤ t → t ≤ g.vertices → 1 ≤ slice_index labels t → (some : VertexSet) → IsMinimumCut g some → weight g some ≡ amount →
    IsStopReached g labels t (amount + 1) → IsSweeping g (slice_set labels t 0) a

-- the region of t is split into parts, and each vertex of it is in the node of its part
abbrev pub LawOfSweepSplitting : Type 0
LawOfSweepSplitting = (g : Graph) (labels labels' : List ℕ) (a a' : NodeArrays) (t amount count : ℕ) (part : ℕ → ℕ) (at : ℕ → ℕ) → IsGraph g →
    IsSweeping g labels a → 1 ≤ t → t ≤ g.vertices → 1 ≤ slice_index labels t → (some : VertexSet) → IsMinimumCut g some → weight g some ≡ amount →
    AreLightParts g labels t count amount part → AreLinked g count part at (a.homes t) a.links a'.links → at 1 ≡ a.homes t →
    ((v : ℕ) → 1 ≤ v → v ≤ g.vertices → a'.homes v ≡ (if slice_index labels v == slice_index labels t then at (part v) else a.homes v)) →
    ((v : ℕ) → a'.homes v < length a'.links.uppers) →
    IsRegrouped g.vertices labels labels' (slice_index labels t) t count part →
    IsFiner g.vertices labels labels' part → slice_index labels' 1 ≡ 0 → IsSweeping g labels' a'
