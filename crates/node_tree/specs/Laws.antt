-- What a split of a region does to a tree of minimum cuts, as facts that the functions of the module `laws` state.
use Rattle.std.specs.Prelude.{ℕ, ◌≡◌, ◌==◌, ◌+◌, ◌*◌, ◌<◌, ◌≤◌, ◌⊎◌, ◌↔◌, false, List, length, slice_index, slice_set}
use Rattle.cut_definitions.specs.Graph.{Graph, IsGraph}
use Rattle.cut_definitions.specs.Weight.{VertexSet, weight, between, IsMinimumCut}
use Rattle.cut_definitions.specs.Chain.{IsWithin, IsInOnePart, IsMinimumInterval, one_part, parts_between}
use Rattle.region_flow.specs.Inflow.{IsStopReached}
use Rattle.region_flow.specs.Parted.{IsRegionChain, IsLaterParts, IsLightInterval, AreLightParts}
use Rattle.node_tree.specs.TreeSets.{TreeSets, IsTreeSide, IsTreeOfCuts}
use Rattle.node_tree.specs.Hung.{AreHung, IsGrown, IsRegrouped}
use Rattle.node_tree.specs.Flat.{NodeArrays, AreNodes, AreMade, sets_of}

-- the vertices of a label
abbrev pub region_of : List ℕ → ℕ → VertexSet
region_of labels region v = slice_index labels v == region

-- a set is all parts from a later one on, or an interval of inner parts that is a minimum cut
abbrev pub IsStepSide : Graph → ℕ → (ℕ → ℕ) → VertexSet → Type 0
IsStepSide g count part x = IsLaterParts g.vertices count part x ⊎ IsLightInterval g count part x

-- a minimum cut inside a region is a side that its parts show, or lies inside one part
abbrev pub LawOfRegionCover : Type 0
LawOfRegionCover = (g : Graph) (region : VertexSet) (t count : ℕ) (part : ℕ → ℕ) → IsGraph g → region 1 ≡ false →
    IsRegionChain g region t count part → (x : VertexSet) → IsMinimumCut g x → IsWithin g.vertices x region →
    IsStepSide g count part x ⊎ (IsInOnePart g.vertices part x × (x t ≡ false))

-- the nodes of the parts have just the sides that the parts show
abbrev pub LawOfHanging : Type 0
LawOfHanging = (g : Graph) (region : VertexSet) (t count : ℕ) (part : ℕ → ℕ) (at : ℕ → ℕ) (old : ℕ) (tree : TreeSets) → IsGraph g →
    IsRegionChain g region t count part → AreHung g count part at old tree → 1 ≤ old → (x : VertexSet) →
    IsStepSide g count part x ↔ ((s : IsTreeSide g.vertices tree x) × (old ≤ s.first))

-- a region is split into the parts of a chain
abbrev pub LawOfSplitting : Type 0
LawOfSplitting = (g : Graph) (labels labels' : List ℕ) (tree tree' : TreeSets) (region t count : ℕ) (part : ℕ → ℕ) (at : ℕ → ℕ) → IsGraph g →
    IsTreeOfCuts g labels tree → 1 ≤ region → slice_index labels 1 ≡ 0 → IsRegionChain g (region_of labels region) t count part →
    IsGrown g.vertices tree tree' → AreHung g count part at tree.count tree' → IsRegrouped g.vertices labels labels' region t count part →
    IsTreeOfCuts g labels' tree'

-- a vertex enters around which no set inside its region is a minimum cut
abbrev pub LawOfEntering : Type 0
LawOfEntering = (g : Graph) (labels : List ℕ) (tree : TreeSets) (t amount : ℕ) → IsGraph g → IsTreeOfCuts g labels tree →
    1 ≤ t → t ≤ g.vertices → 1 ≤ slice_index labels t → (some : VertexSet) → IsMinimumCut g some → weight g some ≡ amount →
    IsStopReached g labels t (amount + 1) → IsTreeOfCuts g (slice_set labels t 0) tree

-- at first vertex 1 has entered, all others are one region, and the tree is its root
abbrev pub LawOfStart : Type 0
LawOfStart = (g : Graph) (labels : List ℕ) (tree : TreeSets) → tree.count ≡ 1 →
    ((v : ℕ) → 2 ≤ v → v ≤ g.vertices → slice_index labels v ≡ 1) → IsTreeOfCuts g labels tree

-- once all vertices have entered, the sides are exactly the minimum cuts without vertex 1
abbrev pub LawOfEnd : Type 0
LawOfEnd = (g : Graph) (labels : List ℕ) (tree : TreeSets) → IsTreeOfCuts g labels tree →
    ((v : ℕ) → 1 ≤ v → v ≤ g.vertices → slice_index labels v ≡ 0) → (x : VertexSet) → x 1 ≡ false → IsTreeSide g.vertices tree x ↔ IsMinimumCut g x

-- parts of which all later ones, from each on, are the sets around t that weigh the value make a chain of the region
abbrev pub LawOfParts : Type 0
LawOfParts = (g : Graph) (labels : List ℕ) (t count amount : ℕ) (part : ℕ → ℕ) → IsGraph g → 1 ≤ slice_index labels t →
    (some : VertexSet) → IsMinimumCut g some → weight g some ≡ amount → AreLightParts g labels t count amount part →
    IsRegionChain g (region_of labels (slice_index labels t)) t count part

-- an interval of inner parts is a minimum cut just where it weighs the value
abbrev pub LawOfLightIntervals : Type 0
LawOfLightIntervals = (g : Graph) (region : VertexSet) (t count amount : ℕ) (part : ℕ → ℕ) → IsRegionChain g region t count part →
    (some : VertexSet) → IsMinimumCut g some → weight g some ≡ amount → (a b : ℕ) → 2 ≤ a → a ≤ b → b < count →
    IsMinimumInterval g count part a b ↔ (weight g (parts_between part a b) ≡ amount)

-- what two neighbouring parts weigh together
abbrev pub LawOfPairs : Type 0
LawOfPairs = (g : Graph) (part : ℕ → ℕ) (i : ℕ) → IsGraph g →
    weight g (parts_between part i (i + 1)) + 2 * between g (one_part part i) (one_part part (i + 1)) ≡ weight g (one_part part i) + weight g (one_part part (i + 1))

-- nodes that were made for the parts of a region are hung into the tree, and no old node changes what is under it
abbrev pub LawOfMaking : Type 0
LawOfMaking = (g : Graph) (region : VertexSet) (t count : ℕ) (part : ℕ → ℕ) (at : ℕ → ℕ) (node : ℕ) (a a' : NodeArrays) →
    IsRegionChain g region t count part → AreNodes a → AreMade g count part at node a a' →
    ((v : ℕ) → a'.homes v < length a'.links.uppers) →
    AreNodes a' × IsGrown g.vertices (sets_of a) (sets_of a') × AreHung g count part at (length a.links.uppers) (sets_of a')
