-- The laws of crossing cuts, as facts that the functions of the module `laws` state.
use Rattle.std.specs.Prelude.{ℕ, ◌≡◌, ◌+◌, ◌*◌, ◌<◌, ◌≤◌, ◌⊎◌, ◌↔◌, false, List, length, IsTrue, ◌-◌, map}
use Rattle.std.specs.List.{Contains, range_with_len}
use Rattle.cut_definitions.specs.Graph.{Graph, IsGraph}
use Rattle.cut_definitions.specs.Weight.{VertexSet, weight, between, both, either, minus, neither, HasVertex, IsCut, IsMinimumCut}
use Rattle.cut_definitions.specs.Cuts.{mincuts, side_of}
use Rattle.cut_definitions.specs.Contraction.{IsLabels, RespectsClasses, KeepsMinimumCuts}
use Rattle.cut_definitions.specs.Chain.{IsWithin, IsChain, IsFirstList, sets_across, IsInnerInterval, IsInOnePart, IsMinimumInterval, IsJoined, chain_of, first_list}

-- two cuts cross if each of the four corners has a vertex
pub record Cross (n : ℕ) (s t : VertexSet) : Type 0 where
  pub inside : HasVertex n (both s t)
  pub first : HasVertex n (minus s t)
  pub second : HasVertex n (minus t s)
  pub outside : HasVertex n (neither s t)

-- the corners of two sets are minimum cuts, and no edge joins opposite ones
pub record CornersAreMinimum (g : Graph) (s t : VertexSet) : Type 0 where
  pub inside : IsMinimumCut g (both s t)
  pub first : IsMinimumCut g (minus s t)
  pub second : IsMinimumCut g (minus t s)
  pub union : IsMinimumCut g (either s t)
  pub none_joins_sides : between g (minus s t) (minus t s) ≡ 0
  pub none_joins_ends : between g (both s t) (neither s t) ≡ 0

-- a cut is a minimum cut exactly if its side is in the list of the minimum cuts
abbrev pub LawOfMinimumSides : Type 0
LawOfMinimumSides = (g : Graph) → IsGraph g → (s : VertexSet) → IsCut g.vertices s → IsMinimumCut g s ↔ Contains (mincuts g) (side_of g.vertices s)

-- w(S) + w(T) = w(S and T) + w(S or T) + 2 c(S minus T, T minus S)
abbrev pub LawOfBothAndEither : Type 0
LawOfBothAndEither = (g : Graph) (s t : VertexSet) →
    weight g s + weight g t ≡ (weight g (both s t) + weight g (either s t)) + 2 * between g (minus s t) (minus t s)

-- w(S) + w(T) = w(S minus T) + w(T minus S) + 2 c(S and T, outside both)
abbrev pub LawOfDifferences : Type 0
LawOfDifferences = (g : Graph) (s t : VertexSet) →
    weight g s + weight g t ≡ (weight g (minus s t) + weight g (minus t s)) + 2 * between g (both s t) (neither s t)

-- the corners of two minimum cuts that cross are minimum cuts, and no edge joins opposite ones
abbrev pub LawOfCrossing : Type 0
LawOfCrossing = (g : Graph) (s t : VertexSet) →
    IsMinimumCut g s → IsMinimumCut g t → Cross g.vertices s t → CornersAreMinimum g s t

-- of two minimum cuts that have s and lack t, which an edge joins, one has all that the other has
abbrev pub LawOfNesting : Type 0
LawOfNesting = (g : Graph) (s t : ℕ) → IsGraph g → IsJoined g s t → (x y : VertexSet) →
    IsMinimumCut g x → IsMinimumCut g y → IsTrue (x s) → IsTrue (y s) → x t ≡ false → y t ≡ false →
    IsWithin g.vertices x y ⊎ IsWithin g.vertices y x

-- if an edge joins s and t and some minimum cut separates them, those that do are the first parts of a numbering of the vertices
abbrev pub LawOfChainAcross : Type 0
LawOfChainAcross = (g : Graph) (s t : ℕ) → IsGraph g → IsJoined g s t → (x : VertexSet) → IsMinimumCut g x → IsTrue (x s) → x t ≡ false →
    (count : ℕ) × (part : ℕ → ℕ) × IsChain g s t count part

-- a minimum cut without s and t that has vertices of two parts is an interval of inner parts
abbrev pub LawOfIntervals : Type 0
LawOfIntervals = (g : Graph) (s t count : ℕ) (part : ℕ → ℕ) → IsChain g s t count part → (x : VertexSet) →
    IsMinimumCut g x → x s ≡ false → x t ≡ false → (u v : ℕ) → 1 ≤ u → u ≤ g.vertices → 1 ≤ v → v ≤ g.vertices →
    IsTrue (x u) → IsTrue (x v) → part u < part v → IsInnerInterval g.vertices count part x

-- a minimum cut without s and t lies inside one part or is an interval of inner parts
abbrev pub LawOfCover : Type 0
LawOfCover = (g : Graph) (s t count : ℕ) (part : ℕ → ℕ) → IsChain g s t count part → (x : VertexSet) →
    IsMinimumCut g x → x s ≡ false → x t ≡ false →
    IsInOnePart g.vertices part x ⊎ IsInnerInterval g.vertices count part x

-- every interval inside an interval that is a minimum cut is one
abbrev pub LawOfSubintervals : Type 0
LawOfSubintervals = (g : Graph) (s t count : ℕ) (part : ℕ → ℕ) → IsGraph g → IsChain g s t count part →
    (a b i j : ℕ) → IsMinimumInterval g count part a b → a ≤ i → i ≤ j → j ≤ b → IsMinimumInterval g count part i j

-- two intervals that share a part and are minimum cuts have a union that is one
abbrev pub LawOfJoinedIntervals : Type 0
LawOfJoinedIntervals = (g : Graph) (s t count : ℕ) (part : ℕ → ℕ) → IsGraph g → IsChain g s t count part →
    (a b c d : ℕ) → IsMinimumInterval g count part a b → IsMinimumInterval g count part c d → a ≤ c → c ≤ b → b ≤ d →
    IsMinimumInterval g count part a d

-- an interval of two or more inner parts is a minimum cut exactly if each pair of neighbours in it is one
abbrev pub LawOfNeighbours : Type 0
LawOfNeighbours = (g : Graph) (s t count : ℕ) (part : ℕ → ℕ) → IsGraph g → IsChain g s t count part →
    (a b : ℕ) → 2 ≤ a → a < b → b < count →
    IsMinimumInterval g count part a b ↔ ((i : ℕ) → a ≤ i → i < b → IsMinimumInterval g count part i (i + 1))

-- if no minimum cut separates two vertices of a class, the minimum cuts of the contracted graph, lifted, are those of the graph
abbrev pub LawOfContraction : Type 0
LawOfContraction = (g : Graph) (labels : List ℕ) → IsGraph g → IsLabels labels → length labels ≡ g.vertices →
    ((x : VertexSet) → IsMinimumCut g x → RespectsClasses g.vertices labels x) → KeepsMinimumCuts g labels

-- the lists of the first parts of a chain are exactly the minimum cuts that separate its ends, as sets with s
abbrev pub LawOfMembers : Type 0
LawOfMembers = (g : Graph) (s t count : ℕ) (part : ℕ → ℕ) → IsGraph g → IsChain g s t count part → (x : List ℕ) →
    Contains (sets_across g s t) x ↔ IsFirstList g.vertices count part x

-- the sets of a chain, in order of size, are the lists of its first parts
abbrev pub LawOfChain : Type 0
LawOfChain = (g : Graph) (s t count : ℕ) (part : ℕ → ℕ) → IsGraph g → IsChain g s t count part →
    chain_of g s t ≡ map (first_list g.vertices part) (range_with_len 1 (count - 1))
