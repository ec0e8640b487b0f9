-- Marked edges, and the vertices that they join.
use Rattle.std.specs.Prelude.{ℕ, Bool, ◌≡◌, ◌<◌, ◌≤◌, List, length, IsTrue}
use Rattle.cut_definitions.specs.Graph.{Graph, IsGraph}
use Rattle.cut_definitions.specs.Weight.{VertexSet}
use Rattle.cut_definitions.specs.Safe.{IsFair, IsSafe}
use Rattle.cut_definitions.specs.Contraction.{label}
use Rattle.weighted_graph.specs.RowLaws.{edge_at}
use Rattle.weighted_graph.specs.ContractionLaws.{IsLabelled, ClassesAreSafe, KeepsMinimumCuts}

-- a set separates the ends of no marked edge: it has both or none
abbrev pub PartsNoMark : Graph → (ℕ → Bool) → VertexSet → Type 0
PartsNoMark g marked s = (i : ℕ) → i < length g.edges → IsTrue (marked i) → s (edge_at g i).u ≡ s (edge_at g i).v

-- marked edges join two vertices, in one step or several: no set separates them that separates the ends of no marked edge
abbrev pub AreJoinedByMarks : Graph → (ℕ → Bool) → ℕ → ℕ → Type 0
AreJoinedByMarks g marked u v = (s : VertexSet) → PartsNoMark g marked s → s u ≡ s v

-- the ends of each marked edge are safe for a bound and a slack
abbrev pub MarksAreSafe : Graph → (ℕ → Bool) → ℕ → ℕ → Type 0
MarksAreSafe g marked bound slack = (i : ℕ) → i < length g.edges → IsTrue (marked i) → IsSafe g bound slack (edge_at g i).u (edge_at g i).v

-- marked edges join each two vertices of one class
abbrev pub ClassesAreJoined : Graph → List ℕ → (ℕ → Bool) → Type 0
ClassesAreJoined g labels marked =
    (u v : ℕ) → 1 ≤ u → u ≤ g.vertices → 1 ≤ v → v ≤ g.vertices → label labels u ≡ label labels v → AreJoinedByMarks g marked u v

-- safe is transitive along marks: vertices that safe edges join are safe
abbrev pub LawOfJoinedMarks : Type 0
LawOfJoinedMarks = (g : Graph) (marked : ℕ → Bool) (bound slack : ℕ) → MarksAreSafe g marked bound slack →
    (u v : ℕ) → AreJoinedByMarks g marked u v → IsSafe g bound slack u v

-- classes that safe edges join are safe, so they may be contracted all at once
abbrev pub LawOfMarkedClasses : Type 0
LawOfMarkedClasses = (g : Graph) (labels : List ℕ) (marked : ℕ → Bool) (bound slack : ℕ) → MarksAreSafe g marked bound slack →
    ClassesAreJoined g labels marked → ClassesAreSafe g labels bound slack

-- if all pairs of a class are safe for a fair bound with slack 1, contraction keeps the value and all minimum cuts
abbrev pub LawOfKeptContraction : Type 0
LawOfKeptContraction = (g : Graph) → IsGraph g → (labels : List ℕ) → IsLabelled g labels → 2 ≤ g.vertices →
    (bound : ℕ) → IsFair g bound → ClassesAreSafe g labels bound 1 → KeepsMinimumCuts g labels
