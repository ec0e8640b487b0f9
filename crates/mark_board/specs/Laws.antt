-- What contraction by safe marks keeps.
use Rattle.std.specs.Prelude.{ℕ, Bool, ◌≡◌, ◌≤◌, List, min, nat_lt, if◌then◌else◌}
use Rattle.cut_definitions.specs.Graph.{Graph, IsGraph}
use Rattle.cut_definitions.specs.Safe.{IsFair}
use Rattle.cut_definitions.specs.Cuts.{value}
use Rattle.cut_definitions.specs.Contraction.{classes, relabel}
use Rattle.weighted_graph.specs.ContractionLaws.{IsLabelled, KeepsMinimumCuts}
use Rattle.weighted_graph.specs.Marks.{ClassesAreJoined, MarksAreSafe}

-- if marks join any two vertices of a class, and are safe for a fair bound: with slack 0 the value is the smaller of
-- the bound and the contracted graph's value, or the bound if one class is left; with slack 1 the value and all
-- minimum cuts are kept
abbrev pub LawOfMarkedContraction : Type 0
LawOfMarkedContraction = (g : Graph) → IsGraph g → 2 ≤ g.vertices → (labels : List ℕ) → IsLabelled g labels → (marked : ℕ → Bool) → ClassesAreJoined g labels marked →
    (bound : ℕ) → IsFair g bound →
    (MarksAreSafe g marked bound 0 → value g ≡ (if nat_lt (classes labels) 2 then bound else min bound (value (relabel g labels))))
    × (MarksAreSafe g marked bound 1 → KeepsMinimumCuts g labels)
