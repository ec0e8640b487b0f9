-- Which neighbouring parts are minimum cuts, by their weights.
use Rattle.std.specs.Prelude.{ℕ, ◌≡◌, ◌+◌, ◌*◌, ◌<◌, ◌≤◌, ◌↔◌}
use Rattle.cut_definitions.specs.Graph.{Graph, IsGraph}
use Rattle.cut_definitions.specs.Weight.{VertexSet, weight, between, IsMinimumCut}
use Rattle.cut_definitions.specs.Chain.{IsMinimumInterval, one_part}
use Rattle.region_flow.specs.Parted.{IsRegionChain}

-- an inner part is a minimum cut where it weighs the value, and two neighbours where they do without what lies between them
abbrev pub LawOfKinds : Type 0
LawOfKinds = (g : Graph) (region : VertexSet) (t count amount : ℕ) (part : ℕ → ℕ) → IsGraph g → IsRegionChain g region t count part →
    (some : VertexSet) → IsMinimumCut g some → weight g some ≡ amount → (i : ℕ) → 2 ≤ i → i < count →
    (IsMinimumInterval g count part i i ↔ (weight g (one_part part i) ≡ amount))
    × (i + 1 < count → IsMinimumInterval g count part i (i + 1) ↔
    (weight g (one_part part i) + weight g (one_part part (i + 1)) ≡ amount + 2 * between g (one_part part i) (one_part part (i + 1))))
