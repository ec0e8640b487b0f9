-- The laws of an insertion, as facts that the functions of the module `laws` state.
use Rattle.std.specs.Prelude.{ℕ, ◌≡◌, ◌+◌, ◌<◌, ◌≤◌, ◌↔◌, false, true, List, if◌then◌else◌}
use Rattle.std.specs.List.{Contains}
use Rattle.cut_definitions.specs.declared.edge_list.Edge.{Edge}
use Rattle.cut_definitions.specs.Graph.{Graph}
use Rattle.cut_definitions.specs.Components.{IsConnected}
use Rattle.cut_definitions.specs.Weight.{VertexSet, parts, weight}
use Rattle.cut_definitions.specs.Cuts.{has, value, mincuts}
use Rattle.cactus_growth.specs.Insertion.{enlarged}

-- a set that separates the two vertices weighs more by the weight of the insertion, and any other set weighs the same
abbrev pub LawOfWeights : Type 0
LawOfWeights = (g : Graph) (e : Edge) (s : VertexSet) → weight (enlarged g e) s ≡ weight g s + (if parts s e.u e.v then e.w else 0)

-- some minimum cut does not separate two vertices
abbrev pub KeepsSome : Graph → ℕ → ℕ → Type 0
KeepsSome g u v = (side : List ℕ) × Contains (mincuts g) side × (parts (has side) u v ≡ false)

-- every minimum cut separates two vertices
abbrev pub PartsAll : Graph → ℕ → ℕ → Type 0
PartsAll g u v = (side : List ℕ) → Contains (mincuts g) side → parts (has side) u v ≡ true

-- if some minimum cut does not separate the two vertices, the value stays, and the minimum cuts are exactly those that do not
-- separate them
abbrev pub LawOfKeptCuts : Type 0
LawOfKeptCuts = (g : Graph) (e : Edge) → 1 ≤ e.w → KeepsSome g e.u e.v →
    (value (enlarged g e) ≡ value g)
    × ((side : List ℕ) → Contains (mincuts (enlarged g e)) side ↔ (Contains (mincuts g) side × (parts (has side) e.u e.v ≡ false)))

-- if every minimum cut separates them, the value rises
abbrev pub LawOfRise : Type 0
LawOfRise = (g : Graph) (e : Edge) → 2 ≤ g.vertices → 1 ≤ e.w → PartsAll g e.u e.v → value g < value (enlarged g e)

-- a connected graph stays connected
abbrev pub LawOfConnection : Type 0
LawOfConnection = (g : Graph) (e : Edge) → IsConnected g → IsConnected (enlarged g e)
