-- When arrays hold a flat cactus.
use Rattle.std.specs.Prelude.{ℕ, ◌≡◌, ◌<◌, ◌≤◌, ◌*◌, ◌-◌, ◌⊎◌, List, length, slice_index, slice_index_or}
use Rattle.cut_definitions.specs.Cuts.{value}
use Rattle.cut_definitions.specs.Graph.{Graph}
use Rattle.flat_cactus.specs.Flat.{Flat, cut_at, items_in}
use Rattle.mincut_c.specs.Rows.{BeginsFromZero}
use Rattle.mincut_c.specs.declared.filling.Bridge.{Bridge}
use Rattle.mincut_c.specs.declared.filling.CactusSizes.{CactusSizes}
use Rattle.flat_cactus.specs.Shown.{ShowsCuts}
use Rattle.mincut_c.specs.Shown.{IsCanonicalFlat}

-- an array begins with the list
abbrev pub Begins : List ℕ → List ℕ → Type 0
Begins xs out = (k : ℕ) → k < length xs → slice_index out k ≡ slice_index xs k

abbrev pub bridge_of : ℕ × ℕ → Bridge
bridge_of b = record { upper = b.0; lower = b.1 }

-- an array begins with the bridges
abbrev pub BeginsWithBridges : List (ℕ × ℕ) → List Bridge → Type 0
BeginsWithBridges bs out = (k : ℕ) (d : Bridge) (e : ℕ × ℕ) → k < length bs → slice_index_or out k d ≡ bridge_of (slice_index_or bs k e)

-- two arrays hold the vertices of all nodes, and where those of each node begin
pub record HoldsNodes (nodes : List (List ℕ)) (total : ℕ) (begins held : List ℕ) : Type 0 where
  pub places : List ℕ
  pub items : List ℕ
  pub cut : cut_at places items ≡ nodes
  pub counted : total ≡ length items
  pub starts : Begins places begins
  pub items_held : BeginsFromZero items held

-- and those of all cycles
pub record HoldsCycles (cycles : List (List ℕ)) (total : ℕ) (begins held : List ℕ) : Type 0 where
  pub places : List ℕ
  pub items : List ℕ
  pub cut : cut_at places items ≡ cycles
  pub counted : total ≡ length items
  pub starts : Begins places begins
  pub items_held : Begins items held

-- the sizes count the nodes, bridges and cycles, and the vertices and members in them
pub record Counts (flat : Flat) (sizes : CactusSizes) : Type 0 where
  pub nodes : sizes.nodes ≡ length flat.nodes
  pub vertices : sizes.vertices ≡ items_in flat.nodes
  pub members : sizes.members ≡ items_in flat.cycles
  pub bridges : sizes.bridges ≡ length flat.bridges
  pub cycles : sizes.cycles ≡ length flat.cycles

-- an array is shorter than what the sizes tell
abbrev pub IsShort : CactusSizes → ℕ → ℕ → ℕ → ℕ → ℕ → Type 0
IsShort sizes node_starts vertices pairs cycle_starts members =
    (node_starts < sizes.nodes) ⊎ ((vertices < sizes.vertices) ⊎ ((pairs < sizes.bridges) ⊎ ((cycle_starts < sizes.cycles) ⊎ (members < sizes.members))))

-- no array is
pub record HasRoom (sizes : CactusSizes) (node_starts vertices pairs cycle_starts members : ℕ) : Type 0 where
  pub for_nodes : sizes.nodes ≤ node_starts
  pub for_vertices : sizes.vertices ≤ vertices
  pub for_bridges : sizes.bridges ≤ pairs
  pub for_cycles : sizes.cycles ≤ cycle_starts
  pub for_members : sizes.members ≤ members

-- the sizes are no larger than those of a normal cactus over n vertices can be
pub record AreSmall (n : ℕ) (sizes : CactusSizes) : Type 0 where
  pub nodes : sizes.nodes ≤ 2 * n - 2
  pub vertices : sizes.vertices ≡ n
  pub bridges : sizes.bridges ≤ 2 * n - 3
  pub cycles : sizes.cycles ≤ n - 2
  pub members : sizes.members ≤ 3 * n - 5

-- the arrays are as long as n vertices ask for, whatever the cactus
pub record HasRoomBy (n node_starts vertices pairs cycle_starts members : ℕ) : Type 0 where
  pub for_nodes : 2 * n ≤ node_starts
  pub for_vertices : n ≤ vertices
  pub for_bridges : 2 * n ≤ pairs
  pub for_cycles : n ≤ cycle_starts
  pub for_members : 3 * n ≤ members

-- the arrays hold the nodes, bridges and cycles of a flat cactus
pub record HoldsFlat (flat : Flat) (sizes : CactusSizes) (node_starts vertices : List ℕ) (pairs : List Bridge) (cycle_starts members : List ℕ) : Type 0 where
  pub counts : Counts flat sizes
  pub nodes : HoldsNodes flat.nodes sizes.vertices node_starts vertices
  pub bridges : BeginsWithBridges flat.bridges pairs
  pub cycles : HoldsCycles flat.cycles sizes.members cycle_starts members

-- the sizes tell the value of a graph, and count the nodes, bridges and cycles of the canonical cactus of its minimum cuts
pub record CountsCactus (g : Graph) (sizes : CactusSizes) : Type 0 where
  pub flat : Flat
  pub shows : ShowsCuts g flat
  pub canonical : IsCanonicalFlat flat
  pub counts : Counts flat sizes
  pub small : AreSmall g.vertices sizes
  pub same_value : sizes.value ≡ value g

-- the arrays hold the canonical cactus of all minimum cuts of a graph
pub record HoldsCactus (g : Graph) (sizes : CactusSizes) (node_starts vertices : List ℕ) (pairs : List Bridge) (cycle_starts members : List ℕ) : Type 0 where
  pub flat : Flat
  pub shows : ShowsCuts g flat
  pub canonical : IsCanonicalFlat flat
  pub holds : HoldsFlat flat sizes node_starts vertices pairs cycle_starts members
