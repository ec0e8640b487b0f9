-- The sizes count what the lists of a flat cactus have.
use Rattle.std.proofs.Common.{◌≡◌, ℕ, List, length, sym, ◌∙◌, ap, arith}
use Rattle.cut_definitions.specs.Cuts.{value}
use Rattle.cut_definitions.specs.Graph.{Graph}
use Rattle.flat_cactus.specs.Flat.{Flat, cut_at, items_in}
use Rattle.flat_cactus.proofs.Flats.{cut_length}
use Rattle.mincut_c.specs.Filled.{AreSmall, BeginsWithBridges, Counts, CountsCactus, HasRoomBy, HoldsCycles, HoldsFlat, HoldsNodes, IsShort}
use Rattle.flat_cactus.specs.Shown.{ShowsCuts}
use Rattle.mincut_c.specs.Shown.{HasFewParts, IsCanonicalFlat}
use Rattle.mincut_c.specs.declared.filling.Bridge.{Bridge}
use Rattle.mincut_c.specs.declared.filling.CactusSizes.{CactusSizes}

-- as many lists as places
pub many : (places items : List ℕ) (lists : List (List ℕ)) → cut_at places items ≡ lists → length places ≡ length lists
many places items lists cut = sym (cut_length places items) ∙ ap (λ (ls : List (List ℕ)). length ls) cut

pub counted : (flat : Flat) (least : ℕ) (node_places node_items cycle_places cycle_items : List ℕ) (pairs : List (ℕ × ℕ)) →
    cut_at node_places node_items ≡ flat.nodes → length node_items ≡ items_in flat.nodes → pairs ≡ flat.bridges →
    cut_at cycle_places cycle_items ≡ flat.cycles → length cycle_items ≡ items_in flat.cycles →
    Counts flat (record { value = least; nodes = length node_places; vertices = length node_items; bridges = length pairs; cycles = length cycle_places; members = length cycle_items })
counted flat least node_places node_items cycle_places cycle_items pairs nodes vertices bridges cycles members =
    record {
      nodes = many node_places node_items flat.nodes nodes;
      vertices = vertices;
      members = members;
      bridges = ap (λ (bs : List (ℕ × ℕ)). length bs) bridges;
      cycles = many cycle_places cycle_items flat.cycles cycles;
    }

-- arrays that hold all nodes, bridges and cycles hold the cactus, by sizes that count it
pub all_held : (flat : Flat) (sizes : CactusSizes) (node_starts vertices : List ℕ) (pairs : List Bridge) (cycle_starts members : List ℕ) → Counts flat sizes →
    HoldsNodes flat.nodes (items_in flat.nodes) node_starts vertices → BeginsWithBridges flat.bridges pairs → HoldsCycles flat.cycles (items_in flat.cycles) cycle_starts members →
    HoldsFlat flat sizes node_starts vertices pairs cycle_starts members
all_held flat sizes node_starts vertices pairs cycle_starts members c nodes bridges cycles = record {
  counts = c;
  nodes = rw c.vertices nodes;
  bridges = bridges;
  cycles = rw c.members cycles;
}

-- few parts have small sizes
pub small : (n : ℕ) (flat : Flat) (sizes : CactusSizes) → Counts flat sizes → HasFewParts n flat → AreSmall n sizes
small n flat sizes c few = record {
  nodes = omega (arith, c.nodes, few.nodes);
  vertices = c.vertices ∙ few.vertices;
  bridges = omega (arith, c.bridges, few.bridges);
  cycles = omega (arith, c.cycles, few.cycles);
  members = omega (arith, c.members, few.members);
}

-- and no array that is as long as n asks for is too short for them
pub not_short : (n : ℕ) (sizes : CactusSizes) (node_starts vertices pairs cycle_starts members : ℕ) → AreSmall n sizes → HasRoomBy n node_starts vertices pairs cycle_starts members →
    IsShort sizes node_starts vertices pairs cycle_starts members → ⊥
not_short n sizes node_starts vertices pairs cycle_starts members s room short =
    omega (arith, short, s.nodes, s.vertices, s.bridges, s.cycles, s.members, room.for_nodes, room.for_vertices, room.for_bridges, room.for_cycles, room.for_members)

-- the sizes of a cactus of the minimum cuts of a graph, with its value
pub counts_cactus : (g : Graph) (flat : Flat) (sizes : CactusSizes) → ShowsCuts g flat → IsCanonicalFlat flat → HasFewParts g.vertices flat → Counts flat sizes → sizes.value ≡ value g → CountsCactus g sizes
counts_cactus g flat sizes shows canonical few c same = record { flat = flat; shows = shows; canonical = canonical; counts = c; small = small g.vertices flat sizes c few; same_value = same }
