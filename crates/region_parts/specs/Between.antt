-- What is left between the lists of the two sides, as a number of parts, and what searches around the lists show of it.
use Rattle.std.specs.Prelude.{ℕ, ◌≡◌}
use Rattle.std.specs.List.{Contains}
use Rattle.cut_definitions.specs.Graph.{Graph}
use Rattle.region_flow.specs.Regions.{RegionState}
use Rattle.cut_definitions.specs.Regions.{IsOpenAt}
use Rattle.region_parts.specs.declared.between.Between.{Between}
use Rattle.region_parts.specs.declared.between.Between.TheVariants.{Nothing, One}
use Rattle.region_parts.specs.declared.hub.Hub.{Hub}
use Rattle.region_parts.specs.declared.side.Side.{Side}
use Rattle.region_parts.specs.declared.side.Side.TheVariants.{Outer}
use Rattle.region_parts.specs.declared.splitter.Splitter.{Splitter}
use Rattle.region_parts.specs.Hubs.{hub_vertex}
use Rattle.region_parts.specs.Sided.{IsSettled}
use Rattle.region_parts.specs.Split.{half_of}

abbrev pub parts_between : Between → ℕ
parts_between Nothing = 0
parts_between One = 1

-- each vertex beside the list of a side is settled for a hub; around that from the outside, so is each that is open
pub record IsSideSettled (side : Side) (g : Graph) (f : RegionState) (t : ℕ) (hub : Hub) (s : Splitter) : Type 0 where
  pub at_border : (v : ℕ) → Contains (half_of side s).border v → IsSettled side g f t (hub_vertex hub) s.inner s.outer v
  pub at_open : side ≡ Outer → (v : ℕ) → IsOpenAt g f.labels v → IsSettled side g f t (hub_vertex hub) s.inner s.outer v
