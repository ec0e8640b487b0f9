-- What holds of a sweep between two steps.
use Rattle.std.specs.Prelude.{ℕ, ◌≡◌, ◌+◌, ◌≤◌, List, length, slice_index}
use Rattle.cut_definitions.specs.Graph.{Graph}
use Rattle.cut_definitions.specs.Weight.{VertexSet, weight, IsMinimumCut}
use Rattle.region_flow.specs.Regions.{RegionState, IsRegionFlow}
use Rattle.region_sweep.specs.declared.sweep.Sweep.{Sweep}
use Rattle.region_parts.specs.Covered.{FedAreOpen}
use Rattle.node_tree.specs.Flat.{NodeArrays, TreeLinks}
use Rattle.region_fronts.specs.Fronts.{FrontsState, IsCovered}
use Rattle.node_tree.specs.Homes.{AreNumbered, HomesState, home_of}
use Rattle.region_parts.specs.Split.{IsReady}
use Rattle.node_tree.specs.Sweeping.{IsSweeping}

-- some minimum cut weighs the amount
pub record IsLeastWeight (g : Graph) (amount : ℕ) : Type 0 where
  pub some : VertexSet
  pub minimum : IsMinimumCut g some
  pub weighs : weight g some ≡ amount

-- a tree in which each vertex is in its home
abbrev pub nodes_of : HomesState → List ℕ → TreeLinks → NodeArrays
nodes_of homes labels links = record { homes = home_of homes labels; links = links }

-- the flow and its fronts as the sweep starts: vertex 1 has entered, and all others are in region 1
pub record IsStarted (g : Graph) (f : RegionState) (s : FrontsState) : Type 0 where
  pub flow : IsRegionFlow g f
  pub root : slice_index f.labels 1 ≡ 0
  pub others : (v : ℕ) → 2 ≤ v → v ≤ g.vertices → slice_index f.labels v ≡ 1
  pub numbered : AreNumbered g.vertices f.labels 2
  pub fed : FedAreOpen g f
  pub covered : IsCovered g f.labels s
  pub vertices : s.vertices ≡ g.vertices

-- memory for n vertices, labels up to n + 1 and n parts
pub record HasRoom (n : ℕ) (s : Sweep) : Type 0 where
  pub vertices : s.fronts.vertices ≡ n
  pub numbers : length s.parts.numbers ≡ n + 1
  pub entered : length s.homes.entered ≡ n + 1
  pub regions : length s.homes.regions ≡ n + 2
  pub nodes : length s.nodes.items ≡ n + 2
  pub later : length s.later.items ≡ n + 2
  pub next : length s.next.items ≡ n + 2

-- the tree has the minimum cuts that do not lie inside a region, and flow, labels, fronts and memory are ready for the next step
pub record IsUnderWay (g : Graph) (s : Sweep) : Type 0 where
  pub flow : IsRegionFlow g s.flow
  pub sweeping : IsSweeping g s.flow.labels (nodes_of s.homes s.flow.labels s.tree)
  pub first : home_of s.homes s.flow.labels 1 ≡ 0
  pub numbered : AreNumbered g.vertices s.flow.labels s.fresh
  pub fed : FedAreOpen g s.flow
  pub covered : IsCovered g s.flow.labels s.fronts
  pub ready : IsReady g.vertices s.splitter
  pub room : HasRoom g.vertices s
