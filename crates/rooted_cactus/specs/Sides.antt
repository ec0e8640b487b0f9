-- The cuts of a rooted cactus, each as the set of the vertices that it separates from the root.
use Rattle.std.specs.Prelude.{ℕ, false, List, [], ◌∷◌, ◌++◌, map}
use Rattle.std.specs.List.{flat_map}
use Rattle.cut_definitions.specs.Weight.{VertexSet, either}
use Rattle.cut_definitions.specs.Cuts.{has}
use Rattle.rooted_cactus.specs.declared.tree.Node.{Node}
use Rattle.rooted_cactus.specs.declared.tree.Block.{Block}
use Rattle.rooted_cactus.specs.declared.tree.Block.TheOpen.{Block-F, Blocks-F, Children-F, Node-F, Bridge, Cycle}
use Rattle.rooted_cactus.specs.declared.tree.Block.TheFolds.{fold-Node, fold-Block}

-- what a part of a tree has: its vertices, and its cuts in the order of the tree
pub record Part : Type 0 where
  pub below : VertexSet
  pub cuts : List VertexSet

abbrev pub nothing : VertexSet
nothing _ = false

-- the union of several sets
abbrev pub all_of : List VertexSet → VertexSet
all_of [] = nothing
all_of (s ∷ ss) = either s (all_of ss)

-- the unions of the set with each number of the sets that follow it
abbrev pub from_here : VertexSet → List VertexSet → List VertexSet
from_here s [] = s ∷ []
from_here s (t ∷ ts) = s ∷ from_here (either s t) ts

-- the unions of the nonempty intervals of a list of sets
abbrev pub intervals : List VertexSet → List VertexSet
intervals [] = []
intervals (s ∷ ss) = from_here s ss ++ intervals ss

abbrev pub belows : List Part → List VertexSet
belows = map (λ (p : Part). p.below)

abbrev pub all_cuts : List Part → List VertexSet
all_cuts = flat_map (λ (p : Part). p.cuts)

-- parts side by side
abbrev pub together : List Part → Part
together ps = record { below = all_of (belows ps); cuts = all_cuts ps }

-- one part with another below it
abbrev pub with_below : Part → Part → Part
with_below p q = record { below = either p.below q.below; cuts = p.cuts ++ q.cuts }

-- a bridge cuts off all that is below it
abbrev pub bridge_of : Part → Part
bridge_of p = record { below = p.below; cuts = p.below ∷ p.cuts }

-- a cycle through parts and the node above cuts off each interval of its parts
abbrev pub cycle_of : List Part → Part
cycle_of ps = record { below = all_of (belows ps); cuts = intervals (belows ps) ++ all_cuts ps }

abbrev pub block_step : Block-F Part Part (List Part) Part → Part
block_step (Bridge child) = bridge_of child.value
block_step (Cycle nodes) = cycle_of nodes

abbrev pub blocks_step : Blocks-F Part Part (List Part) Part → Part
blocks_step b = together b.items.items

abbrev pub children_step : Children-F Part Part (List Part) Part → List Part
children_step c = c.items.items

abbrev pub node_step : Node-F Part Part (List Part) Part → Part
node_step x = record { below = either (has x.vertices) x.blocks.below; cuts = x.blocks.cuts }

-- what a node and all below it have
unfoldable pub part : Node → Part
part = fold-Node Part Part (List Part) Part block_step blocks_step children_step node_step

-- what a block has below its upper node
unfoldable pub block_part : Block → Part
block_part = fold-Block Part Part (List Part) Part block_step blocks_step children_step node_step

-- the vertices of a node and of all below it
abbrev pub below : Node → VertexSet
below x = (part x).below

-- the cuts below a node
abbrev pub cuts : Node → List VertexSet
cuts x = (part x).cuts

-- the part of a node, if another test decides which vertices a node has
abbrev pub node_step_by : (List ℕ → VertexSet) → Node-F Part Part (List Part) Part → Part
node_step_by sets x = record { below = either (sets x.vertices) x.blocks.below; cuts = x.blocks.cuts }

unfoldable pub part_by : (List ℕ → VertexSet) → Node → Part
part_by sets = fold-Node Part Part (List Part) Part block_step blocks_step children_step (node_step_by sets)

-- a part under a map of its sets
abbrev pub map_part : (VertexSet → VertexSet) → Part → Part
map_part h p = record { below = h p.below; cuts = map h p.cuts }

unfoldable pub block_part_by : (List ℕ → VertexSet) → Block → Part
block_part_by sets = fold-Block Part Part (List Part) Part block_step blocks_step children_step (node_step_by sets)
