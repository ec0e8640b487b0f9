-- Ways down a tree, step by step.
use Rattle.std.specs.Prelude.{ℕ, ◌≡◌, Bool, ◌==◌, ◌&&◌, true, List, [], ◌∷◌, ◌++◌, map, false, slice_get, Some}
use Rattle.std.specs.List.{All, filter}
use Rattle.cut_definitions.specs.Cuts.{has}
use Rattle.rooted_cactus.specs.Entries.{nodes_of}
use Rattle.rooted_cactus.specs.Trees.{vertices, blocks}
use Rattle.rooted_cactus.specs.Numbers.{is_inner}
use Rattle.rooted_cactus.specs.declared.tree.Node.{Node}
use Rattle.rooted_cactus.specs.declared.tree.Block.{Block}
use Rattle.cactus_growth.specs.declared.ways.Step.{Step}
use Rattle.cactus_growth.specs.declared.ways.Visit.{Visit}

abbrev pub same_step : Step → Step → Bool
same_step s t = (s.block == t.block) && (s.child == t.child)

-- a step leads from a node to one right below it
pub record HasChild (x : Node) (s : Step) (y : Node) : Type 0 where
  pub block : Block
  pub here : slice_get (blocks x) s.block ≡ Some block
  pub there : slice_get (nodes_of block) s.child ≡ Some y

-- steps lead from a node to one below it, or to the node itself
abbrev pub IsWay : Node → List Step → Node → Type 0
IsWay x [] y = x ≡ y
IsWay x (s ∷ ss) y = (z : Node) × HasChild x s z × IsWay z ss y

-- steps lead from a node to one that has a vertex
abbrev pub LeadsTo : ℕ → Node → List Step → Type 0
LeadsTo v x way = (y : Node) × IsWay x way y × (has (vertices y) v ≡ true)

-- a step leads from a node to one right below it that has a vertex
abbrev pub IsStepTo : ℕ → Node → Step → Type 0
IsStepTo v x s = (y : Node) × HasChild x s y × (has (vertices y) v ≡ true)

-- a node below which the search still has to look is right below a node to which `depth` steps lead
pub record IsBelow (x : Node) (depth : ℕ) (w : Visit) : Type 0 where
  pub deep : w.depth ≡ depth
  pub child : HasChild x w.step w.node.now

abbrev pub visited : List Visit → List Node
visited = map (λ (w : Visit). w.node.now)

-- nodes right below a node were put on a stack
pub record AreAdded (x : Node) (depth : ℕ) (xs : List Node) (old new : List Visit) : Type 0 where
  pub added : List Visit
  pub whole : new ≡ old ++ added
  pub below : All (IsBelow x depth) added
  pub nodes : visited added ≡ xs

-- nodes right below a node were looked at: none has the vertex, and those with a block below them were put on a stack
pub record AreVisited (v : ℕ) (x : Node) (depth : ℕ) (xs : List Node) (old new : List Visit) : Type 0 where
  pub lacking : All (λ (y : Node). has (vertices y) v ≡ false) xs
  pub added : AreAdded x depth (filter is_inner xs) old new
