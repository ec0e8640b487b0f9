-- A block is a bridge or a cycle; and what holds of each node holds of each block.
use Rattle.std.proofs.Common.{◌≡◌, ◌⊎◌, inl, inr, List, [], ◌∷◌, sym, subst}
use Rattle.std.specs.List.{AllByRecursion}
use Rattle.std.specs.declared.boxed.Box.{Box}
use Rattle.std.specs.declared.alloc.Global.{Global}
use Rattle.rooted_cactus.specs.Trees.{blocks, nodes_in}
use Rattle.rooted_cactus.specs.declared.tree.Node.{Node}
use Rattle.rooted_cactus.specs.declared.tree.Block.{Block, out-Block, roll-out-Block}
use Rattle.rooted_cactus.specs.declared.tree.Blocks.{Blocks}
use Rattle.rooted_cactus.specs.declared.tree.Children.{Children}
use Rattle.rooted_cactus.specs.declared.tree.Block.TheVariants.{Bridge, Cycle, rolls-Bridge, rolls-Cycle}
use Rattle.rooted_cactus.specs.declared.tree.Block.TheViews.{roll-Block}
use Rattle.rooted_cactus.specs.declared.tree.Block.TheOpen as Open
use Rattle.rooted_cactus.proofs.Induction.{tree_induction}

abbrev pub View : Block → Type 0
View b = ((child : Box Node Global) × (b ≡ Bridge child)) ⊎ ((nodes : Children) × (b ≡ Cycle nodes))

view_rolled : (y : Open.Block-F Block Blocks Children Node) → View (roll-Block y)
view_rolled (Open.Bridge child) = inl (child, rolls-Bridge child)
view_rolled (Open.Cycle nodes) = inr (nodes, rolls-Cycle nodes)

pub view : (b : Block) → View b
view b = subst View (roll-out-Block b) (view_rolled (out-Block b))

-- what holds of all holds of each element of a list
pub each : {X : Type 0} (P : X → Type 0) → ((x : X) → P x) → (xs : List X) → AllByRecursion P xs
each P h [] = tt
each P h (x ∷ xs) = (h x, each P h xs)

pub block_induction : (P : Node → Type 0) (Q : Block → Type 0) →
    ((x : Node) → AllByRecursion Q (blocks x) → P x) →
    ((child : Box Node Global) → P child.value → Q (Bridge child)) →
    ((nodes : Children) → AllByRecursion P (nodes_in nodes) → Q (Cycle nodes)) → (b : Block) → Q b
block_induction P Q node bridge cycle b = elim (view b) [
  | inl h ↦ subst Q (sym h.1) (bridge h.0 (tree_induction P Q node bridge cycle h.0.value))
  | inr h ↦ subst Q (sym h.1) (cycle h.0 (each P (tree_induction P Q node bridge cycle) (nodes_in h.0)))
]
