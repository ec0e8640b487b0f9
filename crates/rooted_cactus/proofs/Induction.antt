-- Induction over a tree. If a fact holds for a node whenever it holds for the blocks below it, and for a block whenever it
-- holds for its nodes, then it holds for each node.
use Rattle.std.proofs.Common.{◌≡◌, List, [], ◌∷◌, map, sym, ap, subst}
use Rattle.std.specs.List.{AllByRecursion}
use Rattle.std.specs.declared.boxed.Box.{Box}
use Rattle.std.specs.declared.alloc.Global.{Global}
use Rattle.rooted_cactus.specs.Trees.{blocks, blocks_in, nodes_in}
use Rattle.rooted_cactus.specs.declared.tree.Node.{Node, out-roll-Node}
use Rattle.rooted_cactus.specs.declared.tree.Block.{Block}
use Rattle.rooted_cactus.specs.declared.tree.Blocks.{Blocks, out-roll-Blocks}
use Rattle.rooted_cactus.specs.declared.tree.Children.{Children, out-roll-Children}
use Rattle.rooted_cactus.specs.declared.tree.Block.TheVariants.{Bridge, Cycle, rolls-Bridge, rolls-Cycle}
use Rattle.rooted_cactus.specs.declared.tree.Block.TheViews.{roll-Node, roll-Block, roll-Blocks, roll-Children}
use Rattle.rooted_cactus.specs.declared.tree.Block.TheOpen as Open
use Rattle.rooted_cactus.specs.declared.tree.Block.TheFolds.{map-Block, ind-Node}

each_of : {X : Type 0} (P : X → Type 0) (ys : List ((x : X) × P x)) → AllByRecursion P (map (λ y. y.0) ys)
each_of P [] = tt
each_of P (y ∷ ys) = (y.1, each_of P ys)

module _ (P : Node → Type 0) (Q : Block → Type 0)
    (node : (x : Node) → AllByRecursion Q (blocks x) → P x)
    (bridge : (child : Box Node Global) → P child.value → Q (Bridge child))
    (cycle : (nodes : Children) → AllByRecursion P (nodes_in nodes) → Q (Cycle nodes)) where
  abbrev OfBlocks : Blocks → Type 0
  OfBlocks b = AllByRecursion Q (blocks_in b)

  abbrev OfChildren : Children → Type 0
  OfChildren c = AllByRecursion P (nodes_in c)

  node_case : (x : Open.Node-F Block Blocks Children Node) → OfBlocks x.blocks → P (roll-Node x)
  node_case x h = node (roll-Node x) (subst (λ y. OfBlocks y.blocks) (sym (out-roll-Node x)) h)

  blocks_case : (x : Open.Blocks-F Block Blocks Children Node) (ys : List ((b : Block) × Q b)) → map (λ y. y.0) ys ≡ x.items.items → OfBlocks (roll-Blocks x)
  blocks_case x ys e = subst (λ y. AllByRecursion Q y.items.items) (sym (out-roll-Blocks x)) (subst (AllByRecursion Q) e (each_of Q ys))

  children_case : (x : Open.Children-F Block Blocks Children Node) (ys : List ((y : Node) × P y)) → map (λ y. y.0) ys ≡ x.items.items → OfChildren (roll-Children x)
  children_case x ys e = subst (λ y. AllByRecursion P y.items.items) (sym (out-roll-Children x)) (subst (AllByRecursion P) e (each_of P ys))

  abbrev Proved : Type 0
  Proved = Open.Block-F ((b : Block) × Q b) ((b : Blocks) × OfBlocks b) ((c : Children) × OfChildren c) ((y : Node) × P y)

  block_case : (x : Open.Block-F Block Blocks Children Node) (y : Proved) → map-Block ((b : Block) × Q b) ((b : Blocks) × OfBlocks b) ((c : Children) × OfChildren c) ((y : Node) × P y) Block Blocks Children Node (λ e. e.0) (λ e. e.0) (λ e. e.0) (λ e. e.0) y ≡ x → Q (roll-Block x)
  block_case x (Open.Bridge b) is =
      let child : Box Node Global = record { ptr = b.ptr; alloc = b.alloc; value = b.value.0 } in
      subst (λ z. Q (roll-Block z)) is (subst Q (sym (rolls-Bridge child)) (bridge child b.value.1))
  block_case x (Open.Cycle c) is = subst (λ z. Q (roll-Block z)) is (subst Q (sym (rolls-Cycle c.0)) (cycle c.0 c.1))

  pub tree_induction : (x : Node) → P x
  tree_induction x = ind-Node Q OfBlocks OfChildren P
      (λ y z is. block_case y z is)
      (λ y z is. blocks_case y z.items.items (ap (λ w. w.items.items) is))
      (λ y z is. children_case y z.items.items (ap (λ w. w.items.items) is))
      (λ y z is. node_case y (subst (λ w. OfBlocks w.blocks) is z.blocks.1))
      x
