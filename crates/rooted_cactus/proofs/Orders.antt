-- The equations of the order of entering.
use Rattle.std.proofs.Common.{◌≡◌, ℕ, List, [], ◌∷◌, ◌++◌, map, ap, ◌∙◌, sym}
use Rattle.std.specs.List.{flat_map}
use Rattle.std.proofs.lemmas.List.{append-nil}
use Rattle.std.proofs.lemmas.List.Concat.{flat_map-append}
use Rattle.std.specs.declared.boxed.Box.{Box}
use Rattle.std.specs.declared.alloc.Global.{Global}
use Rattle.rooted_cactus.specs.Entered.{entered, entered_block, in_order, entered_block_step, entered_blocks_step, entered_children_step, entered_node_step}
use Rattle.rooted_cactus.specs.Trees.{vertices, blocks, nodes_in}
use Rattle.rooted_cactus.specs.declared.tree.Node.{Node, out-Node}
use Rattle.rooted_cactus.specs.declared.tree.Block.{Block}
use Rattle.rooted_cactus.specs.declared.tree.Children.{Children}
use Rattle.rooted_cactus.specs.declared.tree.Block.TheVariants.{Bridge, Cycle, rolls-Bridge, rolls-Cycle}
use Rattle.rooted_cactus.specs.declared.tree.Block.TheOpen as Open
use Rattle.rooted_cactus.specs.declared.tree.Block.TheFolds.{fold_out-Node, fold_out-Blocks, fold_out-Children, fold-roll-Block, fold-Block, fold-Node}

abbrev Lists : Type 0
Lists = List (List ℕ)

pub in_order_map : {X : Type 0} (f : X → List (List ℕ)) (xs : List X) → in_order (map f xs) ≡ flat_map f xs
in_order_map f [] = λ i. []
in_order_map f (x ∷ xs) = ap (λ l. f x ++ l) (in_order_map f xs)

pub entered_out : (x : Node) → entered x ≡ vertices x ∷ flat_map entered_block (blocks x)
unfolding entered entered_block
entered_out x = fold_out-Node Lists Lists Lists Lists entered_block_step entered_blocks_step entered_children_step entered_node_step x
    ∙ ap (λ l. vertices x ∷ l) (fold_out-Blocks Lists Lists Lists Lists entered_block_step entered_blocks_step entered_children_step entered_node_step (out-Node x).blocks
    ∙ in_order_map (fold-Block Lists Lists Lists Lists entered_block_step entered_blocks_step entered_children_step entered_node_step) (blocks x))

pub entered_bridge : (child : Box Node Global) → entered_block (Bridge child) ≡ entered child.value
unfolding entered entered_block
entered_bridge child = ap (fold-Block Lists Lists Lists Lists entered_block_step entered_blocks_step entered_children_step entered_node_step) (sym (rolls-Bridge child))
    ∙ fold-roll-Block Lists Lists Lists Lists entered_block_step entered_blocks_step entered_children_step entered_node_step (Open.Bridge child)

pub entered_cycle : (nodes : Children) → entered_block (Cycle nodes) ≡ flat_map entered (nodes_in nodes)
unfolding entered entered_block
entered_cycle nodes = ap (fold-Block Lists Lists Lists Lists entered_block_step entered_blocks_step entered_children_step entered_node_step) (sym (rolls-Cycle nodes))
    ∙ fold-roll-Block Lists Lists Lists Lists entered_block_step entered_blocks_step entered_children_step entered_node_step (Open.Cycle nodes)
    ∙ fold_out-Children Lists Lists Lists Lists entered_block_step entered_blocks_step entered_children_step entered_node_step nodes
    ∙ in_order_map (fold-Node Lists Lists Lists Lists entered_block_step entered_blocks_step entered_children_step entered_node_step) (nodes_in nodes)

-- one more block at the end of a node's list
pub hung_entered : (x y : Node) (b : Block) → vertices y ≡ vertices x → blocks y ≡ blocks x ++ b ∷ [] → entered y ≡ entered x ++ entered_block b
hung_entered x y b e f =
    let below : flat_map entered_block (blocks x ++ b ∷ []) ≡ flat_map entered_block (blocks x) ++ entered_block b =
    flat_map-append entered_block (blocks x) (b ∷ []) ∙ ap (λ l. flat_map entered_block (blocks x) ++ l) (append-nil (entered_block b)) in
    entered_out y
    ∙ ap (λ l. l ∷ flat_map entered_block (blocks y)) e
    ∙ ap (λ bs. vertices x ∷ flat_map entered_block bs) f
    ∙ ap (λ l. vertices x ∷ l) below
    ∙ ap (λ l. l ++ entered_block b) (sym (entered_out x))
