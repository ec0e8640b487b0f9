-- The equations of the shape of a tree.
use Rattle.std.proofs.Common.{ne_eqb, ◌≡◌, ℕ, Bool, true, false, ◌&&◌, ◌==◌, ◌≤◌, arith, List, ◌∷◌, length, map, ap, ◌∙◌, sym}
use Rattle.std.specs.Prelude.{nat_le}
use Rattle.std.specs.List.{list_all, Contains}
use Rattle.std.proofs.lemmas.Simd.{map-map}
use Rattle.std.proofs.lemmas.List.{length-map}
use Rattle.std.proofs.lemmas.List.Folds.{list_all-map}
use Rattle.std.specs.declared.boxed.Box.{Box}
use Rattle.std.specs.declared.alloc.Global.{Global}
use Rattle.std.proofs.lemmas.Bool.{le-leb}
use Rattle.rooted_cactus.specs.Normal.{NodeShape, BlockShape, shape, block_shape, child_fine, well_placed, is_normal, shape_block_step, shape_blocks_step, shape_children_step, shape_node_step}
use Rattle.rooted_cactus.specs.Trees.{vertices, blocks, nodes_in}
use Rattle.rooted_cactus.specs.declared.tree.Node.{Node, out-Node}
use Rattle.rooted_cactus.specs.declared.tree.Children.{Children}
use Rattle.rooted_cactus.specs.declared.tree.Block.TheVariants.{Bridge, Cycle, rolls-Bridge, rolls-Cycle}
use Rattle.rooted_cactus.specs.declared.tree.Block.TheOpen as Open
use Rattle.rooted_cactus.specs.declared.tree.Block.TheFolds.{fold_out-Node, fold_out-Blocks, fold_out-Children, fold-roll-Block, fold-Block}

abbrev shape_with : List ℕ → List BlockShape → NodeShape
shape_with l bs = record { is_empty = length l == 0; cycles = map (λ (b : BlockShape). b.is_cycle) bs; fine = list_all (λ (b : BlockShape). b.fine) bs }

pub shape_out : (x : Node) → shape x ≡ shape_with (vertices x) (map block_shape (blocks x))
unfolding shape block_shape
shape_out x = fold_out-Node BlockShape (List BlockShape) (List NodeShape) NodeShape shape_block_step shape_blocks_step shape_children_step shape_node_step x
    ∙ ap (shape_with (vertices x)) (fold_out-Blocks BlockShape (List BlockShape) (List NodeShape) NodeShape shape_block_step shape_blocks_step shape_children_step shape_node_step (out-Node x).blocks)

pub bridge_shape : (child : Box Node Global) → block_shape (Bridge child) ≡ record { is_cycle = false; fine = child_fine false (shape child.value) }
unfolding shape block_shape
bridge_shape child = ap (fold-Block BlockShape (List BlockShape) (List NodeShape) NodeShape shape_block_step shape_blocks_step shape_children_step shape_node_step) (sym (rolls-Bridge child))
    ∙ fold-roll-Block BlockShape (List BlockShape) (List NodeShape) NodeShape shape_block_step shape_blocks_step shape_children_step shape_node_step (Open.Bridge child)

abbrev cycle_with : List NodeShape → BlockShape
cycle_with xs = record { is_cycle = true; fine = nat_le 2 (length xs) && list_all (child_fine true) xs }

pub cycle_shape : (nodes : Children) → block_shape (Cycle nodes) ≡ cycle_with (map shape (nodes_in nodes))
unfolding shape block_shape
cycle_shape nodes = ap (fold-Block BlockShape (List BlockShape) (List NodeShape) NodeShape shape_block_step shape_blocks_step shape_children_step shape_node_step) (sym (rolls-Cycle nodes))
    ∙ fold-roll-Block BlockShape (List BlockShape) (List NodeShape) NodeShape shape_block_step shape_blocks_step shape_children_step shape_node_step (Open.Cycle nodes)
    ∙ ap cycle_with (fold_out-Children BlockShape (List BlockShape) (List NodeShape) NodeShape shape_block_step shape_blocks_step shape_children_step shape_node_step nodes)

pub node_fine : (x : Node) → (shape x).fine ≡ list_all (λ b. (block_shape b).fine) (blocks x)
node_fine x = ap (λ s. s.fine) (shape_out x) ∙ list_all-map (λ (b : BlockShape). b.fine) block_shape (blocks x)

pub node_cycles : (x : Node) → (shape x).cycles ≡ map (λ b. (block_shape b).is_cycle) (blocks x)
node_cycles x = ap (λ s. s.cycles) (shape_out x) ∙ map-map _ _ (blocks x)

pub node_empty : (x : Node) → (shape x).is_empty ≡ (length (vertices x) == 0)
node_empty x = ap (λ s. s.is_empty) (shape_out x)

pub cycle_fine : (nodes : Children) → (block_shape (Cycle nodes)).fine ≡ (nat_le 2 (length (map shape (nodes_in nodes))) && list_all (λ x. child_fine true (shape x)) (nodes_in nodes))
cycle_fine nodes = ap (λ s. s.fine) (cycle_shape nodes) ∙ ap (λ b. nat_le 2 (length (map shape (nodes_in nodes))) && b) (list_all-map (child_fine true) shape (nodes_in nodes))

pub length_shapes : (xs : List Node) → length (map shape xs) ≡ length xs
length_shapes xs = length-map xs shape

-- a cycle with children enough is as they are
pub wide_fine : (nodes : Children) → 2 ≤ length (nodes_in nodes) → (block_shape (Cycle nodes)).fine ≡ list_all (λ x. child_fine true (shape x)) (nodes_in nodes)
wide_fine nodes h =
    let yes : nat_le 2 (length (map shape (nodes_in nodes))) ≡ true = le-leb 2 _ (omega (arith, length_shapes (nodes_in nodes))) in
    cycle_fine nodes ∙ ap (λ b. b && list_all (λ x. child_fine true (shape x)) (nodes_in nodes)) yes

pub child_parts : (above : Bool) (x : Node) → child_fine above (shape x) ≡ (well_placed (length (vertices x) == 0) (above ∷ map (λ b. (block_shape b).is_cycle) (blocks x)) && list_all (λ b. (block_shape b).fine) (blocks x))
child_parts above x =
    ap (λ e. well_placed e (above ∷ (shape x).cycles) && (shape x).fine) (node_empty x)
    ∙ ap (λ cs. well_placed (length (vertices x) == 0) (above ∷ cs) && (shape x).fine) (node_cycles x)
    ∙ ap (λ f. well_placed (length (vertices x) == 0) (above ∷ map (λ b. (block_shape b).is_cycle) (blocks x)) && f) (node_fine x)

-- a root that has a vertex is well placed
pub root_normal : (x : Node) (v : ℕ) → Contains (vertices x) v → is_normal x ≡ list_all (λ b. (block_shape b).fine) (blocks x)
root_normal x v h =
    let some : (length (vertices x) == 0) ≡ false = ne_eqb (length (vertices x)) 0 (λ e. omega (arith, h.1, e)) in
    ap (λ e. well_placed e (shape x).cycles && (shape x).fine) (node_empty x ∙ some) ∙ node_fine x
