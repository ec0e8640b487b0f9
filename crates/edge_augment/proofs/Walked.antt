-- The end nodes that a walk through a tree has passed, and those that are still to be entered.
use Rattle.std.proofs.Common.{◌≡◌, ℕ, ◌==◌, Bool, false, List, [], ◌∷◌, ◌++◌, length, map, refl, ap, ◌∙◌, sym, arith}
use Rattle.std.specs.List.{flat_map}
use Rattle.std.proofs.lemmas.Bool.Decides.{nat_tests}
use Rattle.std.proofs.lemmas.List.{append-nil, append_assoc}
use Rattle.rooted_cactus.specs.Entries.{nodes_of}
use Rattle.rooted_cactus.specs.Trees.{vertices, blocks, nodes_in}
use Rattle.rooted_cactus.specs.declared.tree.Node.{Node}
use Rattle.rooted_cactus.specs.declared.tree.Block.{Block}
use Rattle.rooted_cactus.proofs.Orders.{in_order_map}
use Rattle.rooted_cactus.proofs.Walks.{by_nodes, read_stacked}
use Rattle.edge_augment.specs.Ends.{alone_if, leaves, block_leaves, leaves_of, ends_of, end_sets}
use Rattle.edge_augment.proofs.Leaves.{leaves_out, leaves_bridge, leaves_cycle}

abbrev Lists : Type 0
Lists = List (List ℕ)

-- the end nodes below a block, node by node
leaves_nodes : (b : Block) → block_leaves b ≡ flat_map leaves (nodes_of b)
leaves_nodes = by_nodes block_leaves (flat_map leaves) (λ child. leaves_bridge child ∙ sym (append-nil (leaves child.value))) (λ nodes. leaves_cycle nodes ∙ in_order_map leaves (nodes_in nodes))

-- ---- a node, and what is below it
left_out : (b : Bool) (own : List ℕ) (rest : Lists) → b ≡ false → alone_if b own ++ rest ≡ rest
left_out b own rest e = ap (λ c. alone_if c own ++ rest) e

leaves_by_blocks : (own : List ℕ) (bs : List Block) → leaves_of own (map block_leaves bs) ≡ alone_if (length bs == 0) own ++ flat_map block_leaves bs
leaves_by_blocks own [] = refl
leaves_by_blocks own (b ∷ bs) =
    let more : (length (b ∷ bs) == 0) ≡ false = grind (arith, nat_tests) in
    in_order_map block_leaves (b ∷ bs) ∙ sym (left_out (length (b ∷ bs) == 0) own (flat_map block_leaves (b ∷ bs)) more)

ends_by_blocks : (own : List ℕ) (bs : List Block) → ends_of own (map block_leaves bs) ≡ alone_if (length bs == 1) own ++ flat_map block_leaves bs
ends_by_blocks own [] = refl
ends_by_blocks own (b ∷ []) = ap (λ l. own ∷ l) (sym (append-nil (block_leaves b)))
ends_by_blocks own (b ∷ (c ∷ cs)) =
    let more : (length (b ∷ (c ∷ cs)) == 1) ≡ false = grind (arith, nat_tests) in
    in_order_map block_leaves (b ∷ (c ∷ cs)) ∙ sym (left_out (length (b ∷ (c ∷ cs)) == 1) own (flat_map block_leaves (b ∷ (c ∷ cs))) more)

-- the root is taken if it has one block, and what is below it is put on the empty stack
pub begun : (root : Node) (ends : Lists) (after : List Node) → ends ≡ [] ++ alone_if (length (blocks root) == 1) (vertices root) → after ≡ flat_map nodes_of (blocks root) ++ [] → ends ++ flat_map leaves after ≡ end_sets root
begun root ends after e a =
    let below = read_stacked leaves block_leaves leaves_nodes (blocks root) after [] a in
    ap (λ l. l ++ flat_map leaves after) e ∙ ap (λ l. alone_if (length (blocks root) == 1) (vertices root) ++ l) (below ∙ append-nil (flat_map block_leaves (blocks root)))
    ∙ sym (ends_by_blocks (vertices root) (blocks root))

-- a node is taken from the stack, it is kept if it is a leaf, and what is below it put there
pub passed : (x : Node) (kept more : Lists) (before after rest : List Node) → before ≡ x ∷ rest → after ≡ flat_map nodes_of (blocks x) ++ rest → more ≡ kept ++ alone_if (length (blocks x) == 0) (vertices x) →
    more ++ flat_map leaves after ≡ kept ++ flat_map leaves before
passed x kept more before after rest b a m =
    let here = alone_if (length (blocks x) == 0) (vertices x) in
    let below = flat_map block_leaves (blocks x) in
    let left = flat_map leaves rest in
    ap (λ l. l ++ flat_map leaves after) m ∙ append_assoc kept here (flat_map leaves after) ∙ ap (λ l. kept ++ (here ++ l)) (read_stacked leaves block_leaves leaves_nodes (blocks x) after rest a)
    ∙ ap (λ l. kept ++ l) (sym (append_assoc here below left) ∙ ap (λ l. l ++ left) (sym (leaves_out x ∙ leaves_by_blocks (vertices x) (blocks x))) ∙ sym (ap (flat_map leaves) b))
