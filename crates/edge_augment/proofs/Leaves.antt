-- The equations of the end nodes of a tree, and the sets of the end nodes among those of all nodes.
use Rattle.std.proofs.Common.{◌≡◌, ℕ, zero, suc, ◌+◌, ◌≤◌, ◌<◌, inl, inr, Bool, true, List, [], ◌∷◌, ◌++◌, length, map, get_or, ap, ◌∙◌, sym, subst, refl, arith, append-nil}
use Rattle.std.specs.Prelude.{if◌then◌else◌}
use Rattle.std.specs.List.{AllByRecursion, flat_map}
use Rattle.std.specs.declared.boxed.Box.{Box}
use Rattle.std.specs.declared.alloc.Global.{Global}
use Rattle.std.proofs.lemmas.Bool.{cases_Bool}
use Rattle.cut_definitions.specs.Cuts.{has}
use Rattle.rooted_cactus.specs.Entered.{entered, entered_block, in_order}
use Rattle.rooted_cactus.specs.Rooted.{IsCactus}
use Rattle.rooted_cactus.specs.Trees.{vertices, blocks, nodes_in}
use Rattle.rooted_cactus.specs.declared.tree.Node.{Node, out-Node}
use Rattle.rooted_cactus.specs.declared.tree.Block.{Block}
use Rattle.rooted_cactus.specs.declared.tree.Children.{Children}
use Rattle.rooted_cactus.specs.declared.tree.Block.TheVariants.{Bridge, Cycle, rolls-Bridge, rolls-Cycle}
use Rattle.rooted_cactus.specs.declared.tree.Block.TheOpen as Open
use Rattle.rooted_cactus.specs.declared.tree.Block.TheFolds.{fold_out-Node, fold_out-Blocks, fold_out-Children, fold-roll-Block, fold-Block}
use Rattle.rooted_cactus.proofs.Orders.{entered_out, entered_bridge, entered_cycle}
use Rattle.edge_augment.specs.Ends.{leaves, block_leaves, leaves_of, ends_of, end_sets, leaves_block_step, leaves_blocks_step, leaves_children_step, leaves_node_step}
use Rattle.edge_augment.specs.Laws.{LawOfDisjointSets}
use Rattle.rooted_cactus.proofs.Clean.{count, root_clean}
use Rattle.rooted_cactus.proofs.Views.{block_induction, each}

abbrev pub Lists : Type 0
Lists = List (List ℕ)

pub leaves_out : (x : Node) → leaves x ≡ leaves_of (vertices x) (map block_leaves (blocks x))
unfolding leaves block_leaves
leaves_out x = fold_out-Node Lists (List Lists) Lists Lists leaves_block_step leaves_blocks_step leaves_children_step leaves_node_step x
    ∙ ap (leaves_of (vertices x)) (fold_out-Blocks Lists (List Lists) Lists Lists leaves_block_step leaves_blocks_step leaves_children_step leaves_node_step (out-Node x).blocks)

pub leaves_bridge : (child : Box Node Global) → block_leaves (Bridge child) ≡ leaves child.value
unfolding leaves block_leaves
leaves_bridge child = ap (fold-Block Lists (List Lists) Lists Lists leaves_block_step leaves_blocks_step leaves_children_step leaves_node_step) (sym (rolls-Bridge child))
    ∙ fold-roll-Block Lists (List Lists) Lists Lists leaves_block_step leaves_blocks_step leaves_children_step leaves_node_step (Open.Bridge child)

pub leaves_cycle : (nodes : Children) → block_leaves (Cycle nodes) ≡ in_order (map leaves (nodes_in nodes))
unfolding leaves block_leaves
leaves_cycle nodes = ap (fold-Block Lists (List Lists) Lists Lists leaves_block_step leaves_blocks_step leaves_children_step leaves_node_step) (sym (rolls-Cycle nodes))
    ∙ fold-roll-Block Lists (List Lists) Lists Lists leaves_block_step leaves_blocks_step leaves_children_step leaves_node_step (Open.Cycle nodes)
    ∙ fold_out-Children Lists (List Lists) Lists Lists leaves_block_step leaves_blocks_step leaves_children_step leaves_node_step nodes

-- ---- lists that are left of other lists, in their order
pub data IsLeft : Lists → Lists → Type 0 where
  none : IsLeft [] []
  drops : (l : List ℕ) (xs ys : Lists) → IsLeft xs ys → IsLeft xs (l ∷ ys)
  keeps : (l : List ℕ) (xs ys : Lists) → IsLeft xs ys → IsLeft (l ∷ xs) (l ∷ ys)

left_nothing : (ys : Lists) → IsLeft [] ys
left_nothing [] = none
left_nothing (y ∷ ys) = drops y [] ys (left_nothing ys)

left_both : (xs ys zs ws : Lists) → IsLeft xs ys → IsLeft zs ws → IsLeft (xs ++ zs) (ys ++ ws)
left_both xs ys zs ws none k = k
left_both xs ys zs ws (drops l ps qs h) k = drops l (ps ++ zs) (qs ++ ws) (left_both ps qs zs ws h k)
left_both xs ys zs ws (keeps l ps qs h) k = keeps l (ps ++ zs) (qs ++ ws) (left_both ps qs zs ws h k)

several_left : {X : Type 0} (f g : X → Lists) (xs : List X) → AllByRecursion (λ x. IsLeft (f x) (g x)) xs → IsLeft (in_order (map f xs)) (flat_map g xs)
several_left f g [] h = none
several_left f g (x ∷ xs) h = left_both (f x) (g x) (in_order (map f xs)) (flat_map g xs) h.0 (several_left f g xs h.1)

below_left : (own : List ℕ) (bs : List Block) → IsLeft (in_order (map block_leaves bs)) (flat_map entered_block bs) → IsLeft (leaves_of own (map block_leaves bs)) (own ∷ flat_map entered_block bs)
below_left own [] h = keeps own [] [] none
below_left own (b ∷ bs) h = drops own (in_order (map block_leaves (b ∷ bs))) (flat_map entered_block (b ∷ bs)) h

abbrev NodeLeft : Node → Type 0
NodeLeft x = IsLeft (leaves x) (entered x)

abbrev BlockLeft : Block → Type 0
BlockLeft b = IsLeft (block_leaves b) (entered_block b)

node_case : (x : Node) → AllByRecursion BlockLeft (blocks x) → NodeLeft x
node_case x h =
    let r = below_left (vertices x) (blocks x) (several_left block_leaves entered_block (blocks x) h) in
    subst (λ l. IsLeft l (entered x)) (sym (leaves_out x)) (subst (λ l. IsLeft (leaves_of (vertices x) (map block_leaves (blocks x))) l) (sym (entered_out x)) r)

bridge_case : (child : Box Node Global) → NodeLeft child.value → BlockLeft (Bridge child)
bridge_case child h =
    subst (λ l. IsLeft l (entered_block (Bridge child))) (sym (leaves_bridge child)) (subst (λ l. IsLeft (leaves child.value) l) (sym (entered_bridge child)) h)

cycle_case : (nodes : Children) → AllByRecursion NodeLeft (nodes_in nodes) → BlockLeft (Cycle nodes)
cycle_case nodes h =
    let r = several_left leaves entered (nodes_in nodes) h in
    subst (λ l. IsLeft l (entered_block (Cycle nodes))) (sym (leaves_cycle nodes)) (subst (λ l. IsLeft (in_order (map leaves (nodes_in nodes))) l) (sym (entered_cycle nodes)) r)

pub block_left : (b : Block) → IsLeft (block_leaves b) (entered_block b)
block_left = block_induction NodeLeft BlockLeft node_case bridge_case cycle_case

ends_left : (own : List ℕ) (bs : List Block) → IsLeft (ends_of own (map block_leaves bs)) (own ∷ flat_map entered_block bs)
ends_left own [] = left_nothing (own ∷ [])
ends_left own (b ∷ []) =
    keeps own (block_leaves b) (entered_block b ++ []) (subst (λ l. IsLeft (block_leaves b) l) (sym (append-nil (entered_block b))) (block_left b))
ends_left own (b ∷ (c ∷ cs)) =
    drops own (in_order (map block_leaves (b ∷ (c ∷ cs)))) (flat_map entered_block (b ∷ (c ∷ cs)))
    (several_left block_leaves entered_block (b ∷ (c ∷ cs)) (each BlockLeft block_left (b ∷ (c ∷ cs))))

-- the end nodes are some of the nodes, in the order of entering
pub end_sets_left : (root : Node) → IsLeft (end_sets root) (entered root)
end_sets_left root = subst (λ l. IsLeft (end_sets root) l) (sym (entered_out root)) (ends_left (vertices root) (blocks root))

-- ---- disjoint
abbrev pub first_of : Bool → ℕ
first_of b = if b then 1 else 0

pub count_more : (v : ℕ) (l : List ℕ) (ls : Lists) → count v (l ∷ ls) ≡ first_of (has l v) + count v ls
count_more v l ls = elim (cases_Bool (has l v)) [ inl e ↦ rw e (omega arith) | inr e ↦ rw e (omega arith) ]

pub left_count : (v : ℕ) (xs ys : Lists) → IsLeft xs ys → count v xs ≤ count v ys
left_count v xs ys none = omega arith
left_count v xs ys (drops l ps qs h) = omega (arith, count_more v l qs, left_count v ps qs h)
left_count v xs ys (keeps l ps qs h) = omega (arith, count_more v l qs, count_more v l ps, left_count v ps qs h)

count_at : (v : ℕ) (xs : Lists) (j : ℕ) (d : List ℕ) → j < length xs → has (get_or xs j d) v ≡ true → 1 ≤ count v xs
count_at v [] j d k h = absurd (omega (arith, k))
count_at v (x ∷ xs) zero d k h =
    let one : first_of (has x v) ≡ 1 = rw h refl in
    omega (arith, one, count_more v x xs)
count_at v (x ∷ xs) (suc j) d k h = omega (arith, count_more v x xs, count_at v xs j d (omega (arith, k)) h)

pub count_twice : (v : ℕ) (xs : Lists) (i j : ℕ) (d : List ℕ) → i < j → j < length xs → has (get_or xs i d) v ≡ true → has (get_or xs j d) v ≡ true → 2 ≤ count v xs
count_twice v [] i j d l k h g = absurd (omega (arith, k))
count_twice v (x ∷ xs) i zero d l k h g = absurd (omega (arith, l))
count_twice v (x ∷ xs) zero (suc j) d l k h g =
    let one : first_of (has x v) ≡ 1 = rw h refl in
    omega (arith, one, count_more v x xs, count_at v xs j d (omega (arith, k)) g)
count_twice v (x ∷ xs) (suc i) (suc j) d l k h g = omega (arith, count_more v x xs, count_twice v xs i j d (omega (arith, l)) (omega (arith, k)) h g)

pub ends_once : (n : ℕ) (root : Node) → IsCactus n root → (v : ℕ) → count v (end_sets root) ≤ 1
ends_once n root h v = omega (arith, left_count v (end_sets root) (entered root) (end_sets_left root), (root_clean n root h).once v)

pub disjoint_sets : LawOfDisjointSets
disjoint_sets n root h i j d l k v a b = omega (arith, ends_once n root h v, count_twice v (end_sets root) i j d l k a b)
