-- Each cut of a tree is the range of nodes that its layout states.
use Rattle.std.proofs.Common.{◌≡◌, ℕ, ◌+◌, ◌<◌, List, [], ◌∷◌, ◌++◌, length, map, sym, ◌∙◌, ap, subst, arith}
use Rattle.std.specs.List.{All}
use Rattle.std.proofs.lemmas.List.{append-nil}
use Rattle.std.specs.declared.boxed.Box.{Box}
use Rattle.std.specs.declared.alloc.Global.{Global}
use Rattle.rooted_cactus.specs.Sides.{Part, part, cuts, block_step, blocks_step, children_step, node_step}
use Rattle.rooted_cactus.specs.Entered.{entered, in_order, entered_block_step, entered_blocks_step, entered_children_step, entered_node_step}
use Rattle.rooted_cactus.specs.CutRanges.{Layout, IsRangeWithin, layout, block_layout, bridge_layout, cycle_layout, side_by_side, size_of, cut_ranges, block_layout_step, blocks_layout_step, children_layout_step, node_layout_step, node_layout}
use Rattle.rooted_cactus.proofs.Laid.{IsLaid, AreLaid, AreSome, no_more, one_more, none, more, set_at, together_laid, cycle_laid, bridge_laid, node_laid, inner_within}
use Rattle.rooted_cactus.specs.Trees.{blocks, nodes_in}
use Rattle.rooted_cactus.specs.declared.tree.Node.{Node, out-Node}
use Rattle.rooted_cactus.specs.declared.tree.Block.TheVariants.{Bridge, Cycle, rolls-Bridge, rolls-Cycle}
use Rattle.rooted_cactus.specs.declared.tree.Block.{Block}
use Rattle.rooted_cactus.specs.declared.tree.Blocks.{Blocks}
use Rattle.rooted_cactus.specs.declared.tree.Children.{Children}
use Rattle.rooted_cactus.specs.declared.tree.Block.TheViews.{roll-Node, roll-Block, roll-Blocks, roll-Children}
use Rattle.rooted_cactus.specs.declared.tree.Block.TheOpen as Open
use Rattle.rooted_cactus.specs.declared.tree.Block.TheFolds.{map-Block, ind-Node, fold_out-Node, fold_out-Blocks, fold_out-Children, fold-Block, fold-roll-Node, fold-roll-Block, fold-roll-Blocks, fold-roll-Children}
use Rattle.rooted_cactus.proofs.Folds.{Lists, part_of_block, part_of_blocks, parts_of_children, layout_of_block, layout_of_blocks, layouts_of_children, lists_of_block, lists_of_blocks, lists_of_children}

abbrev BlockLaid : Block → Type 0
BlockLaid b = IsLaid (part_of_block b) (layout_of_block b) (lists_of_block b)

abbrev BlocksLaid : Blocks → Type 0
BlocksLaid b = IsLaid (part_of_blocks b) (layout_of_blocks b) (lists_of_blocks b)

record ChildrenLaid (c : Children) : Type 0 where
  each : List Lists
  laid : AreLaid (parts_of_children c) (layouts_of_children c) each
  some : AreSome (layouts_of_children c)
  whole : lists_of_children c ≡ in_order each

-- a node is laid out, has a number, and the ranges of its cuts come behind that
record NodeLaid (x : Node) : Type 0 where
  laid : IsLaid (part x) (layout x) (entered x)
  some : 0 < (layout x).size
  inside : (k : ℕ) → All (IsRangeWithin (k + 1) (k + (layout x).size)) ((layout x).ranges k)

laid_along : (p p' : Part) (q q' : Layout) (l l' : Lists) → p ≡ p' → q ≡ q' → l ≡ l' → IsLaid p' q' l' → IsLaid p q l
laid_along p p' q q' l l' e f g h = subst (λ r. IsLaid r q l) (sym e) (subst (λ r. IsLaid p' r l) (sym f) (subst (IsLaid p' q') (sym g) h))

-- values, each with a proof
each_laid : {X : Type 0} (P : X → Type 0) (f : X → Part) (g : X → Layout) (e : X → Lists) → ((x : X) → P x → IsLaid (f x) (g x) (e x)) → (ys : List ((x : X) × P x)) → AreLaid (map f (map (λ y. y.0) ys)) (map g (map (λ y. y.0) ys)) (map e (map (λ y. y.0) ys))
each_laid P f g e h [] = none
each_laid P f g e h (y ∷ ys) =
    more (f y.0) (map f (map (λ z. z.0) ys)) (g y.0) (map g (map (λ z. z.0) ys)) (e y.0) (map e (map (λ z. z.0) ys)) (h y.0 y.1) (each_laid P f g e h ys)

each_some : (ys : List ((y : Node) × NodeLaid y)) → AreSome (map layout (map (λ y. y.0) ys))
each_some [] = no_more
each_some (y ∷ ys) = one_more (layout y.0) (map layout (map (λ z. z.0) ys)) y.1.some (each_some ys)

layout_rolled : (x : Open.Node-F Block Blocks Children Node) → layout (roll-Node x) ≡ node_layout (layout_of_blocks x.blocks)
unfolding layout
layout_rolled x = fold-roll-Node Layout Layout (List Layout) Layout block_layout_step blocks_layout_step children_layout_step node_layout_step x

node_case : (x : Open.Node-F Block Blocks Children Node) → BlocksLaid x.blocks → NodeLaid (roll-Node x)
unfolding part entered
node_case x b = record {
  laid = laid_along _ _ _ _ _ _
      (fold-roll-Node Part Part (List Part) Part block_step blocks_step children_step node_step x)
      (layout_rolled x)
      (fold-roll-Node Lists Lists Lists Lists entered_block_step entered_blocks_step entered_children_step entered_node_step x)
      (node_laid x.vertices (part_of_blocks x.blocks) (layout_of_blocks x.blocks) (lists_of_blocks x.blocks) b);
  some = let e : (layout (roll-Node x)).size ≡ (layout_of_blocks x.blocks).size + 1 = ap (λ (q : Layout). q.size) (layout_rolled x) in omega (arith, e);
  inside = λ k. subst (λ (q : Layout). All (IsRangeWithin (k + 1) (k + q.size)) (q.ranges k)) (sym (layout_rolled x)) (inner_within (layout_of_blocks x.blocks) k (b.within (k + 1)));
}

blocks_case : (x : Open.Blocks-F Block Blocks Children Node) (ys : List ((b : Block) × BlockLaid b)) → map (λ y. y.0) ys ≡ x.items.items → BlocksLaid (roll-Blocks x)
blocks_case x ys e =
    let laid : AreLaid (map part_of_block x.items.items) (map layout_of_block x.items.items) (map lists_of_block x.items.items) =
    subst (λ l. AreLaid (map part_of_block l) (map layout_of_block l) (map lists_of_block l)) e (each_laid BlockLaid part_of_block layout_of_block lists_of_block (λ b p. p) ys) in
    laid_along _ _ _ _ _ _
    (fold-roll-Blocks Part Part (List Part) Part block_step blocks_step children_step node_step x)
    (fold-roll-Blocks Layout Layout (List Layout) Layout block_layout_step blocks_layout_step children_layout_step node_layout_step x)
    (fold-roll-Blocks Lists Lists Lists Lists entered_block_step entered_blocks_step entered_children_step entered_node_step x)
    (together_laid (map part_of_block x.items.items) (map layout_of_block x.items.items) (map lists_of_block x.items.items) laid)

children_case : (x : Open.Children-F Block Blocks Children Node) (ys : List ((y : Node) × NodeLaid y)) → map (λ y. y.0) ys ≡ x.items.items → ChildrenLaid (roll-Children x)
unfolding part layout entered
children_case x ys e =
    let laid : AreLaid (map part x.items.items) (map layout x.items.items) (map entered x.items.items) =
    subst (λ l. AreLaid (map part l) (map layout l) (map entered l)) e (each_laid NodeLaid part layout entered (λ y p. p.laid) ys) in
    let some : AreSome (map layout x.items.items) = subst (λ l. AreSome (map layout l)) e (each_some ys) in
    let parts : parts_of_children (roll-Children x) ≡ map part x.items.items = fold-roll-Children Part Part (List Part) Part block_step blocks_step children_step node_step x in
    let layouts : layouts_of_children (roll-Children x) ≡ map layout x.items.items = fold-roll-Children Layout Layout (List Layout) Layout block_layout_step blocks_layout_step children_layout_step node_layout_step x in
    record {
      each = map entered x.items.items;
      laid = subst (λ l. AreLaid l (layouts_of_children (roll-Children x)) (map entered x.items.items)) (sym parts) (subst (λ l. AreLaid (map part x.items.items) l (map entered x.items.items)) (sym layouts) laid);
      some = subst AreSome (sym layouts) some;
      whole = fold-roll-Children Lists Lists Lists Lists entered_block_step entered_blocks_step entered_children_step entered_node_step x;
    }

bridge_case : (child : Box Node Global) → NodeLaid child.value → BlockLaid (roll-Block (Open.Bridge child))
unfolding part layout entered
bridge_case child p =
    laid_along _ _ _ _ _ _
    (fold-roll-Block Part Part (List Part) Part block_step blocks_step children_step node_step (Open.Bridge child))
    (fold-roll-Block Layout Layout (List Layout) Layout block_layout_step blocks_layout_step children_layout_step node_layout_step (Open.Bridge child))
    (fold-roll-Block Lists Lists Lists Lists entered_block_step entered_blocks_step entered_children_step entered_node_step (Open.Bridge child))
    (bridge_laid (part child.value) (layout child.value) (entered child.value) p.laid p.some)

cycle_case : (nodes : Children) → ChildrenLaid nodes → BlockLaid (roll-Block (Open.Cycle nodes))
cycle_case nodes c =
    laid_along _ _ _ _ _ _
    (fold-roll-Block Part Part (List Part) Part block_step blocks_step children_step node_step (Open.Cycle nodes))
    (fold-roll-Block Layout Layout (List Layout) Layout block_layout_step blocks_layout_step children_layout_step node_layout_step (Open.Cycle nodes))
    (fold-roll-Block Lists Lists Lists Lists entered_block_step entered_blocks_step entered_children_step entered_node_step (Open.Cycle nodes) ∙ c.whole)
    (cycle_laid (parts_of_children nodes) (layouts_of_children nodes) c.each c.laid c.some)

abbrev Proved : Type 0
Proved = Open.Block-F ((b : Block) × BlockLaid b) ((b : Blocks) × BlocksLaid b) ((c : Children) × ChildrenLaid c) ((y : Node) × NodeLaid y)

block_case : (x : Open.Block-F Block Blocks Children Node) (y : Proved) → map-Block ((b : Block) × BlockLaid b) ((b : Blocks) × BlocksLaid b) ((c : Children) × ChildrenLaid c) ((y : Node) × NodeLaid y) Block Blocks Children Node (λ e. e.0) (λ e. e.0) (λ e. e.0) (λ e. e.0) y ≡ x → BlockLaid (roll-Block x)
block_case x (Open.Bridge b) is =
    let child : Box Node Global = record { ptr = b.ptr; alloc = b.alloc; value = b.value.0 } in
    subst (λ z. BlockLaid (roll-Block z)) is (bridge_case child b.value.1)
block_case x (Open.Cycle c) is = subst (λ z. BlockLaid (roll-Block z)) is (cycle_case c.0 c.1)

laid_out : (x : Node) → NodeLaid x
laid_out x = ind-Node BlockLaid BlocksLaid ChildrenLaid NodeLaid
    (λ y z is. block_case y z is)
    (λ y z is. blocks_case y z.items.items (ap (λ w. w.items.items) is))
    (λ y z is. children_case y z.items.items (ap (λ w. w.items.items) is))
    (λ y z is. node_case y (subst (λ w. BlocksLaid w.blocks) is z.blocks.1))
    x

-- the number of the nodes of a tree
pub size_is : (x : Node) → size_of x ≡ length (entered x)
size_is x = (laid_out x).laid.size

-- each cut of a tree has the vertices of the nodes of its range, wherever the nodes of the tree stand in a list
pub cuts_within : (x : Node) (before behind : Lists) → cuts x ≡ map (set_at (before ++ (entered x ++ behind))) (cut_ranges x (length before))
cuts_within x before behind = (laid_out x).laid.cuts before behind

-- each cut of a tree has the vertices of the nodes of its range
pub cuts_are_ranges : (x : Node) → cuts x ≡ map (set_at (entered x)) (cut_ranges x 0)
cuts_are_ranges x = cuts_within x [] [] ∙ ap (λ l. map (set_at l) (cut_ranges x 0)) (append-nil (entered x))

-- no range has the root, and none is empty
pub ranges_within : (x : Node) (k : ℕ) → All (IsRangeWithin (k + 1) (k + size_of x)) (cut_ranges x k)
ranges_within x k = (laid_out x).inside k

-- ---- the equations
pub layout_out : (x : Node) → layout x ≡ node_layout (side_by_side (map block_layout (blocks x)))
unfolding layout block_layout
layout_out x = fold_out-Node Layout Layout (List Layout) Layout block_layout_step blocks_layout_step children_layout_step node_layout_step x
    ∙ ap node_layout (fold_out-Blocks Layout Layout (List Layout) Layout block_layout_step blocks_layout_step children_layout_step node_layout_step (out-Node x).blocks)

pub layout_bridge : (child : Box Node Global) → block_layout (Bridge child) ≡ bridge_layout (layout child.value)
unfolding layout block_layout
layout_bridge child = ap (fold-Block Layout Layout (List Layout) Layout block_layout_step blocks_layout_step children_layout_step node_layout_step) (sym (rolls-Bridge child))
    ∙ fold-roll-Block Layout Layout (List Layout) Layout block_layout_step blocks_layout_step children_layout_step node_layout_step (Open.Bridge child)

pub layout_cycle : (nodes : Children) → block_layout (Cycle nodes) ≡ cycle_layout (map layout (nodes_in nodes))
unfolding layout block_layout
layout_cycle nodes = ap (fold-Block Layout Layout (List Layout) Layout block_layout_step blocks_layout_step children_layout_step node_layout_step) (sym (rolls-Cycle nodes))
    ∙ fold-roll-Block Layout Layout (List Layout) Layout block_layout_step blocks_layout_step children_layout_step node_layout_step (Open.Cycle nodes)
    ∙ ap cycle_layout (fold_out-Children Layout Layout (List Layout) Layout block_layout_step blocks_layout_step children_layout_step node_layout_step nodes)
