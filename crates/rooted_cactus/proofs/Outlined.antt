-- The outline of a tree fits its layout and the sizes of its subtrees.
use Rattle.std.proofs.Common.{◌≡◌, ℕ, ◌+◌, List, [], ◌∷◌, ◌++◌, length, map, sym, ◌∙◌, ap, subst, refl, arith}
use Rattle.std.specs.List.{flat_map}
use Rattle.std.proofs.lemmas.List.{append-nil}
use Rattle.std.specs.declared.boxed.Box.{Box}
use Rattle.std.specs.declared.alloc.Global.{Global}
use Rattle.rooted_cactus.specs.Widths.{joined}
use Rattle.rooted_cactus.specs.CutRanges.{Layout, layout, block_layout_step, blocks_layout_step, children_layout_step, node_layout_step, cut_ranges}
use Rattle.rooted_cactus.specs.Outlines.{Outline, outline, block_outline, outlined, sizes, block_entries, all_outlines, block_outline_step, blocks_outline_step, children_outline_step, node_outline_step, sizes_block_step, sizes_blocks_step, sizes_children_step, sizes_node_step}
use Rattle.rooted_cactus.specs.Borders.{AllHop, all_borders, ranges_between}
use Rattle.rooted_cactus.proofs.Hops.{IsOutlined, AreEntries, AreOutlined, none, more, AreBlocks, no_block, one_block, cycle_entries, bridge_entries, blocks_entries, node_outlined, one_hops}
use Rattle.rooted_cactus.specs.Trees.{blocks, nodes_in}
use Rattle.rooted_cactus.specs.declared.tree.Node.{Node, out-Node}
use Rattle.rooted_cactus.specs.declared.tree.Block.{Block}
use Rattle.rooted_cactus.specs.declared.tree.Blocks.{Blocks}
use Rattle.rooted_cactus.specs.declared.tree.Children.{Children}
use Rattle.rooted_cactus.specs.declared.tree.Block.TheVariants.{Bridge, Cycle, rolls-Bridge, rolls-Cycle}
use Rattle.rooted_cactus.specs.declared.tree.Block.TheViews.{roll-Node, roll-Block, roll-Blocks, roll-Children}
use Rattle.rooted_cactus.specs.declared.tree.Block.TheOpen as Open
use Rattle.rooted_cactus.specs.declared.tree.Block.TheFolds.{map-Block, ind-Node, fold_out-Node, fold_out-Blocks, fold_out-Children, fold-Block, fold-Blocks, fold-Children, fold-roll-Node, fold-roll-Block, fold-roll-Blocks, fold-roll-Children}
use Rattle.rooted_cactus.proofs.Folds.{layout_of_block, layout_of_blocks, layouts_of_children}

abbrev Numbers : Type 0
Numbers = List ℕ

abbrev Outlines : Type 0
Outlines = List Outline

abbrev outline_of_block : Block → Outlines
outline_of_block = fold-Block Outlines (List Outlines) Outlines Outline block_outline_step blocks_outline_step children_outline_step node_outline_step

abbrev outline_of_blocks : Blocks → List Outlines
outline_of_blocks = fold-Blocks Outlines (List Outlines) Outlines Outline block_outline_step blocks_outline_step children_outline_step node_outline_step

abbrev outline_of_children : Children → Outlines
outline_of_children = fold-Children Outlines (List Outlines) Outlines Outline block_outline_step blocks_outline_step children_outline_step node_outline_step

abbrev sizes_of_block : Block → Numbers
sizes_of_block = fold-Block Numbers Numbers Numbers Numbers sizes_block_step sizes_blocks_step sizes_children_step sizes_node_step

abbrev sizes_of_blocks : Blocks → Numbers
sizes_of_blocks = fold-Blocks Numbers Numbers Numbers Numbers sizes_block_step sizes_blocks_step sizes_children_step sizes_node_step

abbrev sizes_of_children : Children → Numbers
sizes_of_children = fold-Children Numbers Numbers Numbers Numbers sizes_block_step sizes_blocks_step sizes_children_step sizes_node_step

abbrev BlockFits : Block → Type 0
BlockFits b = AreEntries (length (outline_of_block b)) (block_entries (outline_of_block b)) (layout_of_block b) (sizes_of_block b)

abbrev BlocksFit : Blocks → Type 0
BlocksFit b = AreEntries (length (all_outlines (outline_of_blocks b))) (flat_map block_entries (outline_of_blocks b)) (layout_of_blocks b) (sizes_of_blocks b)

record ChildrenFit (c : Children) : Type 0 where
  each : List Numbers
  fit : AreOutlined (outline_of_children c) (layouts_of_children c) each
  whole : sizes_of_children c ≡ joined each

abbrev NodeFits : Node → Type 0
NodeFits x = IsOutlined (outline x) (layout x) (sizes x)

each_node : (ys : List ((y : Node) × NodeFits y)) → AreOutlined (map outline (map (λ y. y.0) ys)) (map layout (map (λ y. y.0) ys)) (map sizes (map (λ y. y.0) ys))
each_node [] = none
each_node (y ∷ ys) = more (outline y.0) (map outline (map (λ z. z.0) ys)) (layout y.0) (map layout (map (λ z. z.0) ys)) (sizes y.0) (map sizes (map (λ z. z.0) ys)) y.1 (each_node ys)

each_block : (ys : List ((y : Block) × BlockFits y)) → AreBlocks (map outline_of_block (map (λ y. y.0) ys)) (map layout_of_block (map (λ y. y.0) ys)) (map sizes_of_block (map (λ y. y.0) ys))
each_block [] = no_block
each_block (y ∷ ys) =
    one_block (outline_of_block y.0) (map outline_of_block (map (λ z. z.0) ys)) (layout_of_block y.0) (map layout_of_block (map (λ z. z.0) ys)) (sizes_of_block y.0) (map sizes_of_block (map (λ z. z.0) ys)) y.1 (each_block ys)

outlined_along : (o o' : Outline) (q q' : Layout) (s s' : Numbers) → o ≡ o' → q ≡ q' → s ≡ s' → IsOutlined o' q' s' → IsOutlined o q s
outlined_along o o' q q' s s' e f g h = subst (λ r. IsOutlined r q s) (sym e) (subst (λ r. IsOutlined o' r s) (sym f) (subst (IsOutlined o' q') (sym g) h))

node_case : (x : Open.Node-F Block Blocks Children Node) → BlocksFit x.blocks → NodeFits (roll-Node x)
unfolding outline layout sizes
node_case x b =
    outlined_along _ _ _ _ _ _
    (fold-roll-Node Outlines (List Outlines) Outlines Outline block_outline_step blocks_outline_step children_outline_step node_outline_step x)
    (fold-roll-Node Layout Layout (List Layout) Layout block_layout_step blocks_layout_step children_layout_step node_layout_step x)
    (fold-roll-Node Numbers Numbers Numbers Numbers sizes_block_step sizes_blocks_step sizes_children_step sizes_node_step x)
    (node_outlined (length (all_outlines (outline_of_blocks x.blocks))) (flat_map block_entries (outline_of_blocks x.blocks)) (layout_of_blocks x.blocks) (sizes_of_blocks x.blocks) b)

several_along : (oss oss' : List Outlines) (q q' : Layout) (s s' : Numbers) → oss ≡ oss' → q ≡ q' → s ≡ s' → AreEntries (length (all_outlines oss')) (flat_map block_entries oss') q' s' → AreEntries (length (all_outlines oss)) (flat_map block_entries oss) q s
several_along oss oss' q q' s s' e f g h =
    subst (λ r. AreEntries (length (all_outlines r)) (flat_map block_entries r) q s) (sym e) (subst (λ r. AreEntries (length (all_outlines oss')) (flat_map block_entries oss') r s) (sym f) (subst (AreEntries (length (all_outlines oss')) (flat_map block_entries oss') q') (sym g) h))

blocks_case : (x : Open.Blocks-F Block Blocks Children Node) (ys : List ((b : Block) × BlockFits b)) → map (λ y. y.0) ys ≡ x.items.items → BlocksFit (roll-Blocks x)
blocks_case x ys e =
    let fit : AreBlocks (map outline_of_block x.items.items) (map layout_of_block x.items.items) (map sizes_of_block x.items.items) =
    subst (λ l. AreBlocks (map outline_of_block l) (map layout_of_block l) (map sizes_of_block l)) e (each_block ys) in
    several_along _ _ _ _ _ _
    (fold-roll-Blocks Outlines (List Outlines) Outlines Outline block_outline_step blocks_outline_step children_outline_step node_outline_step x)
    (fold-roll-Blocks Layout Layout (List Layout) Layout block_layout_step blocks_layout_step children_layout_step node_layout_step x)
    (fold-roll-Blocks Numbers Numbers Numbers Numbers sizes_block_step sizes_blocks_step sizes_children_step sizes_node_step x)
    (blocks_entries (map outline_of_block x.items.items) (map layout_of_block x.items.items) (map sizes_of_block x.items.items) fit)

children_case : (x : Open.Children-F Block Blocks Children Node) (ys : List ((y : Node) × NodeFits y)) → map (λ y. y.0) ys ≡ x.items.items → ChildrenFit (roll-Children x)
unfolding outline layout sizes
children_case x ys e =
    let fit : AreOutlined (map outline x.items.items) (map layout x.items.items) (map sizes x.items.items) =
    subst (λ l. AreOutlined (map outline l) (map layout l) (map sizes l)) e (each_node ys) in
    let outlines : outline_of_children (roll-Children x) ≡ map outline x.items.items = fold-roll-Children Outlines (List Outlines) Outlines Outline block_outline_step blocks_outline_step children_outline_step node_outline_step x in
    let layouts : layouts_of_children (roll-Children x) ≡ map layout x.items.items = fold-roll-Children Layout Layout (List Layout) Layout block_layout_step blocks_layout_step children_layout_step node_layout_step x in
    record {
      each = map sizes x.items.items;
      fit = subst (λ l. AreOutlined l (layouts_of_children (roll-Children x)) (map sizes x.items.items)) (sym outlines) (subst (λ l. AreOutlined (map outline x.items.items) l (map sizes x.items.items)) (sym layouts) fit);
      whole = fold-roll-Children Numbers Numbers Numbers Numbers sizes_block_step sizes_blocks_step sizes_children_step sizes_node_step x;
    }

block_along : (os os' : Outlines) (q q' : Layout) (s s' : Numbers) → os ≡ os' → q ≡ q' → s ≡ s' → AreEntries (length os') (block_entries os') q' s' → AreEntries (length os) (block_entries os) q s
block_along os os' q q' s s' e f g h =
    subst (λ r. AreEntries (length r) (block_entries r) q s) (sym e) (subst (λ r. AreEntries (length os') (block_entries os') r s) (sym f) (subst (AreEntries (length os') (block_entries os') q') (sym g) h))

bridge_case : (child : Box Node Global) → NodeFits child.value → BlockFits (roll-Block (Open.Bridge child))
unfolding outline layout sizes
bridge_case child p =
    block_along _ _ _ _ _ _
    (fold-roll-Block Outlines (List Outlines) Outlines Outline block_outline_step blocks_outline_step children_outline_step node_outline_step (Open.Bridge child))
    (fold-roll-Block Layout Layout (List Layout) Layout block_layout_step blocks_layout_step children_layout_step node_layout_step (Open.Bridge child))
    (fold-roll-Block Numbers Numbers Numbers Numbers sizes_block_step sizes_blocks_step sizes_children_step sizes_node_step (Open.Bridge child))
    (bridge_entries (outline child.value) (layout child.value) (sizes child.value) p)

cycle_case : (nodes : Children) → ChildrenFit nodes → BlockFits (roll-Block (Open.Cycle nodes))
cycle_case nodes c =
    block_along _ _ _ _ _ _
    (fold-roll-Block Outlines (List Outlines) Outlines Outline block_outline_step blocks_outline_step children_outline_step node_outline_step (Open.Cycle nodes))
    (fold-roll-Block Layout Layout (List Layout) Layout block_layout_step blocks_layout_step children_layout_step node_layout_step (Open.Cycle nodes))
    (fold-roll-Block Numbers Numbers Numbers Numbers sizes_block_step sizes_blocks_step sizes_children_step sizes_node_step (Open.Cycle nodes) ∙ c.whole)
    (cycle_entries (outline_of_children nodes) (layouts_of_children nodes) c.each c.fit)

abbrev Proved : Type 0
Proved = Open.Block-F ((b : Block) × BlockFits b) ((b : Blocks) × BlocksFit b) ((c : Children) × ChildrenFit c) ((y : Node) × NodeFits y)

block_case : (x : Open.Block-F Block Blocks Children Node) (y : Proved) → map-Block ((b : Block) × BlockFits b) ((b : Blocks) × BlocksFit b) ((c : Children) × ChildrenFit c) ((y : Node) × NodeFits y) Block Blocks Children Node (λ e. e.0) (λ e. e.0) (λ e. e.0) (λ e. e.0) y ≡ x → BlockFits (roll-Block x)
block_case x (Open.Bridge b) is =
    let child : Box Node Global = record { ptr = b.ptr; alloc = b.alloc; value = b.value.0 } in
    subst (λ z. BlockFits (roll-Block z)) is (bridge_case child b.value.1)
block_case x (Open.Cycle c) is = subst (λ z. BlockFits (roll-Block z)) is (cycle_case c.0 c.1)

pub outline_fits : (x : Node) → IsOutlined (outline x) (layout x) (sizes x)
outline_fits x = ind-Node BlockFits BlocksFit ChildrenFit NodeFits
    (λ y z is. block_case y z is)
    (λ y z is. blocks_case y z.items.items (ap (λ w. w.items.items) is))
    (λ y z is. children_case y z.items.items (ap (λ w. w.items.items) is))
    (λ y z is. node_case y (subst (λ w. BlocksFit w.blocks) is z.blocks.1))
    x

-- ---- a whole tree
alone : (x : Node) → [] ++ (sizes x ++ []) ≡ sizes x
alone x = append-nil (sizes x)

pub sizes_length : (x : Node) → length (outlined x) ≡ length (sizes x)
sizes_length x = let h = outline_fits x in omega (arith, h.count)

pub all_hop : (x : Node) → AllHop (sizes x) 0 (outlined x)
all_hop x = subst (λ w. AllHop w 0 (outlined x)) (alone x) (one_hops 0 0 (outline x) (layout x) (sizes x) [] [] (outline_fits x) (omega arith) refl)

-- the ranges of the cuts are those between the borders
pub borders_give : (x : Node) → ranges_between (all_borders (sizes x) 0 (outlined x)) ≡ cut_ranges x 0
borders_give x =
    let inner = all_borders ([] ++ (sizes x ++ [])) (0 + 1) (outline x).inner in
    ap (λ w. ranges_between (all_borders w 0 (outlined x))) (sym (alone x))
    ∙ ap ranges_between (sym (append-nil inner))
    ∙ (outline_fits x).ranges [] [] []
    ∙ append-nil (cut_ranges x 0)

-- ---- the equations
pub outline_out : (x : Node) → outline x ≡ record { children = length (all_outlines (map block_outline (blocks x))); inner = flat_map block_entries (map block_outline (blocks x)) }
unfolding outline block_outline
outline_out x = fold_out-Node Outlines (List Outlines) Outlines Outline block_outline_step blocks_outline_step children_outline_step node_outline_step x
    ∙ ap (λ oss. record { children = length (all_outlines oss); inner = flat_map block_entries oss }) (fold_out-Blocks Outlines (List Outlines) Outlines Outline block_outline_step blocks_outline_step children_outline_step node_outline_step (out-Node x).blocks)

pub outline_bridge : (child : Box Node Global) → block_outline (Bridge child) ≡ outline child.value ∷ []
unfolding outline block_outline
outline_bridge child = ap (fold-Block Outlines (List Outlines) Outlines Outline block_outline_step blocks_outline_step children_outline_step node_outline_step) (sym (rolls-Bridge child))
    ∙ fold-roll-Block Outlines (List Outlines) Outlines Outline block_outline_step blocks_outline_step children_outline_step node_outline_step (Open.Bridge child)

pub outline_cycle : (nodes : Children) → block_outline (Cycle nodes) ≡ map outline (nodes_in nodes)
unfolding outline block_outline
outline_cycle nodes = ap (fold-Block Outlines (List Outlines) Outlines Outline block_outline_step blocks_outline_step children_outline_step node_outline_step) (sym (rolls-Cycle nodes))
    ∙ fold-roll-Block Outlines (List Outlines) Outlines Outline block_outline_step blocks_outline_step children_outline_step node_outline_step (Open.Cycle nodes)
    ∙ fold_out-Children Outlines (List Outlines) Outlines Outline block_outline_step blocks_outline_step children_outline_step node_outline_step nodes
