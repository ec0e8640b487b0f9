-- Each cut of a tree is a range of its nodes in the order of entering.
use Rattle.std.proofs.Common.{◌≡◌, ℕ, List, [], ◌∷◌, map, sym, ◌∙◌, ap, subst}
use Rattle.std.specs.List.{Contains}
use Rattle.std.specs.declared.boxed.Box.{Box}
use Rattle.std.specs.declared.alloc.Global.{Global}
use Rattle.cut_definitions.specs.Weight.{VertexSet}
use Rattle.rooted_cactus.specs.Sides.{Part, part, cuts, block_step, blocks_step, children_step, node_step}
use Rattle.rooted_cactus.specs.Entered.{entered, in_order, entered_block_step, entered_blocks_step, entered_children_step, entered_node_step}
use Rattle.rooted_cactus.proofs.Segments.{IsSegment, IsLaidOut, AreLaidOut, none, more, together_laid, cycle_laid, bridge_laid, node_laid}
use Rattle.rooted_cactus.specs.declared.tree.Node.{Node}
use Rattle.rooted_cactus.specs.declared.tree.Block.{Block}
use Rattle.rooted_cactus.specs.declared.tree.Blocks.{Blocks}
use Rattle.rooted_cactus.specs.declared.tree.Children.{Children}
use Rattle.rooted_cactus.specs.declared.tree.Block.TheViews.{roll-Node, roll-Block, roll-Blocks, roll-Children}
use Rattle.rooted_cactus.specs.declared.tree.Block.TheOpen as Open
use Rattle.rooted_cactus.specs.declared.tree.Block.TheFolds.{map-Block, ind-Node, fold-roll-Node, fold-roll-Block, fold-roll-Blocks, fold-roll-Children}
use Rattle.rooted_cactus.proofs.Folds.{Lists, part_of_block, part_of_blocks, parts_of_children, lists_of_block, lists_of_blocks, lists_of_children}

abbrev BlockLaid : Block → Type 0
BlockLaid b = IsLaidOut (part_of_block b) (lists_of_block b)

abbrev BlocksLaid : Blocks → Type 0
BlocksLaid b = IsLaidOut (part_of_blocks b) (lists_of_blocks b)

record ChildrenLaid (c : Children) : Type 0 where
  each : List Lists
  laid : AreLaidOut (parts_of_children c) each
  whole : lists_of_children c ≡ in_order each

abbrev NodeLaid : Node → Type 0
NodeLaid x = IsLaidOut (part x) (entered x)

pub laid_along : (p q : Part) (l m : List (List ℕ)) → p ≡ q → l ≡ m → IsLaidOut q m → IsLaidOut p l
laid_along p q l m e f h = subst (λ r. IsLaidOut r l) (sym e) (subst (IsLaidOut q) (sym f) h)

-- values, each with a proof
each_laid : {X : Type 0} (P : X → Type 0) (f : X → Part) (g : X → Lists) → ((x : X) → P x → IsLaidOut (f x) (g x)) → (ys : List ((x : X) × P x)) → AreLaidOut (map f (map (λ y. y.0) ys)) (map g (map (λ y. y.0) ys))
each_laid P f g h [] = none
each_laid P f g h (y ∷ ys) = more (f y.0) (map f (map (λ z. z.0) ys)) (g y.0) (map g (map (λ z. z.0) ys)) (h y.0 y.1) (each_laid P f g h ys)

node_case : (x : Open.Node-F Block Blocks Children Node) → BlocksLaid x.blocks → NodeLaid (roll-Node x)
unfolding part entered
node_case x b =
    laid_along _ _ _ _
    (fold-roll-Node Part Part (List Part) Part block_step blocks_step children_step node_step x)
    (fold-roll-Node Lists Lists Lists Lists entered_block_step entered_blocks_step entered_children_step entered_node_step x)
    (node_laid x.vertices (part_of_blocks x.blocks) (lists_of_blocks x.blocks) b)

blocks_case : (x : Open.Blocks-F Block Blocks Children Node) (ys : List ((b : Block) × BlockLaid b)) → map (λ y. y.0) ys ≡ x.items.items → BlocksLaid (roll-Blocks x)
blocks_case x ys e =
    let laid : AreLaidOut (map part_of_block x.items.items) (map lists_of_block x.items.items) = subst (λ l. AreLaidOut (map part_of_block l) (map lists_of_block l)) e (each_laid BlockLaid part_of_block lists_of_block (λ b p. p) ys) in
    laid_along _ _ _ _
    (fold-roll-Blocks Part Part (List Part) Part block_step blocks_step children_step node_step x)
    (fold-roll-Blocks Lists Lists Lists Lists entered_block_step entered_blocks_step entered_children_step entered_node_step x)
    (together_laid (map part_of_block x.items.items) (map lists_of_block x.items.items) laid)

children_case : (x : Open.Children-F Block Blocks Children Node) (ys : List ((y : Node) × NodeLaid y)) → map (λ y. y.0) ys ≡ x.items.items → ChildrenLaid (roll-Children x)
unfolding part entered
children_case x ys e =
    let laid : AreLaidOut (map part x.items.items) (map entered x.items.items) = subst (λ l. AreLaidOut (map part l) (map entered l)) e (each_laid NodeLaid part entered (λ y p. p) ys) in
    record {
      each = map entered x.items.items;
      laid = subst (λ l. AreLaidOut l (map entered x.items.items)) (sym (fold-roll-Children Part Part (List Part) Part block_step blocks_step children_step node_step x)) laid;
      whole = fold-roll-Children Lists Lists Lists Lists entered_block_step entered_blocks_step entered_children_step entered_node_step x;
    }

bridge_case : (child : Box Node Global) → NodeLaid child.value → BlockLaid (roll-Block (Open.Bridge child))
unfolding part entered
bridge_case child p =
    laid_along _ _ _ _
    (fold-roll-Block Part Part (List Part) Part block_step blocks_step children_step node_step (Open.Bridge child))
    (fold-roll-Block Lists Lists Lists Lists entered_block_step entered_blocks_step entered_children_step entered_node_step (Open.Bridge child))
    (bridge_laid (part child.value) (entered child.value) p)

cycle_case : (nodes : Children) → ChildrenLaid nodes → BlockLaid (roll-Block (Open.Cycle nodes))
cycle_case nodes c =
    laid_along _ _ _ _
    (fold-roll-Block Part Part (List Part) Part block_step blocks_step children_step node_step (Open.Cycle nodes))
    (fold-roll-Block Lists Lists Lists Lists entered_block_step entered_blocks_step entered_children_step entered_node_step (Open.Cycle nodes) ∙ c.whole)
    (cycle_laid (parts_of_children nodes) c.each c.laid)

abbrev Proved : Type 0
Proved = Open.Block-F ((b : Block) × BlockLaid b) ((b : Blocks) × BlocksLaid b) ((c : Children) × ChildrenLaid c) ((y : Node) × NodeLaid y)

block_case : (x : Open.Block-F Block Blocks Children Node) (y : Proved) → map-Block ((b : Block) × BlockLaid b) ((b : Blocks) × BlocksLaid b) ((c : Children) × ChildrenLaid c) ((y : Node) × NodeLaid y) Block Blocks Children Node (λ e. e.0) (λ e. e.0) (λ e. e.0) (λ e. e.0) y ≡ x → BlockLaid (roll-Block x)
block_case x (Open.Bridge b) is =
    let child : Box Node Global = record { ptr = b.ptr; alloc = b.alloc; value = b.value.0 } in
    subst (λ z. BlockLaid (roll-Block z)) is (bridge_case child b.value.1)
block_case x (Open.Cycle c) is = subst (λ z. BlockLaid (roll-Block z)) is (cycle_case c.0 c.1)

pub laid_out : (x : Node) → IsLaidOut (part x) (entered x)
laid_out x = ind-Node BlockLaid BlocksLaid ChildrenLaid NodeLaid
    (λ y z is. block_case y z is)
    (λ y z is. blocks_case y z.items.items (ap (λ w. w.items.items) is))
    (λ y z is. children_case y z.items.items (ap (λ w. w.items.items) is))
    (λ y z is. node_case y (subst (λ w. BlocksLaid w.blocks) is z.blocks.1))
    x

-- a cut of a tree is a range of its nodes
pub cut_is_segment : (x : Node) (s : VertexSet) → Contains (cuts x) s → IsSegment (entered x) s
cut_is_segment x s h = (laid_out x).cuts s h
