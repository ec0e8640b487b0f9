-- The vertices of a tree as a list and as a set.
use Rattle.std.proofs.Common.{◌≡◌, ℕ, List, [], ◌∷◌, map, ap, ◌∙◌, sym, refl}
use Rattle.std.specs.List.{concat, flat_map, AllByRecursion}
use Rattle.std.specs.declared.boxed.Box.{Box}
use Rattle.std.specs.declared.alloc.Global.{Global}
use Rattle.cut_definitions.specs.Weight.{VertexSet, either}
use Rattle.cut_definitions.specs.Cuts.{has}
use Rattle.rooted_cactus.specs.Sides.{Part, part, block_part, all_of, belows}
use Rattle.rooted_cactus.specs.Entered.{entered, entered_block}
use Rattle.rooted_cactus.specs.Trees.{vertices, blocks, nodes_in}
use Rattle.rooted_cactus.specs.declared.tree.Node.{Node}
use Rattle.rooted_cactus.specs.declared.tree.Block.{Block}
use Rattle.rooted_cactus.specs.declared.tree.Children.{Children}
use Rattle.rooted_cactus.specs.declared.tree.Block.TheVariants.{Bridge, Cycle}
use Rattle.rooted_cactus.proofs.Parts.{part_out, bridge_part, cycle_part}
use Rattle.rooted_cactus.proofs.Orders.{entered_out, entered_bridge, entered_cycle}
use Rattle.rooted_cactus.proofs.Segments.{has_append, has_both}
use Rattle.rooted_cactus.proofs.Induction.{tree_induction}
use Rattle.rooted_cactus.proofs.Views.{block_induction, each}

abbrev Listed : VertexSet → List (List ℕ) → Type 0
Listed s ls = has (concat ls) ≡ s

several : {X : Type 0} (p : X → Part) (l : X → List (List ℕ)) (xs : List X) → AllByRecursion (λ x. Listed (p x).below (l x)) xs → Listed (all_of (belows (map p xs))) (flat_map l xs)
several p l [] h = refl
several p l (x ∷ xs) h = has_both (l x) (flat_map l xs) ∙ ap (λ s. either s (has (concat (flat_map l xs)))) h.0 ∙ ap (either (p x).below) (several p l xs h.1)

abbrev NodeListed : Node → Type 0
NodeListed x = Listed (part x).below (entered x)

abbrev BlockListed : Block → Type 0
BlockListed b = Listed (block_part b).below (entered_block b)

node_case : (x : Node) → AllByRecursion BlockListed (blocks x) → NodeListed x
node_case x h =
    ap (λ ls. has (concat ls)) (entered_out x) ∙ has_append (vertices x) (concat (flat_map entered_block (blocks x)))
    ∙ ap (either (has (vertices x))) (several block_part entered_block (blocks x) h) ∙ sym (ap (λ (p : Part). p.below) (part_out x))

bridge_case : (child : Box Node Global) → NodeListed child.value → BlockListed (Bridge child)
bridge_case child h = ap (λ ls. has (concat ls)) (entered_bridge child) ∙ h ∙ sym (ap (λ (p : Part). p.below) (bridge_part child))

cycle_case : (nodes : Children) → AllByRecursion NodeListed (nodes_in nodes) → BlockListed (Cycle nodes)
cycle_case nodes h = ap (λ ls. has (concat ls)) (entered_cycle nodes) ∙ several part entered (nodes_in nodes) h ∙ sym (ap (λ (p : Part). p.below) (cycle_part nodes))

pub node_listed : (x : Node) → has (concat (entered x)) ≡ (part x).below
node_listed = tree_induction NodeListed BlockListed node_case bridge_case cycle_case

pub block_listed : (b : Block) → has (concat (entered_block b)) ≡ (block_part b).below
block_listed = block_induction NodeListed BlockListed node_case bridge_case cycle_case

pub blocks_listed : (bs : List Block) → has (concat (flat_map entered_block bs)) ≡ all_of (belows (map block_part bs))
blocks_listed bs = several block_part entered_block bs (each BlockListed block_listed bs)

pub nodes_listed : (xs : List Node) → has (concat (flat_map entered xs)) ≡ all_of (belows (map part xs))
nodes_listed xs = several part entered xs (each NodeListed node_listed xs)
