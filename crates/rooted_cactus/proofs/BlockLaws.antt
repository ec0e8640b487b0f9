-- The blocks of a tree: their widths, their layouts, and a cycle of one child.
use Rattle.std.proofs.Common.{◌≡◌, ◌∙◌, ◌∷◌, sym, [], List, inl, inr, map, subst}
use Rattle.std.specs.List.{flat_map}
use Rattle.std.proofs.lemmas.List.{append-nil}
use Rattle.rooted_cactus.specs.Entered.{entered, entered_block, in_order}
use Rattle.rooted_cactus.specs.Sides.{Part, bridge_of, cycle_of, part, block_part}
use Rattle.rooted_cactus.specs.Trees.{blocks, nodes_in}
use Rattle.rooted_cactus.specs.Widths.{widths, block_widths}
use Rattle.rooted_cactus.specs.declared.tree.Node.{Node}
use Rattle.rooted_cactus.specs.declared.tree.Block.{Block}
use Rattle.rooted_cactus.specs.declared.tree.Block.TheVariants.{Bridge, Cycle}
use Rattle.rooted_cactus.proofs.Built.{joined_map}
use Rattle.rooted_cactus.proofs.Layouts.{laid_out, laid_along}
use Rattle.rooted_cactus.proofs.Orders.{entered_bridge, entered_cycle, in_order_map}
use Rattle.rooted_cactus.proofs.Parts.{either_nothing, bridge_part, cycle_part}
use Rattle.rooted_cactus.proofs.Segments.{IsLaidOut, AreLaidOut, none, more, cycle_laid, bridge_laid}
use Rattle.rooted_cactus.proofs.Views.{view}
use Rattle.rooted_cactus.proofs.Widths.{widths_out}

-- the widths of a node, block by block
pub widths_flat : (x : Node) → widths x ≡ flat_map block_widths (blocks x)
widths_flat x = widths_out x ∙ joined_map block_widths (blocks x)

-- a bridge has the sides of a cycle of one child
pub bridge_cycle : (p : Part) → bridge_of p ≡ cycle_of (p ∷ [])
bridge_cycle p = λ i. record { below = sym (either_nothing p.below) i; cuts = p.below ∷ sym (append-nil p.cuts) i }

-- nodes and blocks are laid out in the order of entering
pub nodes_laid : (xs : List Node) → AreLaidOut (map part xs) (map entered xs)
nodes_laid [] = none
nodes_laid (x ∷ xs) = more (part x) (map part xs) (entered x) (map entered xs) (laid_out x) (nodes_laid xs)

pub block_laid : (b : Block) → IsLaidOut (block_part b) (entered_block b)
block_laid b = elim (view b) [
  | inl h ↦ subst (λ c. IsLaidOut (block_part c) (entered_block c)) (sym h.1)
      (laid_along (block_part (Bridge h.0)) (bridge_of (part h.0.value)) (entered_block (Bridge h.0)) (entered h.0.value) (bridge_part h.0) (entered_bridge h.0) (bridge_laid (part h.0.value) (entered h.0.value) (laid_out h.0.value)))
  | inr h ↦ subst (λ c. IsLaidOut (block_part c) (entered_block c)) (sym h.1)
      (laid_along (block_part (Cycle h.0)) (cycle_of (map part (nodes_in h.0))) (entered_block (Cycle h.0)) (in_order (map entered (nodes_in h.0))) (cycle_part h.0) (entered_cycle h.0 ∙ sym (in_order_map entered (nodes_in h.0)))
      (cycle_laid (map part (nodes_in h.0)) (map entered (nodes_in h.0)) (nodes_laid (nodes_in h.0))))
]
