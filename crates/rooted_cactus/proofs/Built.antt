-- Trees that are built in tests: their lists, and a test of the lists that shows a cactus.
use Rattle.std.proofs.Common.{◌≡◌, ℕ, List, [], ◌∷◌, ◌++◌, length, map, refl, sym, ◌∙◌, ap}
use Rattle.std.specs.List.{flat_map}
use Rattle.std.proofs.lemmas.List.{append-nil, length-map}
use Rattle.std.proofs.lemmas.List.Concat.{flat_map-append}
use Rattle.rooted_cactus.specs.Entered.{entered, entered_block}
use Rattle.rooted_cactus.specs.Trees.{vertices, blocks, nodes_in}
use Rattle.rooted_cactus.specs.Widths.{widths, block_widths, joined}
use Rattle.rooted_cactus.specs.declared.tree.Node.{Node}
use Rattle.rooted_cactus.specs.declared.tree.Block.{Block}
use Rattle.rooted_cactus.specs.declared.tree.Block.TheVariants.{Cycle}
use Rattle.rooted_cactus.specs.declared.tree.Children.{Children}
use Rattle.rooted_cactus.proofs.Orders.{entered_out}
use Rattle.rooted_cactus.proofs.Widths.{widths_out, widths_cycle}

-- ---- the lists of a tree that grows
pub leaf_entered : (x : Node) (l : List ℕ) → vertices x ≡ l → blocks x ≡ [] → entered x ≡ l ∷ []
leaf_entered x l v b = entered_out x ∙ ap (λ vs. vs ∷ flat_map entered_block (blocks x)) v ∙ ap (λ bs. l ∷ flat_map entered_block bs) b

pub leaf_widths : (x : Node) → blocks x ≡ [] → widths x ≡ []
leaf_widths x b = widths_out x ∙ ap (λ bs. joined (map block_widths bs)) b

pub joined_map : {X : Type 0} (f : X → List ℕ) (xs : List X) → joined (map f xs) ≡ flat_map f xs
joined_map f [] = refl
joined_map f (x ∷ xs) = ap (λ l. f x ++ l) (joined_map f xs)

pub hung_widths : (x y : Node) (b : Block) → blocks y ≡ blocks x ++ b ∷ [] → widths y ≡ widths x ++ block_widths b
hung_widths x y b f =
    widths_out y
    ∙ joined_map block_widths (blocks y)
    ∙ ap (flat_map block_widths) f
    ∙ flat_map-append block_widths (blocks x) (b ∷ [])
    ∙ ap (λ l. flat_map block_widths (blocks x) ++ l) (append-nil (block_widths b))
    ∙ ap (λ l. l ++ block_widths b) (sym (widths_out x ∙ joined_map block_widths (blocks x)))

pub ring_widths : (nodes : Children) → block_widths (Cycle nodes) ≡ length (nodes_in nodes) ∷ flat_map widths (nodes_in nodes)
ring_widths nodes =
    widths_cycle nodes
    ∙ ap (λ k. k ∷ joined (map widths (nodes_in nodes))) (length-map (nodes_in nodes) widths)
    ∙ ap (λ l. length (nodes_in nodes) ∷ l) (joined_map widths (nodes_in nodes))
