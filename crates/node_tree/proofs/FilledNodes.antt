-- A tree whose nodes all have a vertex, and whose cycles are wide enough, is normal.
use Rattle.std.proofs.Common.{ne_eqb, ◌≡◌, ℕ, suc, ◌≤◌, Bool, true, false, ◌&&◌, List, [], ◌∷◌, ◌++◌, length, map, take, drop, IsPermutation, refl, sym, ◌∙◌, subst, ap, arith}
use Rattle.std.specs.List.{All, AllByRecursion, Contains, flat_map, list_all}
use Rattle.std.proofs.lemmas.List.{append-nil, length-map}
use Rattle.std.proofs.lemmas.List.Elements.{All-cons, All-head, All-nil, All-tail}
use Rattle.std.proofs.lemmas.List.Sorted.{All-permutation, IsPermutation-sym}
use Rattle.std.specs.declared.boxed.Box.{Box}
use Rattle.std.specs.declared.alloc.Global.{Global}
use Rattle.std.proofs.lemmas.Bool.{and_from}
use Rattle.cut_definitions.proofs.ListLaws.{All-back, All-front}
use Rattle.cut_definitions.proofs.Bools.{and_second}
use Rattle.rooted_cactus.specs.declared.tree.Node.{Node}
use Rattle.rooted_cactus.specs.declared.tree.Block.{Block}
use Rattle.rooted_cactus.specs.declared.tree.Children.{Children}
use Rattle.rooted_cactus.specs.declared.tree.Block.TheVariants.{Bridge, Cycle}
use Rattle.rooted_cactus.specs.Trees.{vertices, blocks, nodes_in}
use Rattle.rooted_cactus.specs.Entered.{entered, entered_block}
use Rattle.rooted_cactus.specs.Widths.{widths, block_widths}
use Rattle.rooted_cactus.specs.Normal.{shape, block_shape, child_fine, is_normal, well_placed}
use Rattle.rooted_cactus.proofs.Induction.{tree_induction}
use Rattle.rooted_cactus.proofs.Orders.{entered_out, entered_bridge, entered_cycle, hung_entered}
use Rattle.rooted_cactus.proofs.Shapes.{bridge_shape, child_parts, root_normal, wide_fine}
use Rattle.rooted_cactus.proofs.Widths.{widths_bridge, widths_cycle}
use Rattle.rooted_cactus.proofs.BlockLaws.{widths_flat}
use Rattle.node_tree.specs.Flat.{NodeArrays}
use Rattle.node_tree.specs.Forest.{AreFrom, IsChangedAt, AddsBlock, IsBlockOf, IsFilled, IsForest, IsPlaced}
use Rattle.node_tree.proofs.ForestChanges.{hung_flat, widths_joined}
use Rattle.node_tree.proofs.ForestFilling.{placed_entered}

-- each list has a vertex
abbrev pub AreFilled : List (List ℕ) → Type 0
AreFilled = All (λ l. 1 ≤ length l)

-- each cycle has two or more nodes below its upper one
abbrev AreWide : List ℕ → Type 0
AreWide = All (λ k. 2 ≤ k)

-- ---- a node and all below it are fine
abbrev NodeIsFine : Node → Type 0
NodeIsFine x = AreFilled (entered x) → AreWide (widths x) → (above : Bool) → child_fine above (shape x) ≡ true

abbrev BlockIsFine : Block → Type 0
BlockIsFine b = AreFilled (entered_block b) → AreWide (block_widths b) → (block_shape b).fine ≡ true

all_fine : (bs : List Block) → AllByRecursion BlockIsFine bs → AreFilled (flat_map entered_block bs) → AreWide (flat_map block_widths bs) → list_all (λ b. (block_shape b).fine) bs ≡ true
all_fine [] h filled wide = refl
all_fine (b ∷ bs) h filled wide =
    and_from (block_shape b).fine (list_all (λ b. (block_shape b).fine) bs)
    (h.0 (All-front (λ l. 1 ≤ length l) (entered_block b) (flat_map entered_block bs) filled) (All-front (λ k. 2 ≤ k) (block_widths b) (flat_map block_widths bs) wide))
    (all_fine bs h.1 (All-back (λ l. 1 ≤ length l) (entered_block b) (flat_map entered_block bs) filled) (All-back (λ k. 2 ≤ k) (block_widths b) (flat_map block_widths bs) wide))

all_children : (xs : List Node) → AllByRecursion NodeIsFine xs → AreFilled (flat_map entered xs) → AreWide (flat_map widths xs) → list_all (λ x. child_fine true (shape x)) xs ≡ true
all_children [] h filled wide = refl
all_children (x ∷ xs) h filled wide =
    and_from (child_fine true (shape x)) (list_all (λ x. child_fine true (shape x)) xs)
    (h.0 (All-front (λ l. 1 ≤ length l) (entered x) (flat_map entered xs) filled) (All-front (λ k. 2 ≤ k) (widths x) (flat_map widths xs) wide) true)
    (all_children xs h.1 (All-back (λ l. 1 ≤ length l) (entered x) (flat_map entered xs) filled) (All-back (λ k. 2 ≤ k) (widths x) (flat_map widths xs) wide))

blocks_fine : (x : Node) → AllByRecursion BlockIsFine (blocks x) → AreFilled (entered x) → AreWide (widths x) → list_all (λ b. (block_shape b).fine) (blocks x) ≡ true
blocks_fine x h filled wide =
    let lists = subst AreFilled (entered_out x) filled in
    all_fine (blocks x) h (All-tail (λ l. 1 ≤ length l) (vertices x) (flat_map entered_block (blocks x)) lists) (subst AreWide (widths_flat x) wide)

node_is_fine : (x : Node) → AllByRecursion BlockIsFine (blocks x) → NodeIsFine x
node_is_fine x h filled wide above =
    let some : 1 ≤ length (vertices x) = All-head (λ l. 1 ≤ length l) (vertices x) (flat_map entered_block (blocks x)) (subst AreFilled (entered_out x) filled) in
    child_parts above x
    ∙ ap (λ e. well_placed e (above ∷ map (λ b. (block_shape b).is_cycle) (blocks x)) && list_all (λ b. (block_shape b).fine) (blocks x)) (ne_eqb (length (vertices x)) 0 (λ e. omega (arith, e, some)))
    ∙ blocks_fine x h filled wide

bridge_is_fine : (child : Box Node Global) → NodeIsFine child.value → BlockIsFine (Bridge child)
bridge_is_fine child h filled wide = ap (λ s. s.fine) (bridge_shape child) ∙ h (subst AreFilled (entered_bridge child) filled) (subst AreWide (widths_bridge child) wide) false

cycle_is_fine : (nodes : Children) → AllByRecursion NodeIsFine (nodes_in nodes) → BlockIsFine (Cycle nodes)
cycle_is_fine nodes h filled wide =
    let all = subst AreWide (widths_cycle nodes) wide in
    let many = length-map (nodes_in nodes) widths in
    let two : 2 ≤ length (map widths (nodes_in nodes)) = All-head (λ k. 2 ≤ k) _ _ all in
    wide_fine nodes (omega (arith, many, two))
    ∙ all_children (nodes_in nodes) h (subst AreFilled (entered_cycle nodes) filled) (subst AreWide (widths_joined (nodes_in nodes)) (All-tail (λ k. 2 ≤ k) _ _ all))

pub filled_normal : (x : Node) → Contains (vertices x) 1 → AreFilled (entered x) → AreWide (widths x) → is_normal x ≡ true
filled_normal x one filled wide =
    let fine : child_fine true (shape x) ≡ true = tree_induction NodeIsFine BlockIsFine node_is_fine bridge_is_fine cycle_is_fine x filled wide true in
    root_normal x 1 one ∙ and_second _ _ (sym (child_parts true x) ∙ fine)

-- ---- the nodes of a tree that is being made
pub filled_placed : (n : ℕ) (homes : ℕ → ℕ) (k : ℕ) (xs : List Node) → AreFrom (IsPlaced n homes) k xs → All IsFilled xs → AreFilled (flat_map entered xs)
filled_placed n homes k [] h some = All-nil (λ l. 1 ≤ length l)
filled_placed n homes k (x ∷ xs) h some =
    subst (λ l. AreFilled (l ++ flat_map entered xs)) (sym (placed_entered x h.0.1))
    (All-cons (λ l. 1 ≤ length l) (vertices x) (flat_map entered xs) (All-head IsFilled x xs some) (filled_placed n homes (suc k) xs h.1 (All-tail IsFilled x xs some)))

pub filled_hung : (upper first : ℕ) (b : Block) (nodes new : List Node) → IsBlockOf (drop first nodes) b → IsChangedAt upper (AddsBlock b) (take first nodes) new → AreFilled (flat_map entered nodes) → AreFilled (flat_map entered new)
filled_hung upper first b nodes new block c h =
    let same : IsPermutation (flat_map entered new) (flat_map entered nodes) =
    hung_flat entered upper first (AddsBlock b) [] nodes new c (hung_entered c.node c.changed b c.change.0 c.change.1 ∙ ap (λ l. entered c.node ++ l) block.entered) in
    All-permutation (λ l. 1 ≤ length l) _ _ (IsPermutation-sym _ _ same) h

pub filled_root : (n : ℕ) (a : NodeArrays) (root : Node) → IsForest n a (root ∷ []) → AreFilled (flat_map entered (root ∷ [])) → is_normal root ≡ true
filled_root n a root h some = filled_normal root (h.root_has_one root) (subst AreFilled (append-nil (entered root)) some) (subst AreWide (append-nil (widths root)) h.wide)
