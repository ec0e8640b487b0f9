-- Whether a tree is normal, node by node.
use Rattle.std.proofs.Common.{◌≡◌, ℕ, ◌+◌, inl, inr, Bool, true, false, not, ◌&&◌, ◌||◌, ◌∷◌, List, [], ◌++◌, Some, length, take, get_or, ap, ◌∙◌, sym, refl}
use Rattle.std.specs.Prelude.{nat_le, slice_get, cond}
use Rattle.std.specs.List.{filter, list_all, flat_map}
use Rattle.std.proofs.lemmas.List.Folds.{list_all_more, list_all_at, list_all-append}
use Rattle.std.proofs.lemmas.Option.{get_or_from_slice_get, slice_get_within}
use Rattle.std.proofs.Math.Bool.{and-false, and-true, and_assoc}
use Rattle.cut_definitions.proofs.Bools.{four_and}
use Rattle.rooted_cactus.specs.Normal.{shape, block_shape, child_fine}
use Rattle.rooted_cactus.specs.Placed.{is_placed, is_set}
use Rattle.rooted_cactus.specs.Trees.{blocks, nodes_in}
use Rattle.rooted_cactus.specs.Entries.{nodes_of}
use Rattle.rooted_cactus.specs.declared.tree.Node.{Node}
use Rattle.rooted_cactus.specs.declared.tree.Block.{Block}
use Rattle.rooted_cactus.proofs.Entries.{nodes_bridge, nodes_cycle}
use Rattle.rooted_cactus.proofs.Shapes.{bridge_shape, cycle_shape, cycle_fine, node_fine, child_parts, length_shapes}
use Rattle.rooted_cactus.specs.Numbers.{is_inner}
use Rattle.rooted_cactus.proofs.Tallies.{no_blocks}
use Rattle.rooted_cactus.proofs.Views.{view}

-- all below a node is normal
abbrev pub is_fine : Node → Bool
is_fine x = (shape x).fine

abbrev pub all_fine : List Node → Bool
all_fine = list_all is_fine

pub child_is : (above : Bool) (x : Node) → child_fine above (shape x) ≡ (is_set above x && is_fine x)
child_is above x = child_parts above x ∙ ap (λ b. is_set above x && b) (sym (node_fine x))

children_are : (xs : List Node) → list_all (λ x. child_fine true (shape x)) xs ≡ (list_all (is_set true) xs && all_fine xs)
children_are [] = refl
children_are (x ∷ xs) =
    ap (λ b. b && list_all (λ y. child_fine true (shape y)) xs) (child_is true x) ∙ ap (λ b. (is_set true x && is_fine x) && b) (children_are xs)
    ∙ four_and (is_set true x) (is_fine x) (list_all (is_set true) xs) (all_fine xs)

-- what a block is if its kind and its nodes are known
placed_as : (b : Block) (cycle : Bool) (xs : List Node) → (block_shape b).is_cycle ≡ cycle → nodes_of b ≡ xs → is_placed b ≡ ((not cycle || nat_le 2 (length xs)) && list_all (is_set cycle) xs)
placed_as b cycle xs k n =
    ap (λ c. (not c || nat_le 2 (length (nodes_of b))) && list_all (is_set c) (nodes_of b)) k ∙ ap (λ ys. (not cycle || nat_le 2 (length ys)) && list_all (is_set cycle) ys) n

pub block_fine : (b : Block) → (block_shape b).fine ≡ (is_placed b && all_fine (nodes_of b))
block_fine b = elim (view b) [
  | inl h ↦ (
      let x = h.0.value in
      let shape_is = ap block_shape h.1 ∙ bridge_shape h.0 in
      let nodes = ap nodes_of h.1 ∙ nodes_bridge h.0 in
      ap (λ s. s.fine) shape_is ∙ child_is false x ∙ sym (ap (λ k. k && is_fine x) (and-true (is_set false x))) ∙ sym (ap (λ k. (is_set false x && true) && k) (and-true (is_fine x)))
      ∙ sym (ap (λ k. k && all_fine (nodes_of b)) (placed_as b false (x ∷ []) (ap (λ s. s.is_cycle) shape_is) nodes) ∙ ap (λ l. (is_set false x && true) && all_fine l) nodes))
  | inr h ↦ (
      let xs = nodes_in h.0 in
      let nodes = ap nodes_of h.1 ∙ nodes_cycle h.0 in
      ap (λ c. (block_shape c).fine) h.1 ∙ cycle_fine h.0 ∙ ap (λ k. nat_le 2 k && list_all (λ x. child_fine true (shape x)) xs) (length_shapes xs) ∙ ap (λ k. nat_le 2 (length xs) && k) (children_are xs)
      ∙ sym (and_assoc (nat_le 2 (length xs)) (list_all (is_set true) xs) (all_fine xs))
      ∙ sym (ap (λ k. k && all_fine (nodes_of b)) (placed_as b true xs (ap (λ c. (block_shape c).is_cycle) h.1 ∙ ap (λ s. s.is_cycle) (cycle_shape h.0)) nodes) ∙ ap (λ l. (nat_le 2 (length xs) && list_all (is_set true) xs) && all_fine l) nodes))
]

blocks_fine : (bs : List Block) → list_all (λ b. (block_shape b).fine) bs ≡ (list_all is_placed bs && all_fine (flat_map nodes_of bs))
blocks_fine [] = refl
blocks_fine (b ∷ bs) =
    ap (λ k. k && list_all (λ c. (block_shape c).fine) bs) (block_fine b) ∙ ap (λ k. (is_placed b && all_fine (nodes_of b)) && k) (blocks_fine bs)
    ∙ four_and (is_placed b) (all_fine (nodes_of b)) (list_all is_placed bs) (all_fine (flat_map nodes_of bs))
    ∙ ap (λ k. (is_placed b && list_all is_placed bs) && k) (sym (list_all-append is_fine (nodes_of b) (flat_map nodes_of bs)))

fine_step : (x : Node) → is_fine x ≡ (list_all is_placed (blocks x) && all_fine (flat_map nodes_of (blocks x)))
fine_step x = node_fine x ∙ blocks_fine (blocks x)

-- nodes with no block below them need not be looked at
inner_fine : (xs : List Node) → all_fine (filter is_inner xs) ≡ all_fine xs
inner_fine [] = refl
inner_fine (x ∷ xs) = first (inner_fine xs) (is_inner x) refl where
  first : all_fine (filter is_inner xs) ≡ all_fine xs → (t : Bool) → is_inner x ≡ t → all_fine (cond t (x ∷ filter is_inner xs) (filter is_inner xs)) ≡ (is_fine x && all_fine xs)
  first rest true h = ap (λ k. is_fine x && k) rest
  first rest false h = rest ∙ sym (ap (λ k. k && all_fine xs) (fine_step x ∙ ap (λ bs. list_all is_placed bs && all_fine (flat_map nodes_of bs)) (no_blocks x h)))

-- a node whose blocks are normal is replaced by those below it
pub taken_fine : (left before after : List Node) (x : Node) → before ≡ left ++ x ∷ [] → after ≡ left ++ filter is_inner (flat_map nodes_of (blocks x)) → list_all is_placed (blocks x) ≡ true → all_fine before ≡ all_fine after
taken_fine left before after x b a h =
    ap all_fine b ∙ list_all-append is_fine left (x ∷ []) ∙ ap (λ k. all_fine left && k) (and-true (is_fine x) ∙ fine_step x ∙ ap (λ k. k && all_fine (flat_map nodes_of (blocks x))) h)
    ∙ sym (ap all_fine a ∙ list_all-append is_fine left (filter is_inner (flat_map nodes_of (blocks x))) ∙ ap (λ k. all_fine left && k) (inner_fine (flat_map nodes_of (blocks x))))

-- a node whose blocks are not as they must be shows that not all is
pub not_fine : (left before : List Node) (x : Node) → before ≡ left ++ x ∷ [] → list_all is_placed (blocks x) ≡ false → all_fine before ≡ false
not_fine left before x b h =
    ap all_fine b ∙ list_all-append is_fine left (x ∷ []) ∙ ap (λ k. all_fine left && k) (and-true (is_fine x) ∙ fine_step x ∙ ap (λ k. k && all_fine (flat_map nodes_of (blocks x))) h) ∙ and-false (all_fine left)

pub begun_fine : (x : Node) → all_fine (x ∷ []) ≡ list_all (λ b. (block_shape b).fine) (blocks x)
begun_fine x = and-true (is_fine x) ∙ node_fine x

-- ---- lists that are gone through
pub one_more : {X : Type 0} (p : X → Bool) (xs : List X) (i : ℕ) (x : X) → slice_get xs i ≡ Some x → p x ≡ true → list_all p (take i xs) ≡ true → list_all p (take (i + 1) xs) ≡ true
one_more p xs i x at is before =
    list_all_more p xs i x (slice_get_within xs i x at) ∙ ap (λ b. b && p (get_or xs i x)) before ∙ ap p (get_or_from_slice_get xs i x x at) ∙ is

pub one_not : {X : Type 0} (p : X → Bool) (xs : List X) (i : ℕ) (x : X) → slice_get xs i ≡ Some x → p x ≡ false → list_all p xs ≡ false
one_not p xs i x at is = list_all_at p xs i x (slice_get_within xs i x at) (ap p (get_or_from_slice_get xs i x x at) ∙ is)
