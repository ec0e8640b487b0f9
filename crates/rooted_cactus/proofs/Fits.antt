-- What normality says of each node and each block of a cactus.
use Rattle.std.proofs.Common.{◌≡◌, ℕ, ◌≤◌, ◌⊎◌, inl, inr, Bool, true, false, ◌&&◌, ◌==◌, List, [], ◌∷◌, ◌++◌, length, map, ap, ◌∙◌, sym, subst, arith, append-nil}
use Rattle.std.specs.Prelude.{nat_le}
use Rattle.std.specs.List.{list_all, flat_map}
use Rattle.std.specs.declared.boxed.Box.{Box}
use Rattle.std.specs.declared.alloc.Global.{Global}
use Rattle.std.proofs.lemmas.Bool.{and_parts, leb-true, false≢true}
use Rattle.std.proofs.lemmas.List.{length-map}
use Rattle.cut_definitions.specs.Weight.{VertexSet}
use Rattle.cut_definitions.specs.Cuts.{has}
use Rattle.cut_definitions.proofs.Bridge.{has_first_of}
use Rattle.cut_definitions.proofs.Ascending.{contains_has}
use Rattle.rooted_cactus.specs.Sides.{block_part, all_of, belows}
use Rattle.rooted_cactus.specs.Entered.{entered, entered_block}
use Rattle.rooted_cactus.specs.Rooted.{IsCactus}
use Rattle.rooted_cactus.specs.Normal.{shape, block_shape, child_fine, well_placed, is_normal, BlockShape}
use Rattle.rooted_cactus.specs.Trees.{vertices, blocks, nodes_in}
use Rattle.rooted_cactus.specs.declared.tree.Node.{Node}
use Rattle.rooted_cactus.specs.declared.tree.Block.{Block}
use Rattle.rooted_cactus.specs.declared.tree.Children.{Children}
use Rattle.rooted_cactus.specs.declared.tree.Block.TheVariants.{Bridge, Cycle}
use Rattle.rooted_cactus.proofs.Orders.{entered_out, entered_bridge, entered_cycle}
use Rattle.rooted_cactus.proofs.Shapes.{bridge_shape, cycle_fine, child_parts, root_normal}
use Rattle.rooted_cactus.proofs.Sets.{HasOne, Apart}
use Rattle.rooted_cactus.proofs.Clean.{IsClean, clean_left, clean_right, clean_apart, root_clean}
use Rattle.rooted_cactus.proofs.Views.{view}
use Rattle.rooted_cactus.proofs.Covered.{blocks_listed}

pub record IsFit (n : ℕ) (x : Node) : Type 0 where
  pub clean : IsClean n (entered x)
  pub fine : list_all (λ b. (block_shape b).fine) (blocks x) ≡ true

pub record IsFitBlock (n : ℕ) (b : Block) : Type 0 where
  pub clean : IsClean n (entered_block b)
  pub fine : (block_shape b).fine ≡ true

pub record AreFitBlocks (n : ℕ) (bs : List Block) : Type 0 where
  pub clean : IsClean n (flat_map entered_block bs)
  pub fine : list_all (λ b. (block_shape b).fine) bs ≡ true

pub record AreFitNodes (n : ℕ) (xs : List Node) : Type 0 where
  pub clean : IsClean n (flat_map entered xs)
  pub fine : list_all (λ x. child_fine true (shape x)) xs ≡ true

-- a node with a vertex or two blocks
abbrev pub IsSolid : Node → Type 0
IsSolid x = HasOne (has (vertices x)) ⊎ (2 ≤ length (blocks x))

-- or one above a cycle alone
abbrev pub IsPlaced : Node → Type 0
IsPlaced x = IsSolid x ⊎ ((nodes : Children) × (blocks x ≡ Cycle nodes ∷ []) × (vertices x ≡ []))

-- ---- where a node may be
abbrev pub cycles_of : List Block → List Bool
cycles_of bs = map (λ b. (block_shape b).is_cycle) bs

abbrev AtCycle : Bool → List ℕ → List Block → Type 0
AtCycle above vs bs = (b : Block) × (bs ≡ b ∷ []) × (above ≡ true) × ((block_shape b).is_cycle ≡ true) × (vs ≡ [])

place_of : (above : Bool) (vs : List ℕ) (bs : List Block) → well_placed (length vs == 0) (above ∷ cycles_of bs) ≡ true →
    (HasOne (has vs) ⊎ (2 ≤ length bs)) ⊎ AtCycle above vs bs
place_of above (v ∷ vs) bs h = inl (inl (v, has_first_of v vs))
place_of above [] [] h = absurd (false≢true h)
place_of above [] (b ∷ []) h =
    let both = and_parts above ((block_shape b).is_cycle && true) h in
    inr (b, (λ i. b ∷ []), both.0, (and_parts (block_shape b).is_cycle true both.1).0, (λ i. []))
place_of above [] (b ∷ (d ∷ bs)) h = inl (inr (omega arith))

pub cycle_view : (b : Block) → (block_shape b).is_cycle ≡ true → (nodes : Children) × (b ≡ Cycle nodes)
cycle_view b h = elim (view b) [
  | inl y ↦ absurd (false≢true (sym (ap (λ (s : BlockShape). s.is_cycle) (bridge_shape y.0)) ∙ sym (ap (λ c. (block_shape c).is_cycle) y.1) ∙ h))
  | inr y ↦ y
]

pub child_splits : (above : Bool) (x : Node) → child_fine above (shape x) ≡ true →
    (well_placed (length (vertices x) == 0) (above ∷ cycles_of (blocks x)) ≡ true) × (list_all (λ b. (block_shape b).fine) (blocks x) ≡ true)
child_splits above x h = and_parts (well_placed (length (vertices x) == 0) (above ∷ cycles_of (blocks x))) (list_all (λ b. (block_shape b).fine) (blocks x)) (sym (child_parts above x) ∙ h)

-- ---- one block of several, one node of several
pub blocks_head : (n : ℕ) (b : Block) (bs : List Block) → AreFitBlocks n (b ∷ bs) → IsFitBlock n b
blocks_head n b bs h = record {
  clean = clean_left n (entered_block b) (flat_map entered_block bs) h.clean;
  fine = (and_parts (block_shape b).fine (list_all (λ c. (block_shape c).fine) bs) h.fine).0;
}

pub blocks_tail : (n : ℕ) (b : Block) (bs : List Block) → AreFitBlocks n (b ∷ bs) → AreFitBlocks n bs
blocks_tail n b bs h = record {
  clean = clean_right n (entered_block b) (flat_map entered_block bs) h.clean;
  fine = (and_parts (block_shape b).fine (list_all (λ c. (block_shape c).fine) bs) h.fine).1;
}

pub nodes_head : (n : ℕ) (x : Node) (xs : List Node) → AreFitNodes n (x ∷ xs) → IsFit n x
nodes_head n x xs h = record {
  clean = clean_left n (entered x) (flat_map entered xs) h.clean;
  fine = (child_splits true x (and_parts (child_fine true (shape x)) (list_all (λ y. child_fine true (shape y)) xs) h.fine).0).1;
}

pub placed_below : (x : Node) → child_fine true (shape x) ≡ true → IsPlaced x
placed_below x h =
    elim (place_of true (vertices x) (blocks x) (child_splits true x h).0) [
      | inl s ↦ inl s
      | inr c ↦ (let r = cycle_view c.0 c.3 in inr (r.0, c.1 ∙ ap (λ b. b ∷ []) r.1, c.4))
    ]

pub nodes_placed : (n : ℕ) (x : Node) (xs : List Node) → AreFitNodes n (x ∷ xs) → IsPlaced x
nodes_placed n x xs h = placed_below x (and_parts (child_fine true (shape x)) (list_all (λ y. child_fine true (shape y)) xs) h.fine).0

pub nodes_tail : (n : ℕ) (x : Node) (xs : List Node) → AreFitNodes n (x ∷ xs) → AreFitNodes n xs
nodes_tail n x xs h = record {
  clean = clean_right n (entered x) (flat_map entered xs) h.clean;
  fine = (and_parts (child_fine true (shape x)) (list_all (λ y. child_fine true (shape y)) xs) h.fine).1;
}

-- ---- from a node to its blocks, from a block to its nodes
pub clean_node : (n : ℕ) (x : Node) → IsFit n x → IsClean n ((vertices x ∷ []) ++ flat_map entered_block (blocks x))
clean_node n x h = subst (IsClean n) (entered_out x) h.clean

pub node_blocks : (n : ℕ) (x : Node) → IsFit n x → AreFitBlocks n (blocks x)
node_blocks n x h = record { clean = clean_right n (vertices x ∷ []) (flat_map entered_block (blocks x)) (clean_node n x h); fine = h.fine }

pub own_apart : (n : ℕ) (x : Node) → IsFit n x → Apart (has (vertices x)) (all_of (belows (map block_part (blocks x))))
own_apart n x h v own later =
    clean_apart n (vertices x ∷ []) (flat_map entered_block (blocks x)) (clean_node n x h) v
    (ap (λ l. has l v) (append-nil (vertices x)) ∙ own)
    (ap (λ (s : VertexSet). s v) (blocks_listed (blocks x)) ∙ later)

pub solid_below : (x : Node) → child_fine false (shape x) ≡ true → IsSolid x × (list_all (λ b. (block_shape b).fine) (blocks x) ≡ true)
solid_below x h =
    let fine = child_splits false x h in
    (elim (place_of false (vertices x) (blocks x) fine.0) [ inl s ↦ s | inr c ↦ absurd (false≢true c.2) ], fine.1)

pub bridge_child_fine : (child : Box Node Global) → (block_shape (Bridge child)).fine ≡ true → child_fine false (shape child.value) ≡ true
bridge_child_fine child h = sym (ap (λ (s : BlockShape). s.fine) (bridge_shape child)) ∙ h

pub bridge_child : (n : ℕ) (child : Box Node Global) → IsFitBlock n (Bridge child) → IsFit n child.value × IsSolid child.value
bridge_child n child h =
    let fine = solid_below child.value (bridge_child_fine child h.fine) in
    (record { clean = subst (IsClean n) (entered_bridge child) h.clean; fine = fine.1 }, fine.0)

pub cycle_children_fine : (nodes : Children) → (block_shape (Cycle nodes)).fine ≡ true → (list_all (λ x. child_fine true (shape x)) (nodes_in nodes) ≡ true) × (2 ≤ length (nodes_in nodes))
cycle_children_fine nodes h =
    let xs = nodes_in nodes in
    let fine = and_parts (nat_le 2 (length (map shape xs))) (list_all (λ x. child_fine true (shape x)) xs) (sym (cycle_fine nodes) ∙ h) in
    (fine.1, omega (arith, leb-true 2 (length (map shape xs)) fine.0, length-map xs shape))

pub cycle_children : (n : ℕ) (nodes : Children) → IsFitBlock n (Cycle nodes) → AreFitNodes n (nodes_in nodes) × (2 ≤ length (nodes_in nodes))
cycle_children n nodes h =
    let fine = cycle_children_fine nodes h.fine in
    (record { clean = subst (IsClean n) (entered_cycle nodes) h.clean; fine = fine.0 }, fine.1)

-- ---- the root
pub root_fine : (n : ℕ) (root : Node) → IsCactus n root → is_normal root ≡ true → list_all (λ b. (block_shape b).fine) (blocks root) ≡ true
root_fine n root h c = sym (root_normal root 1 h.root_has_one) ∙ c

pub root_fit : (n : ℕ) (root : Node) → IsCactus n root → is_normal root ≡ true → IsFit n root
root_fit n root h c = record { clean = root_clean n root h; fine = root_fine n root h c }

pub root_solid : (n : ℕ) (root : Node) → IsCactus n root → IsSolid root
root_solid n root h = inl (1, contains_has (vertices root) 1 h.root_has_one)
