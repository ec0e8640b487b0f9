-- A node with only the first of its blocks, and the block that a list of nodes makes.
use Rattle.std.proofs.Common.{◌≡◌, ℕ, ◌≤◌, ⊎_elim, Bool, true, false, cond, not, leb, eqb, List, [], ◌∷◌, length, take, reverse, inl, inr, refl, sym, ◌∙◌, subst, ap, arith}
use Rattle.std.specs.declared.vec.Vec.{Vec}
use Rattle.std.specs.declared.alloc.Global.{Global}
use Rattle.std.proofs.lemmas.Bool.{cases_eq, le-leb, leb-true, eq-eqb, false≢true}
use Rattle.std.proofs.lemmas.List.{length-take, reverse-reverse, take_all}
use Rattle.rooted_cactus.specs.declared.tree.Node.{Node, out-Node, out-roll-Node}
use Rattle.rooted_cactus.specs.declared.tree.Block.{Block}
use Rattle.rooted_cactus.specs.declared.tree.Blocks.{out-Blocks, out-roll-Blocks}
use Rattle.rooted_cactus.specs.declared.tree.Block.TheViews.{roll-Node, roll-Blocks}
use Rattle.rooted_cactus.specs.Trees.{vertices, blocks, blocks_in}
use Rattle.rooted_cactus.specs.Entries.{nodes_of}
use Rattle.rooted_cactus.specs.Normal.{block_shape}
use Rattle.rooted_cactus.proofs.Entries.{nodes_bridge, nodes_cycle}
use Rattle.rooted_cactus.proofs.Shapes.{cycle_shape}
use Rattle.rooted_cactus.proofs.Views.{view}
use Rattle.node_tree.specs.Forest.{IsBlockOf}
use Rattle.node_tree.proofs.ForestBlocks.{bridge_block, cycle_block}

-- ---- the first blocks of a node
abbrev first_items : {X : Type 0} → ℕ → Vec X Global → Vec X Global
first_items m v = record {
  ptr = v.ptr;
  len = length (take m v.items);
  cap = v.cap;
  alloc = v.alloc;
  items = take m v.items;
  ok = (refl, omega (arith, v.ok.0, v.ok.1, length-take m v.items));
  small = v.small;
}

abbrev trimmed : ℕ → Node → Node
trimmed m x = roll-Node (record { vertices = vertices x; blocks = roll-Blocks (record { items = first_items m (out-Blocks (out-Node x).blocks).items }) })

trimmed_vertices : (m : ℕ) (x : Node) → vertices (trimmed m x) ≡ vertices x
trimmed_vertices m x = ap (λ y. y.vertices) (out-roll-Node (record { vertices = vertices x; blocks = roll-Blocks (record { items = first_items m (out-Blocks (out-Node x).blocks).items }) }))

trimmed_blocks : (m : ℕ) (x : Node) → blocks (trimmed m x) ≡ take m (blocks x)
trimmed_blocks m x =
    ap (λ y. blocks_in y.blocks) (out-roll-Node (record { vertices = vertices x; blocks = roll-Blocks (record { items = first_items m (out-Blocks (out-Node x).blocks).items }) }))
    ∙ ap (λ y. y.items.items) (out-roll-Blocks (record { items = first_items m (out-Blocks (out-Node x).blocks).items }))

-- a node with only some of its blocks; with all of them it is the node itself
pub keep : ℕ → Node → Node
keep m x = cond (leb (length (blocks x)) m) x (trimmed m x)

pub keep_whole : (m : ℕ) (x : Node) → length (blocks x) ≤ m → keep m x ≡ x
unfolding keep
keep_whole m x h = ap (λ t. cond t x (trimmed m x)) (le-leb (length (blocks x)) m h)

pub keep_vertices : (m : ℕ) (x : Node) → vertices (keep m x) ≡ vertices x
unfolding keep
keep_vertices m x = by_test (leb (length (blocks x)) m) where
  by_test : (t : Bool) → vertices (cond t x (trimmed m x)) ≡ vertices x
  by_test true = refl
  by_test false = trimmed_vertices m x

pub keep_blocks : (m : ℕ) (x : Node) → blocks (keep m x) ≡ take m (blocks x)
unfolding keep
keep_blocks m x = by_test (leb (length (blocks x)) m) refl where
  by_test : (t : Bool) → leb (length (blocks x)) m ≡ t → blocks (cond t x (trimmed m x)) ≡ take m (blocks x)
  by_test true e = sym (take_all m (blocks x) (leb-true (length (blocks x)) m e))
  by_test false e = trimmed_blocks m x

-- ---- a block whose nodes are those of a list, from the last to the first
pub block_made : (b : Block) (xs : List Node) → nodes_of b ≡ reverse xs → (block_shape b).is_cycle ≡ not (eqb (length xs) 1) → 1 ≤ length xs → IsBlockOf xs b
block_made b xs nodes kind some = elim (view b) [
  | inl h ↦
      let one : xs ≡ h.0.value ∷ [] = sym (reverse-reverse xs) ∙ ap reverse (sym nodes ∙ ap nodes_of h.1 ∙ nodes_bridge h.0) in
      subst (IsBlockOf xs) (sym h.1) (bridge_block xs h.0 h.0.value refl one)
  | inr h ↦
      let cycle : true ≡ not (eqb (length xs) 1) = sym (ap (λ s. s.is_cycle) (ap block_shape h.1 ∙ cycle_shape h.0)) ∙ kind in
      subst (IsBlockOf xs) (sym h.1) (cycle_block xs h.0 (sym (nodes_cycle h.0) ∙ sym (ap nodes_of h.1) ∙ nodes) (two (length xs) some cycle))
] where
  two : (k : ℕ) → 1 ≤ k → true ≡ not (eqb k 1) → 2 ≤ k
  two k l e = ⊎_elim
      (λ (q : k ≡ 1). absurd (false≢true (sym (e ∙ ap not (eq-eqb k 1 q)))))
      (λ (ne : k ≡ 1 → ⊥). omega (arith, l, ne))
      (cases_eq k 1)
