-- Each plan has a tree of nodes.
use denote.RawPtr.{null_ptr}
use Rattle.std.proofs.Common.{◌≡◌, ℕ, zero, suc, ◌+◌, ◌^◌, ◌<◌, ◌≤◌, not, ◌==◌, List, [], ◌∷◌, length, map, ap, ◌∙◌, sym, refl, arith, ne_eqb, ◌⊎◌, inl, inr}
use Rattle.std.specs.List.{Contains}
use Rattle.std.proofs.lemmas.Bool.{cases_lt}
use Rattle.std.proofs.lemmas.List.{length-map}
use Rattle.std.specs.declared.boxed.Box.{Box}
use Rattle.std.specs.declared.vec.Vec.{Vec}
use Rattle.std.specs.declared.alloc.Global.{Global}
use Rattle.cut_definitions.proofs.Lists.{Contains-here, Contains-there}
use Rattle.rooted_cactus.specs.Trees.{vertices, blocks, blocks_in}
use Rattle.rooted_cactus.specs.Entries.{nodes_of}
use Rattle.rooted_cactus.specs.Normal.{block_shape}
use Rattle.rooted_cactus.specs.declared.tree.Node.{Node, roll-Node, out-roll-Node}
use Rattle.rooted_cactus.specs.declared.tree.Block.{Block}
use Rattle.rooted_cactus.specs.declared.tree.Blocks.{Blocks, out-roll-Blocks}
use Rattle.rooted_cactus.specs.declared.tree.Children.{Children, out-roll-Children}
use Rattle.rooted_cactus.specs.declared.tree.Block.TheVariants.{Bridge, Cycle}
use Rattle.rooted_cactus.specs.declared.tree.Block.TheOpen as Open
use Rattle.rooted_cactus.specs.declared.tree.Block.TheViews.{roll-Blocks, roll-Children}
use Rattle.rooted_cactus.proofs.Entries.{nodes_bridge, nodes_cycle}
use Rattle.rooted_cactus.proofs.Shapes.{bridge_shape, cycle_shape}
use Rattle.tree_flattening.specs.Plans.{Plan, IsPlan, IsDrawn}
use Rattle.tree_flattening.proofs.Stated.{LawOfDrawing}

-- ---- boxes and vectors of given contents
heap : Global
heap = record { memory = record { seal = tt } }

box : {X : Type 0} → X → Box X Global
box x = record { ptr = null_ptr; alloc = heap; value = x }

vector : {X : Type 0} (xs : List X) → length xs < 2 ^ 63 → Vec X Global
vector xs few = record { ptr = null_ptr; len = length xs; cap = length xs; alloc = heap; items = xs; ok = (refl, omega arith); small = few }

-- a list in a vector, or none if it is too long for one
hold_by : {X : Type 0} (xs : List X) → (length xs < 2 ^ 63) ⊎ (2 ^ 63 ≤ length xs) → Vec X Global
hold_by xs (inl few) = vector xs few
hold_by xs (inr many) = vector [] (omega arith)

held_by : {X : Type 0} (xs : List X) (c : (length xs < 2 ^ 63) ⊎ (2 ^ 63 ≤ length xs)) → length xs < 2 ^ 63 → (hold_by xs c).items ≡ xs
unfolding hold_by vector
held_by xs (inl few) h = refl
held_by xs (inr many) h = absurd (omega (arith, many, h))

hold : {X : Type 0} → List X → Vec X Global
hold xs = hold_by xs (cases_lt (length xs) (2 ^ 63))

held : {X : Type 0} (xs : List X) → length xs < 2 ^ 63 → (hold xs).items ≡ xs
unfolding hold
held xs = held_by xs (cases_lt (length xs) (2 ^ 63))

-- ---- nodes and blocks of given contents
abbrev rolled : List ℕ → List Block → Open.Node-F Block Blocks Children Node
rolled own bs = record { vertices = own; blocks = roll-Blocks record { items = hold bs } }

make_node : List ℕ → List Block → Node
make_node own bs = roll-Node (rolled own bs)

make_block : List Node → Block
make_block (x ∷ []) = Bridge (box x)
make_block xs = Cycle (roll-Children record { items = hold xs })

made_vertices : (own : List ℕ) (bs : List Block) → vertices (make_node own bs) ≡ own
unfolding make_node
made_vertices own bs = ap (λ x. x.vertices) (out-roll-Node (rolled own bs))

made_blocks : (own : List ℕ) (bs : List Block) → length bs < 2 ^ 63 → blocks (make_node own bs) ≡ bs
unfolding make_node
made_blocks own bs few = ap (λ x. blocks_in x.blocks) (out-roll-Node (rolled own bs)) ∙ ap (λ x. x.items.items) (out-roll-Blocks record { items = hold bs }) ∙ held bs few

made_children : (xs : List Node) → length xs < 2 ^ 63 → nodes_of (Cycle (roll-Children record { items = hold xs })) ≡ xs
made_children xs few = nodes_cycle _ ∙ ap (λ x. x.items.items) (out-roll-Children _) ∙ held xs few

made_nodes : (xs : List Node) → length xs < 2 ^ 63 → nodes_of (make_block xs) ≡ xs
unfolding make_block box
made_nodes [] few = made_children [] few
made_nodes (x ∷ []) few = nodes_bridge (box x)
made_nodes (x ∷ y ∷ xs) few = made_children (x ∷ y ∷ xs) few

made_kind : (xs : List Node) → (block_shape (make_block xs)).is_cycle ≡ not (length xs == 1)
unfolding make_block box
made_kind [] = ap (λ s. s.is_cycle) (cycle_shape _)
made_kind (x ∷ []) = ap (λ s. s.is_cycle) (bridge_shape _)
made_kind (x ∷ y ∷ xs) = ap (λ s. s.is_cycle) (cycle_shape _) ∙ ap not (sym (ne_eqb (length (x ∷ y ∷ xs)) 1 (λ e. absurd (omega (arith, e)))))

-- ---- the nodes of a plan, from those that were made with less fuel
map_same : {X Y : Type 0} (f g : X → Y) (xs : List X) → ((x : X) → Contains xs x → f x ≡ g x) → map f xs ≡ map g xs
map_same f g [] h = refl
map_same f g (x ∷ xs) h =
    ap (λ y. y ∷ map f xs) (h x (Contains-here x xs)) ∙ ap (λ ys. g x ∷ ys) (map_same f g xs (λ y k. h y (Contains-there x xs y k)))

node_at : Plan → ℕ → ℕ → Node
node_at p zero i = make_node (p.own i) []
node_at p (suc f) i = make_node (p.own i) (map (λ h. make_block (map (node_at p f) (p.run h))) (p.heads i))

module _ (p : Plan) (is : IsPlan p) where
  abbrev block_at : ℕ → ℕ → Block
  block_at f h = make_block (map (node_at p f) (p.run h))

  -- a node is drawn alike with each fuel that is enough
  same_node : (f g i : ℕ) → p.count ≤ f + i → p.count ≤ g + i → i < p.count → node_at p f i ≡ node_at p g i
  unfolding node_at
  same_node zero g i a b l = absurd (omega (arith, a, l))
  same_node (suc f) zero i a b l = absurd (omega (arith, b, l))
  same_node (suc f) (suc g) i a b l = ap (make_node (p.own i)) (map_same (block_at f) (block_at g) (p.heads i) (λ h k.
      let above = is.heads i h l k in
      ap make_block (map_same (node_at p f) (node_at p g) (p.run h) (λ j m.
      let within = is.run h j above.1 m in
      same_node f g j (omega (arith, a, above.0, within.0)) (omega (arith, b, above.0, within.0)) within.1))))

  node_of : ℕ → Node
  node_of = node_at p p.count

  block_of : ℕ → Block
  block_of h = make_block (map node_of (p.run h))

  hung_at : (f i : ℕ) → p.count ≤ f + i → i < p.count → blocks (node_at p f i) ≡ map block_of (p.heads i)
  unfolding node_at node_of block_of
  hung_at zero i a l = absurd (omega (arith, a, l))
  hung_at (suc f) i a l =
      made_blocks (p.own i) (map (block_at f) (p.heads i)) (omega (arith, is.few_heads i l, length-map (p.heads i) (block_at f)))
      ∙ map_same (block_at f) block_of (p.heads i) (λ h k.
      let above = is.heads i h l k in
      ap make_block (map_same (node_at p f) node_of (p.run h) (λ j m.
      let within = is.run h j above.1 m in
      same_node f p.count j (omega (arith, a, above.0, within.0)) (omega arith) within.1)))

  own_at : (f i : ℕ) → vertices (node_at p f i) ≡ p.own i
  unfolding node_at
  own_at zero i = made_vertices (p.own i) []
  own_at (suc f) i = made_vertices (p.own i) (map (block_at f) (p.heads i))

  drawn : IsDrawn p node_of block_of
  unfolding node_of block_of
  drawn = record {
    own = λ i l. own_at p.count i;
    hung = λ i l. hung_at p.count i (omega arith) l;
    nodes = λ h l. made_nodes (map node_of (p.run h)) (omega (arith, is.few_nodes h l, length-map (p.run h) node_of));
    kind = λ h l. made_kind (map node_of (p.run h)) ∙ ap (λ k. not (k == 1)) (length-map (p.run h) node_of);
  }

pub drawing : LawOfDrawing
drawing p is = (node_of p is, block_of p is, drawn p is)
