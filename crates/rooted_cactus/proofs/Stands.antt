-- A finished node or block stands for what was read: if the tree is put together as it was, the same is read off it, and if
-- it is trimmed, it shows the same sets.
use Rattle.std.proofs.Common.{◌≡◌, ℕ, ◌≤◌, true, false, inl, inr, ◌==◌, List, [], ◌∷◌, length, map, reverse, ap, ◌∙◌, sym, refl, subst}
use Rattle.std.specs.declared.boxed.Box.{Box}
use Rattle.std.specs.declared.alloc.Global.{Global}
use Rattle.std.proofs.lemmas.Bool.{cases_Bool, false≢true}
use Rattle.std.proofs.Math.Bool.{and-false}
use Rattle.std.proofs.lemmas.List.{map-id}
use Rattle.std.proofs.lemmas.List.Elements.{All-head, All-tail}
use Rattle.std.specs.List.Sorted.{IsPermutation}
use Rattle.std.proofs.lemmas.List.Sorted.{IsPermutation-refl}
use Rattle.cut_definitions.proofs.Lists.{Contains-there}
use Rattle.cut_definitions.specs.Weight.{VertexSet}
use Rattle.cut_definitions.specs.Cuts.{has}
use Rattle.cut_definitions.proofs.ListLaws.{only}
use Rattle.rooted_cactus.specs.declared.tree.Node.{Node}
use Rattle.rooted_cactus.specs.declared.tree.Block.{Block}
use Rattle.rooted_cactus.specs.declared.tree.Block.TheVariants.{Bridge, Cycle}
use Rattle.rooted_cactus.specs.declared.tree.Children.{Children}
use Rattle.rooted_cactus.specs.Trees.{vertices, blocks, nodes_in}
use Rattle.rooted_cactus.specs.Sides.{part, nothing}
use Rattle.rooted_cactus.specs.Normal.{BlockShape, block_shape}
use Rattle.rooted_cactus.specs.Entries.{Read, counts_read, bridge_read, cycle_read, node_read, nodes_of, read_node, read_block, kept, top_first, NodeReads, BlockReads}
use Rattle.rooted_cactus.specs.Trims.{IsBridgeTo, IsNodeOf, IsBlockOf, IsGood, ShowsNode, ShowsChild, ShowsBlock, SameSets, Each, is_spare, trimmed_node}
use Rattle.rooted_cactus.proofs.Shapes.{bridge_shape, cycle_shape}
use Rattle.rooted_cactus.proofs.Views.{view}
use Rattle.rooted_cactus.proofs.Entries.{read_out, read_bridge, read_cycle, nodes_bridge}
use Rattle.rooted_cactus.proofs.Tops.{reversed_top}
use Rattle.rooted_cactus.proofs.Cycles.{cycle_cuts}
use Rattle.rooted_cactus.proofs.Trims.{kept_shows, one_shows, trimmed_child, GoodChildren, GoodBlocks, children_head, children_tail, blocks_head, blocks_tail, each_shows, cycle_made, node_made}

-- the block that is a bridge down to a node
pub is_bridge : (b : Block) (x : Node) → IsBridgeTo b x → (child : Box Node Global) × (b ≡ Bridge child) × (child.value ≡ x)
is_bridge b x h = elim (view b) [
  | inl y ↦ (y.0, y.1, only y.0.value x (sym (nodes_bridge y.0) ∙ sym (ap nodes_of y.1) ∙ h.1))
  | inr y ↦ absurd (false≢true (sym h.0 ∙ ap (λ c. (block_shape c).is_cycle) y.1 ∙ ap (λ (c : BlockShape). c.is_cycle) (cycle_shape y.0)))
]

pub bridge_is : (b : Block) (x : Node) (child : Box Node Global) → b ≡ Bridge child → child.value ≡ x → IsBridgeTo b x
bridge_is b x child e v = (
  ap (λ c. (block_shape c).is_cycle) e ∙ ap (λ (c : BlockShape). c.is_cycle) (bridge_shape child),
  ap nodes_of e ∙ nodes_bridge child ∙ ap (λ (y : Node). y ∷ []) v,
)

-- ---- if it is put together as it was
each_read : {X : Type 0} (f : X → Read) (rs : List Read) (xs : List X) → Each (λ r x. f x ≡ r) rs xs → map f xs ≡ rs
each_read f [] [] h = refl
each_read f [] (x ∷ xs) h = absurd h
each_read f (r ∷ rs) [] h = absurd h
each_read f (r ∷ rs) (x ∷ xs) h = ap (λ (q : Read). q ∷ map f xs) h.0 ∙ ap (λ (l : List Read). r ∷ l) (each_read f rs xs h.1)

module _ (sets : List ℕ → VertexSet) where
  pub bridge_reads : (r : Read) (x : Node) (b : Block) → IsBridgeTo b x → NodeReads sets r x → BlockReads sets (bridge_read r) b
  bridge_reads r x b is h =
      let y = is_bridge b x is in
      ap (read_block sets kept) y.1 ∙ read_bridge sets kept y.0 ∙ ap (λ (z : Node). bridge_read (read_node sets kept z)) y.2 ∙ ap bridge_read h

  pub reversed_reads : (rs : List Read) (xs : List Node) (nodes : Children) → nodes_in nodes ≡ reverse xs → Each (NodeReads sets) rs (top_first xs) → BlockReads sets (cycle_read rs) (Cycle nodes)
  reversed_reads rs xs nodes e h =
      read_cycle sets kept nodes
      ∙ ap (λ ys. cycle_read (map (read_node sets kept) ys)) (e ∙ reversed_top xs)
      ∙ ap cycle_read (each_read (read_node sets kept) rs (top_first xs) h)

  pub node_reads : (own : List ℕ) (rs : List Read) (x : Node) → vertices x ≡ own → Each (BlockReads sets) rs (blocks x) → NodeReads sets (node_read sets own rs) x
  node_reads own rs x v h =
      read_out sets kept x
      ∙ ap (λ l. node_read sets l (map (read_block sets kept) (blocks x))) v
      ∙ ap (node_read sets own) (each_read (read_block sets kept) rs (blocks x) h)

  pub leaf_reads : (own : List ℕ) (b : Block) (x : Node) → IsBridgeTo b x → vertices x ≡ own → blocks x ≡ [] → BlockReads sets (bridge_read (node_read sets own [])) b
  leaf_reads own b x is v none = bridge_reads (node_read sets own []) x b is (node_reads own [] x v (subst (Each (BlockReads sets) []) (sym none) tt))

-- ---- if it is trimmed
pub hung_shows : (r : Read) (x : Node) (b : Block) → (is_spare (vertices x) (blocks x) ≡ true → blocks x ≡ b ∷ []) → (is_spare (vertices x) (blocks x) ≡ false → IsBridgeTo b x) → IsNodeOf r x → IsBlockOf (bridge_read r) b
hung_shows r x b spare stays h good = elim (cases_Bool (is_spare (vertices x) (blocks x))) [
  | inl t ↦ one_shows r x b t (spare t) (h good)
  | inr f ↦
      let y = is_bridge b x (stays f) in
      subst (ShowsBlock (bridge_read r)) (sym y.1) (kept_shows r y.0 (ap (λ (z : Node). is_spare (vertices z) (blocks z)) y.2 ∙ f) good.cuts (subst (ShowsNode r) (sym y.2) (h good)))
]

pub cycle_shows : (rs : List Read) (xs : List Node) (nodes : Children) → nodes_in nodes ≡ map trimmed_node xs → Each IsNodeOf rs xs → IsBlockOf (cycle_read rs) (Cycle nodes)
cycle_shows rs xs nodes e h good =
    let ys = map trimmed_node xs in
    let g : GoodChildren rs = record { cuts = good.cuts; wide = All-tail (λ k. 2 ≤ k) (length rs) (counts_read rs) good.wide } in
    let shown : Each ShowsChild rs ys = each_shows (λ (r : Read). IsGood (r.part.below ∷ r.part.cuts) r.counts) IsNodeOf ShowsChild trimmed_node GoodChildren children_head children_tail (λ r x n is. trimmed_child r x is.cuts (n is)) rs xs h g in
    cycle_made rs ys nodes shown (All-head (λ k. 2 ≤ k) (length rs) (counts_read rs) good.wide) (subst (IsPermutation ys) (sym e) (IsPermutation-refl ys))
    (subst (λ zs. SameSets (cycle_cuts (map part zs)) (cycle_cuts (map part ys))) (sym e) (λ t. ((λ k. k), (λ k. k))))

module _ (sets : List ℕ → VertexSet) (own : List ℕ) (x : Node) (are : sets ≡ has) (v : vertices x ≡ own) where
  pub node_shows : (rs : List Read) → Each IsBlockOf rs (blocks x) → IsNodeOf (node_read sets own rs) x
  node_shows rs h = subst (λ (t : List ℕ → VertexSet). IsNodeOf (node_read t own rs) x) (sym are) (λ good.
      let g : GoodBlocks rs = record { cuts = λ c. good.cuts (Contains-there _ _ nothing c); wide = good.wide } in
      let shown = each_shows (λ (r : Read). IsGood r.part.cuts r.counts) IsBlockOf ShowsBlock (λ b. b) GoodBlocks blocks_head blocks_tail (λ r b n is. n is) rs (blocks x) h g in
      node_made own rs (blocks x) x v (subst (Each ShowsBlock rs) (map-id (blocks x)) shown) (IsPermutation-refl (blocks x)))

  pub leaf_shows : (b : Block) → IsBridgeTo b x → blocks x ≡ [] → IsBlockOf (bridge_read (node_read sets own [])) b
  leaf_shows b is none =
      let stays : is_spare (vertices x) (blocks x) ≡ false = ap (is_spare (vertices x)) none ∙ and-false (length (vertices x) == 0) in
      hung_shows (node_read sets own []) x b (λ t. absurd (false≢true (sym stays ∙ t))) (λ f. is) (node_shows [] (subst (Each IsBlockOf []) (sym none) tt))
