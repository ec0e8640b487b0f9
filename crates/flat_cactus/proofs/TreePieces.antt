-- Each tree is a piece of its flat cactus: the edges that the cuts of the flat cactus take away cut off just the ranges of the cuts of the tree.
use Rattle.std.proofs.Common.{◌≡◌, ℕ, ◌+◌, ◌<◌, false, List, [], ◌∷◌, ◌++◌, inl, inr, map, refl, sym, ◌∙◌, ap, subst, arith}
use Rattle.std.specs.List.{AllByRecursion}
use Rattle.std.specs.declared.boxed.Box.{Box}
use Rattle.std.specs.declared.alloc.Global.{Global}
use Rattle.std.proofs.lemmas.Bool.{cases_lt}
use Rattle.rooted_cactus.specs.Trees.{blocks, nodes_in}
use Rattle.rooted_cactus.specs.declared.tree.Node.{Node}
use Rattle.rooted_cactus.specs.declared.tree.Block.{Block}
use Rattle.rooted_cactus.specs.declared.tree.Children.{Children}
use Rattle.rooted_cactus.specs.declared.tree.Block.TheVariants.{Bridge, Cycle}
use Rattle.rooted_cactus.specs.CutRanges.{Range, Layout, layout, block_layout, sizes_in, size_along, ranges_along, interval_ranges, side_by_side, node_layout, bridge_layout, cycle_layout}
use Rattle.flat_cactus.specs.Flattened.{Joins, TreeJoins, BlockJoins, tree_joins, block_joins, trees_size, roots_from, trees_from, blocks_size, blocks_from, node_joins, bridge_joins, cycle_joins}
use Rattle.rooted_cactus.proofs.CutRanges.{layout_out, layout_bridge, layout_cycle}
use Rattle.flat_cactus.proofs.JoinsOut.{joins_out, joins_bridge, joins_cycle}
use Rattle.rooted_cactus.proofs.Induction.{tree_induction}
use Rattle.flat_cactus.proofs.Closing.{Edges}
use Rattle.flat_cactus.proofs.Pieces.{inside, before_range, behind_range, IsCutOff, IsPiece, no_piece, piece_beside}
use Rattle.flat_cactus.proofs.Hanging.{bridge_piece, sizes, AreLinked, no_trees, more_trees, roots_each}
use Rattle.flat_cactus.proofs.Rounds.{cycle_piece}

-- a tree, whatever number its root has
pub record IsTree (q : Layout) (t : TreeJoins) : Type 0 where
  pub size : q.size ≡ t.size
  pub some : 0 < t.size
  pub piece : (k : ℕ) → IsPiece (k ∷ []) k t.size (q.ranges k) (t.joins k)

-- a block, whatever numbers its upper node and the first node below have
pub record IsHung (q : Layout) (b : BlockJoins) : Type 0 where
  pub size : q.size ≡ b.size
  pub piece : (up first : ℕ) → up < first → IsPiece (up ∷ []) first b.size (q.ranges first) (b.joins up first)

abbrev TreeHolds : Node → Type 0
TreeHolds x = IsTree (layout x) (tree_joins x)

abbrev BlockHolds : Block → Type 0
BlockHolds b = IsHung (block_layout b) (block_joins b)

-- ---- a node above blocks
cut_wider : (k n : ℕ) (r : Range) (left : Edges) → IsCutOff (k ∷ []) (k + 1) n r left → IsCutOff (k ∷ []) k (1 + n) r left
cut_wider k n r left c = record {
  low = omega (arith, c.low);
  some = c.some;
  high = omega (arith, c.high);
  seeds_outside = c.seeds_outside;
  uncrossed = c.uncrossed;
  reached = λ set h e i p q o. elim (cases_lt k i) [ inl u ↦ c.reached set h e i (omega (arith, u)) (omega (arith, q)) o | inr u ↦ (let same : i ≡ k = omega (arith, u, p) in ap set same ∙ e.0) ];
}

piece_wider : (k n : ℕ) (rs : List Range) (j : Joins) → IsPiece (k ∷ []) (k + 1) n rs j → IsPiece (k ∷ []) k (1 + n) rs j
piece_wider k n rs j g = record {
  linked = record {
    closed = λ set b e h. g.linked.closed set b e (λ i p q. h i (omega (arith, p)) (omega (arith, q)));
    reached = λ set h e i p q. elim (cases_lt k i) [ inl u ↦ g.linked.reached set h e i (omega (arith, u)) (omega (arith, q)) | inr u ↦ (let same : i ≡ k = omega (arith, u, p) in ap set same ∙ e.0) ];
  };
  each_range = λ r h. elim (g.each_range r h) [ inl y ↦ inl (y.0, y.1, cut_wider k n r _ y.2) | inr y ↦ inr (y.0, y.1, cut_wider k n r _ y.2) ];
  each_bridge = λ l h. let z = g.each_bridge l h in (z.0, z.1, cut_wider k n z.0 _ z.2);
  each_cycle = λ l h. let z = g.each_cycle l h in (z.0, z.1, cut_wider k n z.0 _ z.2);
}

blocks_piece : (bs : List Block) → AllByRecursion BlockHolds bs → (up first : ℕ) → up < first →
    IsPiece (up ∷ []) first (blocks_size (map block_joins bs)) (ranges_along (map block_layout bs) first) (blocks_from up first (map block_joins bs))
blocks_piece [] h up first a = no_piece (up ∷ []) first
blocks_piece (b ∷ bs) h up first a =
    let size = (block_joins b).size in
    let rest = map block_layout bs in
    subst (λ s. IsPiece (up ∷ []) first (blocks_size (map block_joins (b ∷ bs))) ((block_layout b).ranges first ++ ranges_along rest (first + s)) (blocks_from up first (map block_joins (b ∷ bs)))) (sym h.0.size)
    (piece_beside (up ∷ []) (up ∷ []) (up ∷ []) first size (blocks_size (map block_joins bs)) (λ set x e. e) (λ set x e. e) (λ r p e. e) (λ r p e. e)
    ((block_layout b).ranges first) (ranges_along rest (first + size)) ((block_joins b).joins up first) (blocks_from up (first + size) (map block_joins bs))
    (h.0.piece up first a) (blocks_piece bs h.1 up (first + size) (omega (arith, a))))

blocks_sizes : (bs : List Block) → AllByRecursion BlockHolds bs → size_along (map block_layout bs) ≡ blocks_size (map block_joins bs)
blocks_sizes [] h = refl
blocks_sizes (b ∷ bs) h = omega (arith, h.0.size, blocks_sizes bs h.1)

node_holds : (x : Node) → AllByRecursion BlockHolds (blocks x) → TreeHolds x
node_holds x h =
    let qs = map block_layout (blocks x) in
    let bs = map block_joins (blocks x) in
    let here : IsTree (node_layout (side_by_side qs)) (node_joins bs) = record {
      size = omega (arith, blocks_sizes (blocks x) h);
      some = omega arith;
      piece = λ k. piece_wider k (blocks_size bs) (ranges_along qs (k + 1)) (blocks_from k (k + 1) bs) (blocks_piece (blocks x) h k (k + 1) (omega arith));
    } in
    subst (λ q. IsTree q (tree_joins x)) (sym (layout_out x)) (subst (IsTree (node_layout (side_by_side qs))) (sym (joins_out x)) here)

-- ---- a bridge
bridge_holds : (child : Box Node Global) → TreeHolds child.value → BlockHolds (Bridge child)
bridge_holds child h =
    let q = layout child.value in
    let t = tree_joins child.value in
    let here : IsHung (bridge_layout q) (bridge_joins t) = record {
      size = h.size;
      piece = λ up first a. subst (λ s. IsPiece (up ∷ []) first t.size (record { from = first; to = first + s } ∷ q.ranges first) ((bridge_joins t).joins up first)) (sym h.size)
          (bridge_piece up first t.size a h.some (q.ranges first) (t.joins first) (h.piece first));
    } in
    subst (λ r. IsHung r (block_joins (Bridge child))) (sym (layout_bridge child)) (subst (IsHung (bridge_layout q)) (sym (joins_bridge child)) here)

-- ---- a cycle
trees_linked : (xs : List Node) → AllByRecursion TreeHolds xs → AreLinked (map tree_joins xs)
trees_linked [] h = no_trees
trees_linked (x ∷ xs) h = more_trees (tree_joins x) (map tree_joins xs) (record { some = h.0.some; linked = λ k. (h.0.piece k).linked }) (trees_linked xs h.1)

trees_piece : (xs : List Node) → AllByRecursion TreeHolds xs → (k : ℕ) →
    IsPiece (roots_from k (map tree_joins xs)) k (trees_size (map tree_joins xs)) (ranges_along (map layout xs) k) (trees_from k (map tree_joins xs))
trees_piece [] h k = no_piece [] k
trees_piece (x ∷ xs) h k =
    let t = tree_joins x in
    let ts = map tree_joins xs in
    let qs = map layout xs in
    let linked : AreLinked ts = trees_linked xs h.1 in
    subst (λ s. IsPiece (roots_from k (t ∷ ts)) k (trees_size (t ∷ ts)) ((layout x).ranges k ++ ranges_along qs (k + s)) (trees_from k (t ∷ ts))) (sym h.0.size)
    (piece_beside (roots_from k (t ∷ ts)) (k ∷ []) (roots_from (k + t.size) ts) k t.size (trees_size ts)
    (λ set b e. (e.0, tt))
    (λ set b e. e.1)
    (λ r p e. (e.0, roots_each ts linked (inside r) false (k + t.size) (λ i y z. behind_range r i (omega (arith, p, y)))))
    (λ r p e. (before_range r k (omega (arith, h.0.some, p)), e))
    ((layout x).ranges k) (ranges_along qs (k + t.size)) (t.joins k) (trees_from (k + t.size) ts)
    (h.0.piece k) (trees_piece xs h.1 (k + t.size)))

trees_sizes : (xs : List Node) → AllByRecursion TreeHolds xs → size_along (map layout xs) ≡ trees_size (map tree_joins xs)
trees_sizes [] h = refl
trees_sizes (x ∷ xs) h = omega (arith, h.0.size, trees_sizes xs h.1)

same_sizes : (xs : List Node) → AllByRecursion TreeHolds xs → sizes_in (map layout xs) ≡ sizes (map tree_joins xs)
same_sizes [] h = refl
same_sizes (x ∷ xs) h = ap (λ s. s ∷ sizes_in (map layout xs)) h.0.size ∙ ap (λ l. (tree_joins x).size ∷ l) (same_sizes xs h.1)

cycle_holds : (nodes : Children) → AllByRecursion TreeHolds (nodes_in nodes) → BlockHolds (Cycle nodes)
cycle_holds nodes h =
    let qs = map layout (nodes_in nodes) in
    let ts = map tree_joins (nodes_in nodes) in
    let here : IsHung (cycle_layout qs) (cycle_joins ts) = record {
      size = trees_sizes (nodes_in nodes) h;
      piece = λ up first a. subst (λ l. IsPiece (up ∷ []) first (trees_size ts) (interval_ranges l first ++ ranges_along qs first) ((cycle_joins ts).joins up first)) (sym (same_sizes (nodes_in nodes) h))
          (cycle_piece up first ts a (trees_linked (nodes_in nodes) h) (ranges_along qs first) (trees_piece (nodes_in nodes) h first));
    } in
    subst (λ r. IsHung r (block_joins (Cycle nodes))) (sym (layout_cycle nodes)) (subst (IsHung (cycle_layout qs)) (sym (joins_cycle nodes)) here)

-- each tree is a piece
pub tree_holds : (x : Node) → IsTree (layout x) (tree_joins x)
tree_holds = tree_induction TreeHolds BlockHolds node_holds bridge_holds cycle_holds
