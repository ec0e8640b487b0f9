-- The trees of the first nodes of some arrays, if each has just the blocks that begin at a number or later: the last blocks are hung first.
use Rattle.std.proofs.Common.{◌≡◌, ℕ, zero, suc, ◌+◌, ◌-◌, ◌<◌, ◌≤◌, ⊎_elim, Bool, true, false, not, eqb, List, [], ◌∷◌, ◌++◌, length, map, reverse, get_or, take, drop, refl, sym, ◌∙◌, subst, ap, arith}
use Rattle.std.specs.List.{filter, range_with_len}
use Rattle.std.proofs.lemmas.Bool.{cases_eq, cases_lt}
use Rattle.std.proofs.Math.Seq.{take-append_seam, drop-append_seam}
use Rattle.std.proofs.lemmas.List.{length-map, length-reverse, map-append, reverse-append}
use Rattle.std.proofs.lemmas.List.FromFn.{length-range_with_len, length-map-range_with_len}
use Rattle.rooted_cactus.specs.declared.tree.Node.{Node}
use Rattle.rooted_cactus.specs.declared.tree.Block.{Block}
use Rattle.rooted_cactus.specs.Trees.{vertices, blocks}
use Rattle.node_tree.specs.Flat.{NodeArrays, TreeLinks, is_follower}
use Rattle.node_tree.specs.Forest.{AreFrom, IsChangedAt, AddsBlock, IsBlockOf, IsForest, IsPlaced}
use Rattle.node_tree.proofs.ForestChanges.{reverse_more}
use Rattle.node_tree.proofs.ForestFilling.{started}
use Rattle.node_tree.proofs.ForestSteps.{stepped}
use Rattle.tree_flattening.specs.Plans.{IsDrawn, own_of, heads_of, run_of}
use Rattle.tree_flattening.proofs.Stated.{IsLaidOut, plain_plan}
use Rattle.tree_flattening.proofs.Keeping.{keep, keep_whole, keep_vertices, keep_blocks, block_made}
use Rattle.tree_flattening.proofs.HeadLists.{range_front, range_first, map_range_same, map_reverse, from_range, is_head, follower_no_head, elsewhere_no_head, lead_is_head, late, late_cut, late_end, late_same, late_more, run_range}

module _ (n : ℕ) (a : NodeArrays) (node : ℕ → Node) (block : ℕ → Block) (laid : IsLaidOut n a) (drawn : IsDrawn (plain_plan n a) node block) where
  abbrev t : TreeLinks
  t = a.links

  abbrev count : ℕ
  count = length a.links.uppers

  abbrev upper : ℕ → ℕ
  upper h = get_or a.links.uppers h 0

  -- a node with the blocks that begin at a number or later
  kept : ℕ → ℕ → Node
  kept k j = keep (length (late t k j)) (node j)

  kept_vertices : (k j : ℕ) → j < count → vertices (kept k j) ≡ own_of n a j
  unfolding kept
  kept_vertices k j l = keep_vertices (length (late t k j)) (node j) ∙ drawn.own j l

  kept_blocks : (k j : ℕ) → 1 ≤ k → k ≤ count → j < count → blocks (kept k j) ≡ map block (reverse (late t k j))
  unfolding kept
  kept_blocks k j l m lt =
      let hs = late t k j in
      let early = filter (is_head t j) (range_with_len 1 (k - 1)) in
      let whole : blocks (node j) ≡ map block (reverse hs) ++ map block (reverse early) =
      drawn.hung j lt ∙ ap (λ l. map block (reverse l)) (late_cut t j 1 k l m) ∙ ap (map block) (reverse-append early hs) ∙ map-append block (reverse hs) (reverse early) in
      let many : length hs ≡ length (map block (reverse hs)) = sym (length-map (reverse hs) block ∙ length-reverse hs) in
      keep_blocks (length hs) (node j) ∙ ap (take (length hs)) whole ∙ ap (λ (k : ℕ). take k (map block (reverse hs) ++ map block (reverse early))) many ∙ take-append_seam (map block (reverse hs)) (map block (reverse early))

  -- with all of them it is the node
  kept_whole : (k j : ℕ) → 1 ≤ k → k ≤ count → j < count → ((h : ℕ) → 1 ≤ h → h < k → is_head t j h ≡ false) → kept k j ≡ node j
  unfolding kept
  kept_whole k j l m lt none =
      let many : length (blocks (node j)) ≡ length (late t k j) =
      ap length (drawn.hung j lt) ∙ length-map (reverse (heads_of t j)) block ∙ length-reverse (heads_of t j) ∙ ap length (late_same t j 1 k l m none) in
      keep_whole (length (late t k j)) (node j) (omega (arith, many))

  kept_same : (k p j : ℕ) → k ≤ p → p ≤ count → ((h : ℕ) → k ≤ h → h < p → is_head t j h ≡ false) → kept k j ≡ kept p j
  unfolding kept
  kept_same k p j l m none = ap (λ hs. keep (length hs) (node j)) (late_same t j k p l m none)

  -- the first nodes up to a number, with the blocks that begin there or later
  stage : ℕ → List Node
  stage k = map (kept k) (range_with_len 0 k)

  stage_length : (k : ℕ) → length (stage k) ≡ k
  unfolding stage
  stage_length k = length-map-range_with_len (kept k) 0 k

  -- ---- all nodes, without blocks
  none_hung : (j : ℕ) → j < count → IsPlaced n a.homes j (kept count j)
  none_hung j l = (kept_vertices count j l, kept_blocks count j laid.nodes.root (omega arith) l ∙ ap (λ hs. map block (reverse hs)) (late_end t j))

  all_placed : AreFrom (IsPlaced n a.homes) 0 (stage count)
  unfolding stage
  all_placed = from_range (IsPlaced n a.homes) (kept count) count 0 (λ j l m. none_hung j (omega (arith, m)))

  -- ---- the nodes from one on are hung below an earlier one
  module _ (first p : ℕ) (one : 1 ≤ first) (within : first < p) (high : p ≤ count) (lead : is_follower t.follows first ≡ false)
      (pending : (j : ℕ) → first < j → j < p → is_follower t.follows j ≡ true) (apart : is_follower t.follows p ≡ false) where
    abbrev old : List Node
    old = map (kept p) (range_with_len 0 first)

    abbrev group : List Node
    group = map (kept p) (range_with_len first (p - first))

    before : upper first < first
    before = laid.nodes.upper first one (omega (arith, within, high))

    old_length : length old ≡ first
    old_length = length-map-range_with_len (kept p) 0 first

    parted : stage p ≡ old ++ group
    unfolding stage
    parted = ap (map (kept p)) (range_front first p (omega (arith, within))) ∙ map-append (kept p) (range_with_len 0 first) (range_with_len first (p - first))

    front : take first (stage p) ≡ old
    front = ap (λ (k : ℕ). take k (stage p)) (sym old_length) ∙ ap (take (length old)) parted ∙ take-append_seam old group

    behind : drop first (stage p) ≡ group
    behind = ap (λ (k : ℕ). drop k (stage p)) (sym old_length) ∙ ap (drop (length old)) parted ∙ drop-append_seam old group

    -- what is below the nodes of the block begins after it
    nothing_between : (j : ℕ) → first ≤ j → j < p → (h : ℕ) → 1 ≤ h → h < p → is_head t j h ≡ false
    nothing_between j l m h one_h lt = ⊎_elim
        (λ (after : j < h). follower_no_head t j h (pending h (omega (arith, l, after)) lt))
        (λ (le : h ≤ j). elsewhere_no_head t j h (λ e. omega (arith, laid.nodes.upper h one_h (omega (arith, lt, high)), e, le)))
        (cases_lt j h)

    group_is : group ≡ map node (range_with_len first (p - first))
    group_is = map_range_same (kept p) node (p - first) first (λ j l m. let lt : j < p = omega (arith, m, within) in
        kept_whole p j (omega (arith, one, within)) high (omega (arith, lt, high)) (nothing_between j l lt))

    run_are : run_of t first ≡ range_with_len first (p - first)
    run_are = run_range t first p within high pending apart

    block_is : IsBlockOf (drop first (stage p)) (block first)
    block_is =
        let r = run_of t first in
        let lt : first < count = omega (arith, within, high) in
        let many : length (reverse r) ≡ length (map node r) = length-reverse r ∙ sym (length-map r node) in
        let some : length (map node r) ≡ p - first = length-map r node ∙ ap length run_are ∙ length-range_with_len first (p - first) in
        subst (λ l. IsBlockOf l (block first)) (ap (map node) run_are ∙ sym group_is ∙ sym behind)
        (block_made (block first) (map node r) (drawn.nodes first lt ∙ map_reverse node r) (drawn.kind first lt ∙ ap (λ (k : ℕ). not (eqb k 1)) many) (omega (arith, some, within)))

    -- only the upper node changes
    other : (j : ℕ) → (upper first ≡ j → ⊥) → kept p j ≡ kept first j
    other j ne = sym (kept_same first p j (omega (arith, within)) high (λ h l m. ⊎_elim
        (λ (e : h ≡ first). elsewhere_no_head t j h (λ u. ne (ap upper (sym e) ∙ u)))
        (λ (more : h ≡ first → ⊥). follower_no_head t j h (pending h (omega (arith, l, more)) m))
        (cases_eq h first)))

    hung : AddsBlock (block first) (kept p (upper first)) (kept first (upper first))
    hung =
        let u = upper first in
        let lt : u < count = omega (arith, before, within, high) in
        let hs = late t p u in (
          kept_vertices first u lt ∙ sym (kept_vertices p u lt),
          kept_blocks first u one (omega (arith, within, high)) lt
              ∙ ap (λ l. map block (reverse l)) (late_more t u first p within high (lead_is_head t u first lead refl) (λ h l m. follower_no_head t u h (pending h l m)))
              ∙ ap (map block) (reverse_more first hs) ∙ map-append block (reverse hs) (first ∷ [])
              ∙ ap (λ l. l ++ block first ∷ []) (sym (kept_blocks p u (omega (arith, one, within)) high lt)),
        )

    around : (k : ℕ) → map (kept k) (range_with_len 0 first) ≡ map (kept k) (range_with_len 0 (upper first)) ++ kept k (upper first) ∷ map (kept k) (range_with_len (upper first + 1) (first - (upper first + 1)))
    around k =
        ap (map (kept k)) (range_front (upper first) first (omega (arith, before)) ∙ ap (λ l. range_with_len 0 (upper first) ++ l) (range_first (upper first) first before))
        ∙ map-append (kept k) (range_with_len 0 (upper first)) (upper first ∷ range_with_len (upper first + 1) (first - (upper first + 1)))

    changed : IsChangedAt (upper first) (AddsBlock (block first)) (take first (stage p)) (stage first)
    unfolding stage
    changed =
        let u = upper first in
        let low : map (kept first) (range_with_len 0 u) ≡ map (kept p) (range_with_len 0 u) = map_range_same (kept first) (kept p) u 0 (λ j l m. sym (other j (λ e. omega (arith, e, m)))) in
        let rest : map (kept first) (range_with_len (u + 1) (first - (u + 1))) ≡ map (kept p) (range_with_len (u + 1) (first - (u + 1))) =
        map_range_same (kept first) (kept p) (first - (u + 1)) (u + 1) (λ j l m. sym (other j (λ e. omega (arith, e, l)))) in
        record {
          before = map (kept p) (range_with_len 0 u);
          node = kept p u;
          changed = kept first u;
          after = map (kept p) (range_with_len (u + 1) (first - (u + 1)));
          at = length-map-range_with_len (kept p) 0 u;
          was = front ∙ around p;
          is = around first ∙ ap (λ l. l ++ kept first u ∷ map (kept first) (range_with_len (u + 1) (first - (u + 1)))) low
              ∙ ap (λ l. map (kept p) (range_with_len 0 u) ++ kept first u ∷ l) rest;
          change = hung;
        }

  -- ---- down to the root
  record IsReached (k : ℕ) : Type 0 where
    p : ℕ
    low : k ≤ p
    high : p ≤ count
    pending : (j : ℕ) → k ≤ j → j < p → is_follower t.follows j ≡ true
    forest : IsForest n a (stage p)

  at_end : IsReached count
  at_end = record {
    p = count;
    low = omega arith;
    high = omega arith;
    pending = λ j l m. absurd (omega (arith, l, m));
    forest = started n a (stage count) laid.some laid.nodes laid.laid.same laid.root (stage_length count) all_placed;
  }

  one_less : (k : ℕ) → 1 ≤ k → IsReached (k + 1) → (b : Bool) → is_follower t.follows k ≡ b → IsReached k
  one_less k one r true e = record {
    p = r.p;
    low = omega (arith, r.low);
    high = r.high;
    pending = λ j l m. ⊎_elim
        (λ (q : j ≡ k). ap (is_follower t.follows) q ∙ e)
        (λ (ne : j ≡ k → ⊥). r.pending j (omega (arith, l, ne)) m)
        (cases_eq j k);
    forest = r.forest;
  }
  one_less k one r false e =
      let p = r.p in
      let within : k < p = omega (arith, r.low) in
      let many = stage_length p in
      let pending : (j : ℕ) → k < j → j < p → is_follower t.follows j ≡ true = λ j l m. r.pending j (omega (arith, l)) m in
      let apart : is_follower t.follows p ≡ false = ap (is_follower t.follows) (sym many) ∙ r.forest.apart in
      let made = block_is k p one within r.high e pending apart in
      let change = changed k p one within r.high e pending apart in
      record {
        p = k;
        low = omega arith;
        high = omega (arith, within, r.high);
        pending = λ j l m. absurd (omega (arith, l, m));
        forest = stepped n a laid.nodes (stage p) (omega (arith, many, r.high)) r.forest k one (omega (arith, many, within)) e (λ j l m. pending j l (omega (arith, m, many))) (block k) made (stage k) change;
      }

  reached : (d k : ℕ) → k + d ≡ count → 1 ≤ k → IsReached k
  reached zero k e one = let at : count ≡ k = omega (arith, e) in subst IsReached at at_end
  reached (suc d) k e one = one_less k one (reached d (k + 1) (omega (arith, e)) (omega arith)) (is_follower t.follows k) refl

  root_left : stage 1 ≡ node 0 ∷ []
  unfolding stage
  root_left = ap (λ x. x ∷ []) (kept_whole 1 0 (omega arith) laid.nodes.root (omega (arith, laid.nodes.root)) (λ h l m. absurd (omega (arith, l, m))))

  pub forest_of : IsForest n a (node 0 ∷ [])
  forest_of =
      let root = laid.nodes.root in
      let r = reached (count - 1) 1 (omega (arith, root)) (omega arith) in
      let alone : r.p ≡ 1 = ⊎_elim
      (λ (more : 1 < r.p). absurd (omega (arith, (laid.nodes.steady 1 (omega arith) (omega (arith, more, r.high)) (r.pending 1 (omega arith) more)).0)))
      (λ (le : r.p ≤ 1). omega (arith, le, r.low))
      (cases_lt 1 r.p) in
      let left : stage r.p ≡ node 0 ∷ [] = ap stage alone ∙ root_left in
      subst (IsForest n a) left r.forest
