-- A tree whose blocks and cycles are in order shows what the tree with the blocks and cycles from the last node on shows.
use Rattle.std.proofs.Common.{◌≡◌, ℕ, zero, suc, ◌+◌, ◌<◌, ◌≤◌, inl, inr, true, false, not, ◌==◌, Some, None, List, [], ◌∷◌, ◌++◌, length, map, reverse, ap, ◌∙◌, sym, refl, subst, arith}
use Rattle.std.specs.Prelude.{◌&&◌}
use Rattle.std.specs.List.{Contains, list_all}
use Rattle.std.specs.List.Sorted.{IsPermutation}
use Rattle.std.proofs.lemmas.Bool.{cases_eq, ne_eqb}
use Rattle.std.proofs.lemmas.List.{length-append, length-map, length-reverse}
use Rattle.std.proofs.lemmas.List.Sorted.{Contains-permutation, IsPermutation-map, IsPermutation-sym, IsPermutation-trans, IsPermutation-reverse, IsPermutation-append_right}
use Rattle.std.proofs.lemmas.Simd.{map-map}
use Rattle.cut_definitions.specs.Cuts.{has, least}
use Rattle.cut_definitions.proofs.Lists.{Contains-here}
use Rattle.rooted_cactus.specs.declared.tree.Node.{Node}
use Rattle.rooted_cactus.specs.declared.tree.Block.{Block}
use Rattle.rooted_cactus.specs.Trees.{vertices, blocks, nodes_in}
use Rattle.rooted_cactus.specs.Entries.{nodes_of, read_node, read_block, bridge_read, cycle_read, node_read, kept}
use Rattle.rooted_cactus.specs.Normal.{block_shape}
use Rattle.rooted_cactus.specs.Trims.{is_above_bridge}
use Rattle.rooted_cactus.proofs.Entries.{read_out, read_bridge, read_cycle, nodes_cycle}
use Rattle.rooted_cactus.proofs.Stands.{is_bridge}
use Rattle.canonical_cactus.specs.Canonical.{Arranged, arranged, arranged_block, all_vertices}
use Rattle.canonical_cactus.specs.Standing.{least_in, or_zero}
use Rattle.canonical_cactus.specs.Making as Making
use Rattle.canonical_cactus.specs.Making.{IsNodeOf, IsChildOf, IsBlockOf, AreChildrenOf, key_of}
use Rattle.canonical_cactus.specs.declared.parts.Placed.{Placed}
use Rattle.canonical_cactus.specs.declared.parts.Hung.{Hung}
use Rattle.canonical_cactus.proofs.Arrangement.{arranged_out, arranged_bridge, arranged_cycle}
use Rattle.canonical_cactus.proofs.Ordered.{node_in, block_in, lessers, lessers_are, node_finished, ring_finished}
use Rattle.canonical_cactus.proofs.Spared.{hung_kept, trimmed_kept}
use Rattle.node_tree.specs.Flat.{NodeArrays, is_follower}
use Rattle.tree_flattening.specs.Plans.{Plan, IsDrawn, own_of, heads_of, run_of}
use Rattle.tree_flattening.specs.Arranged.{LeastVertices, AreLeasts, AreFilled, HasNoTriangle, IsArranged, last_or, faced}
use Rattle.tree_flattening.proofs.Stated.{IsLaidOut, plain_plan}
use Rattle.tree_flattening.proofs.Runs.{head_is, run_starts, run_within}
use Rattle.rooted_cactus.proofs.Fits.{cycle_view}
use Rattle.tree_flattening.proofs.Facing.{each_mapped, sorted_mapped, none_left, last_in, least_some, least_moved, leasts_known, faced_one, faced_moves, faced_long, faces}

-- ---- the nodes and blocks of both trees
module _ (n : ℕ) (a : NodeArrays) (l : LeastVertices) (p : Plan) (node : ℕ → Node) (block : ℕ → Block) (node1 : ℕ → Node) (block1 : ℕ → Block)
    (laid : IsLaidOut n a) (filled : AreFilled n a) (wide : HasNoTriangle a.links) (leasts : AreLeasts n a l) (stands : IsArranged n a l p)
    (old : IsDrawn (plain_plan n a) node block) (new : IsDrawn p node1 block1) where
  abbrev count : ℕ
  count = length a.links.uppers

  abbrev placed : ℕ → Placed
  placed i = record { node = node1 i; least = least_in (arranged (node1 i)).vertices }

  abbrev hung : ℕ → Hung
  hung h = record { block = block1 h; least = least_in (arranged_block (block1 h)).vertices }

  -- a node and a block of the tree in order show what is read off those of the other, and their least vertices are the given ones
  abbrev NodeKnown : ℕ → Type 0
  NodeKnown i = IsNodeOf (read_node has kept (node i)) (placed i) × ((placed i).least ≡ Some (l.nodes i))

  abbrev BlockKnown : ℕ → Type 0
  BlockKnown h = IsBlockOf (read_block has kept (block h)) (hung h) × ((hung h).least ≡ Some (l.blocks h))

  same_own : (i : ℕ) → i < count → vertices (node1 i) ≡ own_of n a i
  same_own i lt =
      let here : i < p.count = omega (arith, lt, stands.count) in
      new.own i here ∙ stands.own i here

  not_empty : (i : ℕ) → i < count → (length (vertices (node1 i)) == 0) ≡ false
  not_empty i lt = ap (λ vs. length vs == 0) (same_own i lt) ∙ ne_eqb (length (own_of n a i)) 0 (λ e. omega (arith, e, filled i lt))

  run_drawn : (h : ℕ) → h < count → nodes_of (block1 h) ≡ map node1 (faced l.nodes h (run_of a.links h))
  run_drawn h lt =
      let here : h < p.count = omega (arith, lt, stands.count) in
      new.nodes h here ∙ ap (map node1) (stands.run h here)

  kind_drawn : (h : ℕ) → h < count → (block_shape (block1 h)).is_cycle ≡ not (length (faced l.nodes h (run_of a.links h)) == 1)
  kind_drawn h lt =
      let here : h < p.count = omega (arith, lt, stands.count) in
      new.kind h here ∙ ap (λ r. not (length r == 1)) (stands.run h here)

  -- a bridge
  bridge_known : (h : ℕ) → 1 ≤ h → h < count → is_follower a.links.follows h ≡ false → run_of a.links h ≡ h ∷ [] → NodeKnown h → BlockKnown h
  bridge_known h some lt first alone known =
      let one : faced l.nodes h (run_of a.links h) ≡ h ∷ [] = ap (faced l.nodes h) alone ∙ faced_one l.nodes h in
      let x = is_bridge (block h) (node h) (old.kind h lt ∙ ap (λ r. not (length (reverse r) == 1)) alone, old.nodes h lt ∙ ap (λ r. map node (reverse r)) alone) in
      let y = is_bridge (block1 h) (node1 h) (kind_drawn h lt ∙ ap (λ r. not (length r == 1)) one, run_drawn h lt ∙ ap (map node1) one) in
      let read : read_block has kept (block h) ≡ bridge_read (read_node has kept (node h)) =
      ap (read_block has kept) x.1 ∙ read_bridge has kept x.0 ∙ ap (λ z. bridge_read (read_node has kept z)) x.2 in
      let same : (hung h).least ≡ (placed h).least =
      ap (λ b. least_in (arranged_block b).vertices) y.1 ∙ ap (λ (k : Arranged). least_in k.vertices) (arranged_bridge y.0) ∙ ap (λ z. least_in (arranged z).vertices) y.2 in (
        subst (λ r. IsBlockOf r (hung h)) (sym read)
            (hung_kept (read_node has kept (node h)) (placed h) y.0 (hung h) y.2 y.1 same (ap (λ b. b && (length (blocks (node1 h)) == 1)) (not_empty h lt)) known.0),
        same ∙ known.1 ∙ ap Some (sym (leasts.blocks h some lt first ∙ ap (λ r. least (map l.nodes r)) alone)),
      )

  -- a cycle
  cycle_known : (h : ℕ) → 1 ≤ h → h < count → is_follower a.links.follows h ≡ false → (rest : List ℕ) → run_of a.links h ≡ h ∷ rest → (length rest ≡ 0 → ⊥) →
      ((j : ℕ) → Contains (run_of a.links h) j → NodeKnown j) → BlockKnown h
  cycle_known h some lt first rest starts more known =
      let run = run_of a.links h in
      let qs = faced l.nodes h run in
      let f : ℕ → Arranged = λ j. arranged (node1 j) in
      let long : length run ≡ length rest + 1 = omega (arith, ap length starts) in
      let longer : (xs : List ℕ) → length xs ≡ length run → not (length xs == 1) ≡ true = λ xs e. ap not (ne_eqb (length xs) 1 (λ o. more (omega (arith, o, e, long)))) in
      let x = cycle_view (block h) (old.kind h lt ∙ longer (reverse run) (length-reverse run)) in
      let y = cycle_view (block1 h) (kind_drawn h lt ∙ longer qs (faced_long l.nodes h run)) in
      let under : nodes_in x.0 ≡ map node (reverse run) = sym (nodes_cycle x.0) ∙ sym (ap nodes_of x.1) ∙ old.nodes h lt in
      let under1 : nodes_in y.0 ≡ map node1 qs = sym (nodes_cycle y.0) ∙ sym (ap nodes_of y.1) ∙ run_drawn h lt in
      let rs = map (λ j. read_node has kept (node j)) (reverse run) in
      let ps = map placed (reverse run) in
      let read : read_block has kept (block h) ≡ cycle_read rs =
      ap (read_block has kept) x.1 ∙ read_cycle has kept x.0 ∙ ap (λ zs. cycle_read (map (read_node has kept) zs)) under ∙ ap cycle_read (map-map (read_node has kept) node (reverse run)) in
      let back : (j : ℕ) → Contains (reverse run) j → Contains run j = λ j k. Contains-permutation (reverse run) run j (IsPermutation-sym run (reverse run) (IsPermutation-reverse run)) k in
      let children : AreChildrenOf rs ps = each_mapped IsChildOf (λ j. read_node has kept (node j)) placed (reverse run)
      (λ j k. trimmed_kept (read_node has kept (node j)) (placed j) (stays j (run_within a.links h j lt (back j k)).1) (known j (back j k)).0) in
      let turned : Making.faced ps ≡ map placed qs =
      ap (λ r. Making.faced (map placed (reverse r))) starts
      ∙ faces placed l.nodes h rest (known h (in_run run starts h (Contains-here h rest))).1 (known (last_or h rest) (in_run run starts (last_or h rest) (last_in h rest))).1
      ∙ ap (λ r. map placed (faced l.nodes h r)) (sym starts) in
      let whole : (hung h).least ≡ least_in (all_vertices (map f qs)) =
      ap (λ b. least_in (arranged_block b).vertices) y.1 ∙ ap (λ (k : Arranged). least_in k.vertices) (arranged_cycle y.0)
      ∙ ap (λ zs. least_in (all_vertices (map arranged zs))) under1 ∙ ap (λ ks. least_in (all_vertices ks)) (map-map arranged node1 qs) in
      let moved : IsPermutation run qs = faced_moves l.nodes h run in
      let one_by_one : lessers None (map (λ (q : Placed). q.least) (Making.faced ps)) ≡ least_in (all_vertices (map f qs)) =
      ap (λ (zs : List Placed). lessers None (map (λ (q : Placed). q.least) zs)) turned
      ∙ ap (lessers None) (map-map (λ (q : Placed). q.least) placed qs)
      ∙ lessers_are f (λ j. (placed j).least) [] qs (λ j k. refl) in (
        subst (λ r. IsBlockOf r (hung h)) (sym read)
            (ring_finished rs ps y.0 (hung h) y.1 (under1 ∙ sym (ap (map node_in) turned ∙ map-map node_in placed qs)) (whole ∙ sym one_by_one)
            (λ two. wide h some lt first (sym (length-reverse run) ∙ sym (length-map (reverse run) (λ j. read_node has kept (node j))) ∙ two)) children),
        whole ∙ leasts_known f l.nodes qs (λ j k. (known j (Contains-permutation qs run j (IsPermutation-sym run qs moved) k)).1) []
            ∙ sym (least_moved (map l.nodes run) (map l.nodes qs) (IsPermutation-map l.nodes run qs moved))
            ∙ least_some (map l.nodes run) (omega (arith, long, length-map run l.nodes))
            ∙ ap Some (sym (leasts.blocks h some lt first)),
      )
    where
      stays : (j : ℕ) → j < count → is_above_bridge (vertices (node1 j)) (blocks (node1 j)) ≡ false
      stays j lt = ap (λ b. (b && (length (blocks (node1 j)) == 1)) && list_all (λ c. not (block_shape c).is_cycle) (blocks (node1 j))) (not_empty j lt)

      in_run : (run : List ℕ) → run ≡ h ∷ rest → (j : ℕ) → Contains (h ∷ rest) j → Contains run j
      in_run run e j k = subst (λ r. Contains r j) (sym e) k

  block_known : (h : ℕ) → 1 ≤ h → h < count → is_follower a.links.follows h ≡ false → ((j : ℕ) → h ≤ j → j < count → NodeKnown j) → BlockKnown h
  block_known h some lt first known =
      let starts = run_starts a.links h in
      elim (cases_eq (length starts.0) 0) [
        | inl e ↦ bridge_known h some lt first (starts.1 ∙ ap (λ r. h ∷ r) (none_left starts.0 e)) (known h (omega arith) lt)
        | inr ne ↦ cycle_known h some lt first starts.0 starts.1 ne (λ j k. let r = run_within a.links h j lt k in known j r.0 r.1)
      ]

  -- a node
  node_known : (i : ℕ) → i < count → ((h : ℕ) → Contains (heads_of a.links i) h → BlockKnown h) → NodeKnown i
  node_known i lt known =
      let here : i < p.count = omega (arith, lt, stands.count) in
      let own = own_of n a i in
      let heads = heads_of a.links i in
      let ks = p.heads i in
      let f : ℕ → Arranged = λ h. arranged_block (block1 h) in
      let rs = map (λ h. read_block has kept (block h)) (reverse heads) in
      let back : (h : ℕ) → Contains ks h → Contains heads h = λ h k. Contains-permutation ks heads h (IsPermutation-sym heads ks (stands.moved i here)) k in
      let ahead : IsPermutation (reverse heads) heads = IsPermutation-sym heads (reverse heads) (IsPermutation-reverse heads) in
      let read : read_node has kept (node i) ≡ node_read has own rs =
      read_out has kept (node i) ∙ ap (λ vs. node_read has vs (map (read_block has kept) (blocks (node i)))) (old.own i lt)
      ∙ ap (λ bs. node_read has own (map (read_block has kept) bs)) (old.hung i lt) ∙ ap (node_read has own) (map-map (read_block has kept) block (reverse heads)) in
      let whole : (placed i).least ≡ least_in (own ++ all_vertices (map f ks)) =
      ap (λ (k : Arranged). least_in k.vertices) (arranged_out (node1 i)) ∙ ap (λ vs. least_in (vs ++ all_vertices (map arranged_block (blocks (node1 i))))) (same_own i lt)
      ∙ ap (λ bs. least_in (own ++ all_vertices (map arranged_block bs))) (new.hung i here) ∙ ap (λ xs. least_in (own ++ all_vertices xs)) (map-map arranged_block block1 ks) in
      let one_by_one : lessers (least_in own) (map (λ (h : Hung). h.least) (map hung ks)) ≡ least_in (own ++ all_vertices (map f ks)) =
      ap (lessers (least_in own)) (map-map (λ (h : Hung). h.least) hung ks) ∙ lessers_are f (λ h. (hung h).least) own ks (λ h k. refl) in (
        subst (λ r. IsNodeOf r (placed i)) (sym read)
            (node_finished own rs (map hung (reverse heads)) (map hung ks) (placed i)
            (IsPermutation-map hung (reverse heads) ks (IsPermutation-trans (reverse heads) heads ks ahead (stands.moved i here)))
            (sorted_mapped key_of hung l.blocks ks (λ h k. ap or_zero (known h (back h k)).1) (stands.sorted i here))
            (same_own i lt) (new.hung i here ∙ sym (map-map block_in hung ks)) (whole ∙ sym one_by_one)
            (each_mapped IsBlockOf (λ h. read_block has kept (block h)) hung (reverse heads) (λ h k. (known h (Contains-permutation (reverse heads) heads h ahead k)).0))),
        whole ∙ leasts_known f l.blocks ks (λ h k. (known h (back h k)).1) own
            ∙ sym (least_moved (own ++ map l.blocks heads) (own ++ map l.blocks ks) (IsPermutation-append_right own (map l.blocks heads) (map l.blocks ks) (IsPermutation-map l.blocks heads ks (stands.moved i here))))
            ∙ least_some (own ++ map l.blocks heads) (omega (arith, filled i lt, length-append own (map l.blocks heads)))
            ∙ ap Some (sym (leasts.nodes i lt)),
      )

  -- all nodes, from the last down
  all_known : (m i : ℕ) → count ≤ i + m → i < count → NodeKnown i
  all_known zero i le lt = absurd (omega (arith, le, lt))
  all_known (suc m) i le lt =
      node_known i lt (λ h k.
      let is = head_is a.links laid.nodes.upper i h k in
      block_known h (omega (arith, is.after)) is.before is.first (λ j from below. all_known m j (omega (arith, le, from, is.after)) below))

  pub in_order : IsNodeOf (read_node has kept (node 0)) (placed 0)
  in_order = (all_known count 0 (omega arith) (omega (arith, laid.nodes.root))).0
