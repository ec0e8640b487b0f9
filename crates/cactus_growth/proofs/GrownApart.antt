-- Two vertices below different blocks of a node, or in the node: both are merged up into it.
use Rattle.std.proofs.Common.{◌≡◌, ℕ, zero, suc, inl, inr, true, ◌||◌, List, [], ◌∷◌, map, Some, refl, ap, ◌∙◌, sym, subst, arith}
use Rattle.std.specs.Prelude.{slice_get, ◌≢◌}
use Rattle.std.specs.List.{Contains, flat_map}
use Rattle.std.proofs.lemmas.Bool.{cases_Bool, false≢true}
use Rattle.std.proofs.lemmas.List.Elements.{Contains-append_cases}
use Rattle.cut_definitions.specs.Weight.{VertexSet}
use Rattle.cut_definitions.specs.Cuts.{has}
use Rattle.cut_definitions.proofs.Lists.{Contains-nil}
use Rattle.rooted_cactus.specs.Sides.{Part, part, block_part, all_of, belows, all_cuts}
use Rattle.rooted_cactus.specs.Entered.{entered, entered_block}
use Rattle.rooted_cactus.specs.Entries.{nodes_of}
use Rattle.rooted_cactus.specs.Trees.{vertices, blocks}
use Rattle.rooted_cactus.specs.declared.tree.Node.{Node}
use Rattle.rooted_cactus.specs.declared.tree.Block.{Block}
use Rattle.rooted_cactus.proofs.Orders.{entered_out}
use Rattle.rooted_cactus.proofs.Trims.{cuts_out}
use Rattle.rooted_cactus.proofs.BlockLaws.{block_laid}
use Rattle.cactus_growth.specs.Growth.{times, AreOnce, IsGrown, IsPulled}
use Rattle.cactus_growth.specs.Ways.{HasChild, LeadsTo}
use Rattle.cactus_growth.specs.declared.ways.Step.{Step}
use Rattle.cactus_growth.proofs.Counts.{count_both, count_some}
use Rattle.cactus_growth.proofs.Opened.{blocks_listed, own_lacks, walk_part}
use Rattle.cactus_growth.proofs.Pulled.{times_more}
use Rattle.rooted_cactus.proofs.Within.{block_within, of_lists}
use Rattle.cactus_growth.proofs.WaysDown.{way_inside, one_of_all, below_at}

-- ---- which block has a vertex below it
block_listed : (b : Block) (v : ℕ) → (block_part b).below v ≡ of_lists (entered_block b) v
block_listed b v = ap (λ (t : VertexSet). t v) (block_laid b).below

-- if no vertex is in two nodes, one is below one block alone
one_block : (bs : List Block) (v i j : ℕ) (b c : Block) → AreOnce (flat_map entered_block bs) → slice_get bs i ≡ Some b → slice_get bs j ≡ Some c → (block_part b).below v ≡ true → (block_part c).below v ≡ true → i ≡ j
one_block [] v i j b c once f g h k = cc
one_block (x ∷ xs) v zero zero b c once f g h k = refl
one_block (x ∷ xs) v zero (suc j) b c once f g h k =
    let is : x ≡ b = cc in
    absurd (omega (
      arith,
      once v,
      count_both v (entered_block x) (flat_map entered_block xs),
      count_some v (entered_block x) (sym (block_listed x v) ∙ ap (λ y. (block_part y).below v) is ∙ h),
      count_some v (flat_map entered_block xs) (sym (blocks_listed xs v) ∙ one_of_all block_part xs j c v g k),
    ))
one_block (x ∷ xs) v (suc i) zero b c once f g h k =
    let is : x ≡ c = cc in
    absurd (omega (
      arith,
      once v,
      count_both v (entered_block x) (flat_map entered_block xs),
      count_some v (entered_block x) (sym (block_listed x v) ∙ ap (λ y. (block_part y).below v) is ∙ k),
      count_some v (flat_map entered_block xs) (sym (blocks_listed xs v) ∙ one_of_all block_part xs i b v f h),
    ))
one_block (x ∷ xs) v (suc i) (suc j) b c once f g h k =
    ap suc (one_block xs v i j b c (λ w. omega (arith, once w, count_both w (entered_block x) (flat_map entered_block xs))) f g h k)

-- a cut below some blocks is a cut of one of them
cut_block : (bs : List Block) (s : VertexSet) → Contains (all_cuts (map block_part bs)) s → (i : ℕ) × (b : Block) × (slice_get bs i ≡ Some b) × Contains (block_part b).cuts s
cut_block [] s c = absurd (Contains-nil s c)
cut_block (x ∷ xs) s c = elim (Contains-append_cases (block_part x).cuts (all_cuts (map block_part xs)) s c) [
  | inl k ↦ (0, x, refl, k)
  | inr k ↦ (let r = cut_block xs s k in (suc r.0, r.1, r.2, r.3))
]

block_has : (b : Block) (v : ℕ) (s : VertexSet) → Contains (block_part b).cuts s → s v ≡ true → (block_part b).below v ≡ true
block_has b v s c e = block_listed b v ∙ block_within b s c v e

step_block : (x y : Node) (s : Step) (h : HasChild x s y) (v : ℕ) → (part y).below v ≡ true → (block_part h.block).below v ≡ true
step_block x y s h v k = ap (λ (q : Part). q.below v) (walk_part h.block) ∙ one_of_all part (nodes_of h.block) s.child y v h.there k

own_below : (x : Node) (v : ℕ) → has (vertices x) v ≡ true → (part x).below v ≡ true
own_below x v h = below_at x v ∙ ap (λ k. k || all_of (belows (map block_part (blocks x))) v) h

module _ (u v : ℕ) (node : Node) (once : AreOnce (entered node)) where
  blocks_once : AreOnce (flat_map entered_block (blocks node))
  blocks_once w = omega (arith, once w, ap (times w) (entered_out node), times_more w (vertices node) (flat_map entered_block (blocks node)))

  -- if the ways to two vertices do not begin in one block, no cut has both
  none_has_both : (us vs : List Step) → LeadsTo u node us → LeadsTo v node vs → ((s t : Step) → slice_get us 0 ≡ Some s → slice_get vs 0 ≡ Some t → s.block ≢ t.block) →
      (s : VertexSet) → Contains (part node).cuts s → s u ≡ true → s v ≡ true → ⊥
  none_has_both [] vs lu lv apart s c e f =
      false≢true (sym (own_lacks node u (ap (λ x. has (vertices x) u) lu.1 ∙ lu.2) (once u) s c) ∙ e)
  none_has_both (a ∷ aa) [] lu lv apart s c e f =
      false≢true (sym (own_lacks node v (ap (λ x. has (vertices x) v) lv.1 ∙ lv.2) (once v) s c) ∙ f)
  none_has_both (a ∷ aa) (b ∷ bb) lu lv apart s c e f =
      let at = cut_block (blocks node) s (subst (λ l. Contains l s) (cuts_out node) c) in
      let first = lu.1 in
      let second = lv.1 in
      let in_first = step_block node first.0 a first.1 u (way_inside first.0 aa lu.0 u first.2 (own_below lu.0 u lu.2)) in
      let in_second = step_block node second.0 b second.1 v (way_inside second.0 bb lv.0 v second.2 (own_below lv.0 v lv.2)) in
      let p : at.0 ≡ a.block = one_block (blocks node) u at.0 a.block at.1 first.1.block blocks_once at.2 first.1.here (block_has at.1 u s at.3 e) in_first in
      let q : at.0 ≡ b.block = one_block (blocks node) v at.0 b.block at.1 second.1.block blocks_once at.2 second.1.here (block_has at.1 v s at.3 f) in_second in
      apart a b refl refl (sym p ∙ q)

  pub grown_apart : (us vs : List Step) (y x : Node) → LeadsTo u node us → LeadsTo v node vs → ((s t : Step) → slice_get us 0 ≡ Some s → slice_get vs 0 ≡ Some t → s.block ≢ t.block) →
      IsPulled u node y → IsPulled v y x → IsGrown u v node x
  grown_apart us vs y x lu lv apart f g = record {
    below = λ w. g.below w ∙ f.below w;
    cuts = λ s. (
      (λ c. let r = (g.cuts s).0 c in let q = (f.cuts s).0 r.0 in (q.0, q.1 ∙ sym r.1)),
      (λ c. elim (cases_Bool (s u)) [
        | inl e ↦ absurd (none_has_both us vs lu lv apart s c.0 e (sym c.1 ∙ e))
        | inr e ↦ (g.cuts s).1 ((f.cuts s).1 (c.0, e), sym c.1 ∙ e)
      ]),
    );
    counts = λ w. omega (arith, g.counts w, f.counts w);
    ascending = λ n a. g.ascending n (f.ascending n a);
    wide = λ a. g.wide (f.wide a);
    own = λ w h. g.own w (f.own w h);
  }
