-- What a cactus is once the cuts that separate two vertices are gone.
use Rattle.std.proofs.Common.{◌≡◌, ℕ, ◌≤◌, ◌↔◌, inl, inr, Bool, true, false, List, [], ◌∷◌, length, map, refl, ap, ◌∙◌, sym, subst, arith}
use Rattle.std.specs.Prelude.{not, if◌then◌else◌}
use Rattle.std.specs.List.{Contains, filter, range_with_len, flat_map}
use Rattle.std.proofs.lemmas.List.Elements.{All-head, Contains-append_left}
use Rattle.cut_definitions.specs.Weight.{VertexSet, parts}
use Rattle.cut_definitions.specs.Cuts.{has}
use Rattle.cut_definitions.proofs.Bridge.{has_within}
use Rattle.cut_definitions.proofs.Lists.{Contains-here, Contains-map, Contains-from_map, Contains-nil}
use Rattle.cut_definitions.proofs.Bools.{parts_from_same, same_from_parts}
use Rattle.cut_definitions.proofs.Ascending.{contains_has, has_contains}
use Rattle.cut_definitions.proofs.ListLaws.{All-front}
use Rattle.rooted_cactus.specs.Sides.{Part, part, block_part, all_cuts, all_of, belows, cuts}
use Rattle.rooted_cactus.specs.Entered.{entered}
use Rattle.rooted_cactus.specs.Different.{HasNoEmptySide, HaveSameSides}
use Rattle.rooted_cactus.specs.Normal.{is_normal}
use Rattle.rooted_cactus.specs.Rooted.{Rooted, IsCactus, sides_of}
use Rattle.rooted_cactus.specs.Trees.{vertices, blocks, nodes_in}
use Rattle.rooted_cactus.specs.Widths.{widths, block_widths}
use Rattle.rooted_cactus.specs.declared.tree.Node.{Node}
use Rattle.rooted_cactus.specs.declared.tree.Block.{Block}
use Rattle.rooted_cactus.proofs.Built.{ring_widths}
use Rattle.rooted_cactus.proofs.Clean.{root_clean}
use Rattle.rooted_cactus.proofs.Cycles.{cycle_cuts, cycle_whole}
use Rattle.rooted_cactus.proofs.Layouts.{laid_out}
use Rattle.rooted_cactus.proofs.Parts.{bridge_part, cycle_part}
use Rattle.rooted_cactus.proofs.Views.{view}
use Rattle.rooted_cactus.proofs.Trims.{cuts_out}
use Rattle.rooted_cactus.proofs.BlockLaws.{widths_flat}
use Rattle.cactus_growth.specs.After.{IsKept, PartsEachSide}
use Rattle.cactus_growth.specs.Growth.{AreOnce, AreWide, IsGrown}
use Rattle.cactus_growth.proofs.Counts.{count_some, count_has}
use Rattle.cactus_growth.proofs.Filled.{fewer_sides, no_empty_side, some_block}

-- ---- a cactus has each vertex once
pub cactus_once : (n : ℕ) (root : Node) → IsCactus n root → AreOnce (entered root)
cactus_once n root h v = (root_clean n root h).once v

pub cactus_below : (n : ℕ) (root : Node) → IsCactus n root → (v : ℕ) → 1 ≤ v → v ≤ n → (part root).below v ≡ true
cactus_below n root h v low high = ap (λ (t : VertexSet). t v) (laid_out root).below ∙ count_has v (entered root) (omega (arith, h.in_one_node v low high))

pub grown_cactus : (n u v : ℕ) (root x : Node) → IsCactus n root → IsGrown u v root x → IsCactus n x
grown_cactus n u v root x h g = record {
  ascending = g.ascending n h.ascending;
  in_one_node = λ w low high. omega (
    arith,
    h.in_one_node w low high,
    g.counts w,
    count_some w (entered x) (sym (ap (λ (t : VertexSet). t w) (laid_out x).below) ∙ g.below w ∙ cactus_below n root h w low high),
  );
  root_has_one = has_contains (vertices x) 1 (g.own 1 (contains_has (vertices root) 1 h.root_has_one));
  wide = g.wide h.wide;
}

-- ---- sides
other_parts : (a b : Bool) → (a ≡ b → ⊥) → (if a then not b else b) ≡ true
other_parts true true h = absurd (h refl)
other_parts true false h = refl
other_parts false true h = refl
other_parts false false h = absurd (h refl)

side_has : (n : ℕ) (s : VertexSet) (w : ℕ) → 1 ≤ w → w ≤ n → has (filter s (range_with_len 1 n)) w ≡ s w
side_has n s w low high = has_within n 1 w s low (omega (arith, high))

pub kept_by : (u v : ℕ) (old mid new : Rooted) → mid.vertices ≡ old.vertices → new.vertices ≡ mid.vertices → HaveSameSides new mid →
    ((side : List ℕ) → Contains (sides_of mid) side ↔ (Contains (sides_of old) side × (parts (has side) u v ≡ false))) → (side : List ℕ) × Contains (sides_of mid) side →
    (is_normal old.root ≡ true → is_normal new.root ≡ true) → IsKept u v old new
kept_by u v old mid new e f same sides some normal =
    let here : Contains (sides_of new) some.0 = (same some.0).1 some.1 in
    record {
      vertices = f ∙ e;
      sides = λ side. ((λ m. (sides side).0 ((same side).0 m)), (λ m. (same side).1 ((sides side).1 m)));
      some = (some.0, here);
      blocks = some_block new some.0 here;
      normal = normal;
    }

module _ (u v : ℕ) (old : Rooted) (u_low : 1 ≤ u) (u_high : u ≤ old.vertices) (v_low : 1 ≤ v) (v_high : v ≤ old.vertices) where
  listing : VertexSet → List ℕ
  listing s = filter s (range_with_len 1 old.vertices)

  parts_is : (s : VertexSet) → parts (has (listing s)) u v ≡ parts s u v
  unfolding listing
  parts_is s = ap (λ a. if a then not (has (listing s) v) else has (listing s) v) (side_has old.vertices s u u_low u_high) ∙ ap (λ b. if s u then not b else b) (side_has old.vertices s v v_low v_high)

  -- no cut is left
  pub all_part : (x : Node) → IsGrown u v old.root x → blocks x ≡ [] → PartsEachSide u v old
  unfolding listing
  all_part x g none side c =
      let r = Contains-from_map listing (cuts old.root) side c in
      let s = r.0 in
      let gone : s u ≡ s v → ⊥ = λ e. Contains-nil s (subst (λ l. Contains l s) (cuts_out x ∙ ap (λ bs. all_cuts (map block_part bs)) none) ((g.cuts s).1 (r.1, e))) in
      ap (λ l. parts (has l) u v) (sym r.2) ∙ parts_is s ∙ other_parts (s u) (s v) gone

  kept_side : (x : Node) → IsGrown u v old.root x → (side : List ℕ) →
      Contains (map listing (cuts x)) side ↔ (Contains (map listing (cuts old.root)) side × (parts (has side) u v ≡ false))
  kept_side x g side = (
    (λ c.
        let r = Contains-from_map listing (cuts x) side c in
        let q = (g.cuts r.0).0 r.1 in (
          subst (λ l. Contains (map listing (cuts old.root)) l) r.2 (Contains-map listing (cuts old.root) r.0 q.0),
          ap (λ l. parts (has l) u v) (sym r.2) ∙ parts_is r.0 ∙ parts_from_same (r.0 u) (r.0 v) q.1,
        )),
    (λ m.
        let r = Contains-from_map listing (cuts old.root) side m.0 in
        let same : r.0 u ≡ r.0 v = same_from_parts (r.0 u) (r.0 v) (sym (parts_is r.0) ∙ ap (λ l. parts (has l) u v) r.2 ∙ m.1) in
        subst (λ l. Contains (map listing (cuts x)) l) r.2 (Contains-map listing (cuts x) r.0 ((g.cuts r.0).1 (r.1, same)))),
  )

  -- a block has a cut
  block_cut : (b : Block) → AreWide (block_widths b) → (s : VertexSet) × Contains (block_part b).cuts s
  block_cut b w = elim (view b) [
    | inl h ↦ ((part h.0.value).below, subst (λ (q : Part). Contains q.cuts (part h.0.value).below) (sym (ap block_part h.1 ∙ bridge_part h.0)) (Contains-here (part h.0.value).below (part h.0.value).cuts))
    | inr h ↦ (
        let r = ring_cut (nodes_in h.0) (All-head (λ k. 2 ≤ k) (length (nodes_in h.0)) (flat_map widths (nodes_in h.0)) (subst AreWide (ap block_widths h.1 ∙ ring_widths h.0) w)) in
        (r.0, subst (λ (q : Part). Contains q.cuts r.0) (sym (ap block_part h.1 ∙ cycle_part h.0)) r.1)
        )
  ]
    where
      ring_cut : (xs : List Node) → 2 ≤ length xs → (s : VertexSet) × Contains (cycle_cuts (map part xs)) s
      ring_cut [] two = absurd (omega (arith, two))
      ring_cut (y ∷ xs) two = (all_of (belows (map part (y ∷ xs))), cycle_whole (part y) (map part xs))

  some_cut : (x : Node) (bs : List Block) → blocks x ≡ bs → 1 ≤ length bs → AreWide (widths x) → (s : VertexSet) × Contains (cuts x) s
  some_cut x [] e one w = absurd (omega (arith, one))
  some_cut x (b ∷ bs) e one w =
      let r = block_cut b (All-front (λ k. 2 ≤ k) (block_widths b) (flat_map block_widths bs) (subst AreWide (widths_flat x ∙ ap (flat_map block_widths) e) w)) in
      (r.0, subst (λ l. Contains l r.0) (sym (cuts_out x ∙ ap (λ cs. all_cuts (map block_part cs)) e)) (Contains-append_left (block_part b).cuts (all_cuts (map block_part bs)) r.0 r.1))

  -- the sides of what is left, and of a cactus with the same sides
  pub kept_sides : (x : Node) → IsGrown u v old.root x → (side : List ℕ) →
      Contains (sides_of record { vertices = old.vertices; root = x }) side ↔ (Contains (sides_of old) side × (parts (has side) u v ≡ false))
  unfolding listing
  kept_sides x g = kept_side x g

  pub some_side : (x : Node) → IsCactus old.vertices old.root → IsGrown u v old.root x → 1 ≤ length (blocks x) → (side : List ℕ) × Contains (sides_of record { vertices = old.vertices; root = x }) side
  unfolding listing
  some_side x h g one = let r = some_cut x (blocks x) refl one (g.wide h.wide) in (listing r.0, Contains-map listing (cuts x) r.0 r.1)

  over : Node → Rooted
  over x = record { vertices = old.vertices; root = x }

  pub none_empty : (x : Node) (mid : Rooted) → mid ≡ record { vertices = old.vertices; root = x } → IsCactus old.vertices old.root → IsGrown u v old.root x → is_normal old.root ≡ true → HasNoEmptySide mid
  unfolding over
  none_empty x mid e h g normal = subst HasNoEmptySide (sym e) (fewer_sides (over x) old (λ side m. ((kept_sides x g side).0 m).0) (no_empty_side old h normal))

  pub kept_after : (x : Node) (mid new : Rooted) → mid ≡ record { vertices = old.vertices; root = x } → IsCactus old.vertices old.root → IsGrown u v old.root x → 1 ≤ length (blocks x) →
      new.vertices ≡ mid.vertices → HaveSameSides new mid → (is_normal old.root ≡ true → is_normal new.root ≡ true) → IsKept u v old new
  unfolding over
  kept_after x mid new e h g one f same normal =
      kept_by u v old (over x) new refl (f ∙ ap (λ (r : Rooted). r.vertices) e) (subst (HaveSameSides new) e same) (kept_sides x g) (some_side x h g one) normal
