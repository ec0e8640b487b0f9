-- A node above one that lost the cuts that separate two vertices.
use Rattle.std.proofs.Common.{◌≡◌, ℕ, ◌≤◌, inl, inr, true, false, ◌||◌, List, [], ◌∷◌, ◌++◌, map, refl, ap, ◌∙◌, sym, subst, arith}
use Rattle.std.specs.List.{All, Contains, flat_map}
use Rattle.std.proofs.lemmas.Bool.{false_from_ne_true}
use Rattle.std.proofs.lemmas.List.{map-append}
use Rattle.std.proofs.lemmas.List.Elements.{All-append, All-cons, Contains-append_left, Contains-append_right, Contains-append_cases}
use Rattle.std.proofs.Math.Bool.{or-true}
use Rattle.cut_definitions.specs.Weight.{VertexSet}
use Rattle.cut_definitions.specs.Cuts.{has, IsAscendingWithin}
use Rattle.cut_definitions.proofs.ListLaws.{All-front, All-back}
use Rattle.rooted_cactus.specs.Sides.{Part, part, all_of, belows}
use Rattle.rooted_cactus.specs.Entered.{entered}
use Rattle.rooted_cactus.specs.Widths.{widths}
use Rattle.rooted_cactus.specs.declared.tree.Node.{Node}
use Rattle.rooted_cactus.proofs.Cycles.{cycle_cuts}
use Rattle.cactus_growth.specs.Growth.{times, AreOnce, AreAscending, AreWide, IsArcHung, IsOpened, IsGrown}
use Rattle.cactus_growth.proofs.Counts.{count_both, count_some}
use Rattle.cactus_growth.proofs.CycleKept.{IsEven, cycle_even, cycle_replaced, lacking_even, node_lacks}
use Rattle.cactus_growth.proofs.Opened.{mid_flat, below_both, below_listed, node_listed, other_nodes}

-- ---- what stays of an opened node has no vertex of the nodes that were taken out
module _ (old top child : Node) (before after : List Node) (o : IsOpened old top before child after) (once : AreOnce (entered old)) where
  pub walk_once : AreOnce (flat_map entered (before ++ child ∷ after))
  walk_once w = omega (arith, once w, o.counts w)

  pub top_out : (v : ℕ) → all_of (belows (map part (before ++ child ∷ after))) v ≡ true → (part top).below v ≡ false
  top_out v h = false_from_ne_true ((part top).below v) (λ k.
      omega (arith, once v, o.counts v, count_some v (entered top) (sym (node_listed top v) ∙ k), count_some v (flat_map entered (before ++ child ∷ after)) (sym (below_listed (before ++ child ∷ after) v) ∙ h)))

  pub top_lacks : (v : ℕ) → all_of (belows (map part (before ++ child ∷ after))) v ≡ true → (s : VertexSet) → Contains (part top).cuts s → s v ≡ false
  top_lacks v h s c = node_lacks top v (top_out v h) s c

  pub child_once : AreOnce (entered child)
  child_once w = omega (
    arith,
    walk_once w,
    ap (times w) (mid_flat entered before after (before ++ child ∷ after) child refl),
    count_both w (flat_map entered before) (entered child ++ flat_map entered after),
    count_both w (entered child) (flat_map entered after),
  )

pub among_below : (before after : List Node) (child : Node) (v : ℕ) → (part child).below v ≡ true → all_of (belows (map part (before ++ child ∷ after))) v ≡ true
among_below before after child v h =
    below_both before (child ∷ after) v ∙ ap (λ k. all_of (belows (map part before)) v || (k || all_of (belows (map part after)) v)) h ∙ or-true (all_of (belows (map part before)) v)

pub opened_inside : (old top child : Node) (before after : List Node) (v : ℕ) → IsOpened old top before child after → (part child).below v ≡ true → (part old).below v ≡ true
opened_inside old top child before after v o h = o.below v ∙ ap (λ k. (part top).below v || k) (among_below before after child v h) ∙ or-true ((part top).below v)

-- ---- the node of the walk that has both vertices below it was put back without the cuts that separate them
module _ (u v : ℕ) (old top child y x : Node) (before after : List Node) (o : IsOpened old top before child after) (once : AreOnce (entered old)) (has_u : (part child).below u ≡ true) (has_v : (part child).below v ≡ true)
    (g : IsGrown u v child y) (k : IsArcHung top (before ++ y ∷ after) x) where
  abbrev walk : List Node
  walk = before ++ child ∷ after

  abbrev next : List Node
  next = before ++ y ∷ after

  out_u : (all_of (belows (map part before)) u ≡ false) × (all_of (belows (map part after)) u ≡ false)
  out_u = other_nodes before after walk child refl (walk_once old top child before after o once) u has_u

  out_v : (all_of (belows (map part before)) v ≡ false) × (all_of (belows (map part after)) v ≡ false)
  out_v = other_nodes before after walk child refl (walk_once old top child before after o once) v has_v

  old_is : map part walk ≡ map part before ++ part child ∷ map part after
  old_is = map-append part before (child ∷ after)

  new_is : map part next ≡ map part before ++ part y ∷ map part after
  new_is = map-append part before (y ∷ after)

  below_is : (part y).below ≡ (part child).below
  below_is = λ i w. g.below w i

  even : All (IsEven u v) (map part before ++ part y ∷ map part after)
  even = All-append (IsEven u v) (map part before) (part y ∷ map part after) (lacking_even u v before out_u.0 out_v.0)
      (All-cons (IsEven u v) (part y) (map part after) (g.below u ∙ has_u ∙ sym (g.below v ∙ has_v), λ s m. ((g.cuts s).0 m).1) (lacking_even u v after out_u.1 out_v.1))

  same_all : (ps : List Part) (w : ℕ) → all_of (belows (ps ++ part y ∷ map part after)) w ≡ all_of (belows (ps ++ part child ∷ map part after)) w
  same_all [] w = ap (λ z. z || all_of (belows (map part after)) w) (g.below w)
  same_all (q ∷ ps) w = ap (λ z. q.below w || z) (same_all ps w)

  forth : (s : VertexSet) → Contains (part x).cuts s → Contains (part old).cuts s × (s u ≡ s v)
  forth s m = elim (Contains-append_cases (part top).cuts (cycle_cuts (map part next)) s (subst (λ (q : Part). Contains q.cuts s) k.part_is m)) [
    | inl c ↦ ((o.cuts s).1 (inl c), top_lacks old top child before after o once u (among_below before after child u has_u) s c ∙ sym (top_lacks old top child before after o once v (among_below before after child v has_v) s c))
    | inr c ↦ (let here = subst (λ ps. Contains (cycle_cuts ps) s) new_is c in (
      (o.cuts s).1 (inr (subst (λ ps. Contains (cycle_cuts ps) s) (sym old_is) (cycle_replaced (map part before) (part y) (part child) (map part after) s below_is (λ z. ((g.cuts s).0 z).0) here))),
      cycle_even u v (map part before ++ part y ∷ map part after) s even here,
    ))
  ]

  back : (s : VertexSet) → Contains (part old).cuts s × (s u ≡ s v) → Contains (part x).cuts s
  back s m = subst (λ (q : Part). Contains q.cuts s) (sym k.part_is) (elim ((o.cuts s).0 m.0) [
    | inl c ↦ Contains-append_left (part top).cuts (cycle_cuts (map part next)) s c
    | inr c ↦ Contains-append_right (part top).cuts (cycle_cuts (map part next)) s
        (subst (λ ps. Contains (cycle_cuts ps) s) (sym new_is)
        (cycle_replaced (map part before) (part child) (part y) (map part after) s (sym below_is) (λ z. (g.cuts s).1 (z, m.1)) (subst (λ ps. Contains (cycle_cuts ps) s) old_is c)))
  ])

  pub grown_up : IsGrown u v old x
  grown_up = record {
    below = λ w. ap (λ (q : Part). q.below w) k.part_is
        ∙ ap (λ z. (part top).below w || z) (ap (λ ps. all_of (belows ps) w) new_is ∙ same_all (map part before) w ∙ sym (ap (λ ps. all_of (belows ps) w) old_is))
        ∙ sym (o.below w);
    cuts = λ s. (forth s, back s);
    counts = λ w. omega (
      arith,
      g.counts w,
      o.counts w,
      ap (times w) k.entered_is,
      count_both w (entered top) (flat_map entered next),
      ap (times w) (mid_flat entered before after next y refl),
      count_both w (flat_map entered before) (entered y ++ flat_map entered after),
      count_both w (entered y) (flat_map entered after),
      ap (times w) (mid_flat entered before after walk child refl),
      count_both w (flat_map entered before) (entered child ++ flat_map entered after),
      count_both w (entered child) (flat_map entered after),
    );
    ascending = λ n a.
        let P = IsAscendingWithin 1 n in
        let was = o.ascending n a in
        let pieces : AreAscending n (flat_map entered before ++ (entered child ++ flat_map entered after)) = subst (AreAscending n) (mid_flat entered before after walk child refl) was.1 in
        let behind = All-back P (flat_map entered before) (entered child ++ flat_map entered after) pieces in
        subst (AreAscending n) (sym k.entered_is) (All-append P (entered top) (flat_map entered next) was.0
        (subst (AreAscending n) (sym (mid_flat entered before after next y refl))
        (All-append P (flat_map entered before) (entered y ++ flat_map entered after) (All-front P (flat_map entered before) (entered child ++ flat_map entered after) pieces)
        (All-append P (entered y) (flat_map entered after) (g.ascending n (All-front P (entered child) (flat_map entered after) behind)) (All-back P (entered child) (flat_map entered after) behind)))));
    wide = λ a.
        let P : ℕ → Type 0 = λ z. 2 ≤ z in
        let was = o.wide a in
        let pieces : AreWide (flat_map widths before ++ (widths child ++ flat_map widths after)) = subst AreWide (mid_flat widths before after walk child refl) was.1 in
        let behind = All-back P (flat_map widths before) (widths child ++ flat_map widths after) pieces in
        k.wide was.0 (subst AreWide (sym (mid_flat widths before after next y refl))
        (All-append P (flat_map widths before) (widths y ++ flat_map widths after) (All-front P (flat_map widths before) (widths child ++ flat_map widths after) pieces)
        (All-append P (widths y) (flat_map widths after) (g.wide (All-front P (widths child) (flat_map widths after) behind)) (All-back P (widths child) (flat_map widths after) behind))));
    own = λ w h. ap (λ l. has l w) k.own ∙ ap (λ l. has l w) (sym o.own) ∙ h;
  }

-- the order of the two vertices makes no difference to the cuts
pub grown_turned : (u v : ℕ) (old x : Node) → IsGrown v u old x → IsGrown u v old x
grown_turned u v old x g = record {
  below = g.below;
  cuts = λ s. ((λ m. let r = (g.cuts s).0 m in (r.0, sym r.1)), (λ m. (g.cuts s).1 (m.0, sym m.1)));
  counts = g.counts;
  ascending = g.ascending;
  wide = g.wide;
  own = g.own;
}

-- ---- no vertex is in two of some nodes
pub mid_once : (xs ys all : List Node) (x : Node) → all ≡ xs ++ x ∷ ys → AreOnce (flat_map entered all) → AreOnce (entered x)
mid_once xs ys all x e once w = omega (arith, once w, ap (times w) (mid_flat entered xs ys all x e), count_both w (flat_map entered xs) (entered x ++ flat_map entered ys), count_both w (entered x) (flat_map entered ys))

pub front_once : (xs ys : List Node) (x : Node) → AreOnce (flat_map entered (xs ++ x ∷ ys)) → AreOnce (flat_map entered xs)
front_once xs ys x once w = omega (arith, once w, ap (times w) (mid_flat entered xs ys (xs ++ x ∷ ys) x refl), count_both w (flat_map entered xs) (entered x ++ flat_map entered ys))
