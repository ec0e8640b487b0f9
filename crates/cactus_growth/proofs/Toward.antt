-- The nodes above a node are merged into one, step by step, until the node itself is.
use Rattle.std.proofs.Common.{◌≡◌, ℕ, ◌+◌, ◌≤◌, ◌⊎◌, inl, inr, Bool, true, false, cond, ◌||◌, List, [], ◌∷◌, ◌++◌, map, refl, ap, ◌∙◌, sym, subst, arith}
use Rattle.std.specs.List.{Contains, flat_map}
use Rattle.std.proofs.lemmas.Bool.{or_left, or_right, false_from_ne_true}
use Rattle.std.proofs.lemmas.List.{map-append}
use Rattle.std.proofs.lemmas.List.Elements.{All-nil, All-append, All-cons, Contains-append_left, Contains-append_right, Contains-append_cases}
use Rattle.cut_definitions.specs.Weight.{VertexSet}
use Rattle.cut_definitions.specs.Cuts.{has, IsAscendingWithin}
use Rattle.cut_definitions.proofs.ListLaws.{All-front, All-back}
use Rattle.rooted_cactus.specs.Sides.{Part, part, block_part, all_of, belows, all_cuts}
use Rattle.rooted_cactus.specs.Entered.{entered, entered_block}
use Rattle.rooted_cactus.specs.Trees.{vertices, blocks}
use Rattle.rooted_cactus.specs.Widths.{widths, block_widths}
use Rattle.rooted_cactus.specs.declared.tree.Node.{Node}
use Rattle.rooted_cactus.proofs.Cycles.{cycle_cuts, cycle_rest}
use Rattle.rooted_cactus.proofs.Orders.{entered_out}
use Rattle.rooted_cactus.proofs.BlockLaws.{widths_flat}
use Rattle.rooted_cactus.proofs.Trims.{cuts_out}
use Rattle.cactus_growth.specs.Growth.{times, AreOnce, AreAscending, AreWithin, AreWide, AscendBelow, IsArcHung, IsTakenIn, IsSorted, IsOpened, IsToward, IsPulled}
use Rattle.cactus_growth.proofs.Counts.{count_both, count_some}
use Rattle.cactus_growth.proofs.CycleKept.{node_lacks}
use Rattle.cactus_growth.proofs.Opened.{mid_flat, below_both, below_listed, node_listed, own_lacks, bare_cuts, bare_wide}
use Rattle.cactus_growth.proofs.Pulled.{rest_lists, times_more}
use Rattle.cactus_growth.proofs.Without.{cycle_lacks, cycle_without, cycle_before, cycle_behind, cycle_child}
use Rattle.cactus_growth.proofs.WaysDown.{below_at}

-- the nodes below a node and a closed walk that was hung below it ascend
pub arc_below : (n : ℕ) (node x : Node) (xs : List Node) → IsArcHung node xs x → AscendBelow n node → AreAscending n (flat_map entered xs) → AscendBelow n x
arc_below n node x xs k a b = (
  subst (AreWithin n) (sym k.own) a.0,
  subst (AreAscending n) (sym (rest_lists x node (flat_map entered xs) k.entered_is)) (All-append (IsAscendingWithin 1 n) (flat_map entered_block (blocks node)) (flat_map entered xs) a.1 b),
)

-- ---- nothing is merged yet
module _ (v : ℕ) (old bare : Node) (own : vertices bare ≡ []) (none : blocks bare ≡ []) where
  bare_is : entered bare ≡ [] ∷ []
  bare_is = entered_out bare ∙ ap (λ l. l ∷ flat_map entered_block (blocks bare)) own ∙ ap (λ bs. [] ∷ flat_map entered_block bs) none

  pub toward_begin : IsToward v old bare old
  toward_begin = record {
    below = λ w. sym (ap (λ k. k || (part old).below w) (below_at bare w ∙ ap (λ l. has l w || all_of (belows (map block_part (blocks bare))) w) own ∙ ap (λ bs. all_of (belows (map block_part bs)) w) none));
    cuts = λ s e. ((λ c. inr c), (λ m. elim m [ inl c ↦ absurd (bare_cuts bare none s c) | inr c ↦ c ]));
    lacks = λ s c. absurd (bare_cuts bare none s c);
    counts = λ w. omega (arith, ap (times w) bare_is, times_more w [] []);
    ascending = λ n a. (
      (subst (AreWithin n) (sym own) (All-nil (λ w. (1 ≤ w) × (w ≤ n))), subst (λ bs. AreAscending n (flat_map entered_block bs)) (sym none) (All-nil (IsAscendingWithin 1 n))),
      a,
    );
    wide = λ a. (bare_wide bare none, a);
    own = λ w h. or_right (has (vertices bare) w) (has (vertices old) w) h;
  }

five_or : (t o b c a : Bool) → (t || (o || (b || (c || a)))) ≡ ((((t || o) || b) || a) || c)
five_or true o b c a = refl
five_or false true b c a = refl
five_or false false true c a = refl
five_or false false false true true = refl
five_or false false false true false = refl
five_or false false false false true = refl
five_or false false false false false = refl

-- ---- a node on the way is merged with those above it
module _ (v : ℕ) (old top rest own t1 t2 t3 child : Node) (before after : List Node) (o : IsOpened rest own before child after) (i : IsTakenIn top own t1) (f : IsArcHung t1 before t2) (g : IsArcHung t2 after t3)
    (once : AreOnce (entered old)) (inside : (part child).below v ≡ true) (h : IsToward v old top rest) where
  abbrev walk : List Node
  walk = before ++ child ∷ after

  lists : flat_map entered walk ≡ flat_map entered before ++ (entered child ++ flat_map entered after)
  lists = mid_flat entered before after walk child refl

  numbers : flat_map widths walk ≡ flat_map widths before ++ (widths child ++ flat_map widths after)
  numbers = mid_flat widths before after walk child refl

  parts_are : map part walk ≡ map part before ++ part child ∷ map part after
  parts_are = map-append part before (child ∷ after)

  few : (times v (entered own) + (times v (flat_map entered before) + times v (flat_map entered after))) + times v (entered child) ≤ 1
  few = omega (
    arith,
    once v,
    h.counts v,
    o.counts v,
    ap (times v) lists,
    count_both v (flat_map entered before) (entered child ++ flat_map entered after),
    count_both v (entered child) (flat_map entered after),
  )

  here : 1 ≤ times v (entered child)
  here = count_some v (entered child) (sym (node_listed child v) ∙ inside)

  no_own : (part own).below v ≡ false
  no_own = false_from_ne_true ((part own).below v) (λ k. omega (arith, few, here, count_some v (entered own) (sym (node_listed own v) ∙ k)))

  no_before : all_of (belows (map part before)) v ≡ false
  no_before = false_from_ne_true (all_of (belows (map part before)) v) (λ k. omega (arith, few, here, count_some v (flat_map entered before) (sym (below_listed before v) ∙ k)))

  no_after : all_of (belows (map part after)) v ≡ false
  no_after = false_from_ne_true (all_of (belows (map part after)) v) (λ k. omega (arith, few, here, count_some v (flat_map entered after) (sym (below_listed after v) ∙ k)))

  above : (s : VertexSet) → Contains (part t1).cuts s → Contains (part t3).cuts s
  above s c = subst (λ (q : Part). Contains q.cuts s) (sym g.part_is) (Contains-append_left (part t2).cuts (cycle_cuts (map part after)) s
      (subst (λ (q : Part). Contains q.cuts s) (sym f.part_is) (Contains-append_left (part t1).cuts (cycle_cuts (map part before)) s c)))

  above_before : (s : VertexSet) → Contains (cycle_cuts (map part before)) s → Contains (part t3).cuts s
  above_before s c = subst (λ (q : Part). Contains q.cuts s) (sym g.part_is) (Contains-append_left (part t2).cuts (cycle_cuts (map part after)) s
      (subst (λ (q : Part). Contains q.cuts s) (sym f.part_is) (Contains-append_right (part t1).cuts (cycle_cuts (map part before)) s c)))

  above_after : (s : VertexSet) → Contains (cycle_cuts (map part after)) s → Contains (part t3).cuts s
  above_after s c = subst (λ (q : Part). Contains q.cuts s) (sym g.part_is) (Contains-append_right (part t2).cuts (cycle_cuts (map part after)) s c)

  abbrev InTop : VertexSet → Type 0
  InTop s = Contains (part top).cuts s ⊎ (Contains (part own).cuts s ⊎ (Contains (cycle_cuts (map part before)) s ⊎ Contains (cycle_cuts (map part after)) s))

  in_top : (s : VertexSet) → Contains (part t3).cuts s → InTop s
  in_top s c = elim (Contains-append_cases (part t2).cuts (cycle_cuts (map part after)) s (subst (λ (q : Part). Contains q.cuts s) g.part_is c)) [
    | inl c2 ↦ elim (Contains-append_cases (part t1).cuts (cycle_cuts (map part before)) s (subst (λ (q : Part). Contains q.cuts s) f.part_is c2)) [
      | inl c1 ↦ elim ((i.cuts s).0 c1) [ inl k ↦ inl k | inr k ↦ inr (inl k) ]
      | inr k ↦ inr (inr (inl k))
    ]
    | inr k ↦ inr (inr (inr k))
  ]

  -- a cut of the node that was taken apart
  in_rest : (s : VertexSet) → Contains (part own).cuts s ⊎ Contains (cycle_cuts (map part before ++ part child ∷ map part after)) s → Contains (part rest).cuts s
  in_rest s m = (o.cuts s).1 (elim m [ inl k ↦ inl k | inr k ↦ inr (subst (λ ps. Contains (cycle_cuts ps) s) (sym parts_are) k) ])

  forth : (s : VertexSet) → s v ≡ false → Contains (part old).cuts s → Contains (part t3).cuts s ⊎ Contains (part child).cuts s
  forth s e c = elim ((h.cuts s e).0 c) [
    | inl k ↦ inl (above s ((i.cuts s).1 (inl k)))
    | inr k ↦ elim ((o.cuts s).0 k) [
      | inl z ↦ inl (above s ((i.cuts s).1 (inr z)))
      | inr z ↦ elim (cycle_without (map part before) (part child) (map part after) v inside s e (subst (λ ps. Contains (cycle_cuts ps) s) parts_are z)) [
        | inl a ↦ inl (above_before s a)
        | inr m ↦ elim m [ inl a ↦ inr a | inr a ↦ inl (above_after s a) ]
      ]
    ]
  ]

  back : (s : VertexSet) → s v ≡ false → Contains (part t3).cuts s ⊎ Contains (part child).cuts s → Contains (part old).cuts s
  back s e m = (h.cuts s e).1 (elim m [
    | inl c ↦ elim (in_top s c) [
      | inl k ↦ inl k
      | inr n ↦ inr (elim n [
        | inl k ↦ in_rest s (inl k)
        | inr z ↦ elim z [
          | inl k ↦ in_rest s (inr (cycle_before (map part before) (part child ∷ map part after) s k))
          | inr k ↦ in_rest s (inr (cycle_behind (map part before) (part child ∷ map part after) s (cycle_rest (part child) (map part after) s k)))
        ]
      ])
    ]
    | inr c ↦ inr (in_rest s (inr (cycle_child (map part before) (part child) (map part after) s c)))
  ])

  top_lacks : (s : VertexSet) → Contains (part t3).cuts s → s v ≡ false
  top_lacks s c = elim (in_top s c) [
    | inl k ↦ h.lacks s k
    | inr n ↦ elim n [
      | inl k ↦ node_lacks own v no_own s k
      | inr z ↦ elim z [ inl k ↦ cycle_lacks before v no_before s k | inr k ↦ cycle_lacks after v no_after s k ]
    ]
  ]

  own_is : (w : ℕ) → has (vertices t3) w ≡ (has (vertices top) w || has (vertices own) w)
  own_is w = ap (λ l. has l w) (g.own ∙ f.own) ∙ i.own w

  pub toward_step : IsToward v old t3 child
  toward_step = record {
    below = λ w. h.below w
        ∙ ap (λ k. (part top).below w || k) (o.below w ∙ ap (λ k. (part own).below w || k) (below_both before (child ∷ after) w))
        ∙ five_or ((part top).below w) ((part own).below w) (all_of (belows (map part before)) w) ((part child).below w) (all_of (belows (map part after)) w)
        ∙ ap (λ k. k || (part child).below w) (sym (
        ap (λ (q : Part). q.below w) g.part_is
        ∙ ap (λ k. k || all_of (belows (map part after)) w) (ap (λ (q : Part). q.below w) f.part_is ∙ ap (λ k. k || all_of (belows (map part before)) w) (i.below w))
        ));
    cuts = λ s e. (forth s e, back s e);
    lacks = top_lacks;
    counts = λ w. omega (
      arith,
      h.counts w,
      o.counts w,
      ap (times w) lists,
      count_both w (flat_map entered before) (entered child ++ flat_map entered after),
      count_both w (entered child) (flat_map entered after),
      i.counts w,
      ap (times w) f.entered_is,
      count_both w (entered t1) (flat_map entered before),
      ap (times w) g.entered_is,
      count_both w (entered t2) (flat_map entered after),
    );
    ascending = λ n a.
        let P = IsAscendingWithin 1 n in
        let was = h.ascending n a in
        let now = o.ascending n was.1 in
        let pieces : AreAscending n (flat_map entered before ++ (entered child ++ flat_map entered after)) = subst (AreAscending n) lists now.1 in
        let behind = All-back P (flat_map entered before) (entered child ++ flat_map entered after) pieces in (
          arc_below n t2 t3 after g (arc_below n t1 t2 before f (i.ascending n was.0 now.0) (All-front P (flat_map entered before) (entered child ++ flat_map entered after) pieces)) (All-back P (entered child) (flat_map entered after) behind),
          All-front P (entered child) (flat_map entered after) behind,
        );
    wide = λ a.
        let P : ℕ → Type 0 = λ z. 2 ≤ z in
        let was = h.wide a in
        let now = o.wide was.1 in
        let pieces : AreWide (flat_map widths before ++ (widths child ++ flat_map widths after)) = subst AreWide numbers now.1 in
        let behind = All-back P (flat_map widths before) (widths child ++ flat_map widths after) pieces in (
          g.wide (f.wide (i.wide was.0 now.0) (All-front P (flat_map widths before) (widths child ++ flat_map widths after) pieces)) (All-back P (widths child) (flat_map widths after) behind),
          All-front P (widths child) (flat_map widths after) behind,
        );
    own = λ w k. or_left (has (vertices t3) w) (has (vertices child) w) (own_is w ∙ ap (λ l. has (vertices top) w || has l w) (sym o.own) ∙ h.own w k);
  }

-- ---- the node that has the vertex is merged at last
module _ (v : ℕ) (old top rest t x : Node) (h : IsToward v old top rest) (inside : has (vertices rest) v ≡ true) (once : AreOnce (entered old)) (i : IsTakenIn top rest t) (k : IsSorted t x) where
  rest_lacks : (s : VertexSet) → Contains (part rest).cuts s → s v ≡ false
  rest_lacks = own_lacks rest v inside (omega (arith, once v, h.counts v))

  cuts_are : (part x).cuts ≡ (part t).cuts
  cuts_are = cuts_out x ∙ ap (λ bs. all_cuts (map block_part bs)) k.blocks_are ∙ sym (cuts_out t)

  lists_are : flat_map entered_block (blocks x) ≡ flat_map entered_block (blocks t)
  lists_are = ap (flat_map entered_block) k.blocks_are

  pub toward_end : IsPulled v old x
  toward_end = record {
    below = λ w.
        below_at x w ∙ ap (λ bs. has (vertices x) w || all_of (belows (map block_part bs)) w) k.blocks_are ∙ ap (λ b. b || all_of (belows (map block_part (blocks t))) w) (k.own w)
        ∙ sym (below_at t w) ∙ i.below w ∙ sym (h.below w);
    cuts = λ s. (
      (λ c. elim ((i.cuts s).0 (subst (λ l. Contains l s) cuts_are c)) [
        | inl z ↦ ((h.cuts s (h.lacks s z)).1 (inl z), h.lacks s z)
        | inr z ↦ ((h.cuts s (rest_lacks s z)).1 (inr z), rest_lacks s z)
      ]),
      (λ m. subst (λ l. Contains l s) (sym cuts_are) ((i.cuts s).1 ((h.cuts s m.1).0 m.0))),
    );
    counts = λ w. omega (
      arith,
      h.counts w,
      i.counts w,
      ap (times w) (entered_out x),
      times_more w (vertices x) (flat_map entered_block (blocks x)),
      ap (times w) lists_are,
      ap {B = ℕ} (λ b. cond b 1 0) (k.own w),
      ap (times w) (entered_out t),
      times_more w (vertices t) (flat_map entered_block (blocks t)),
    );
    ascending = λ n a.
        let was = h.ascending n a in
        let now = i.ascending n was.0 was.1 in
        subst (AreAscending n) (sym (entered_out x)) (All-cons (IsAscendingWithin 1 n) (vertices x) (flat_map entered_block (blocks x)) (k.ascending n now.0) (subst (AreAscending n) (sym lists_are) now.1));
    wide = λ a.
        let was = h.wide a in
        subst AreWide (sym (widths_flat x ∙ ap (flat_map block_widths) k.blocks_are ∙ sym (widths_flat t))) (i.wide was.0 was.1);
    own = λ w z. k.own w ∙ i.own w ∙ h.own w z;
  }
