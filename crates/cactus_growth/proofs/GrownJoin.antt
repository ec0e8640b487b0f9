-- Two nodes of one block become one: the cuts that separate two vertices below them go.
use Rattle.std.proofs.Common.{◌≡◌, ℕ, ◌+◌, ◌≤◌, ◌↔◌, ◌⊎◌, inl, inr, Bool, true, false, cond, ◌||◌, List, ◌∷◌, ◌++◌, map, refl, ap, ◌∙◌, sym, subst, arith}
use Rattle.std.specs.List.{Contains, flat_map}
use Rattle.std.proofs.lemmas.List.{map-append, append_assoc}
use Rattle.std.proofs.lemmas.List.Concat.{flat_map-append}
use Rattle.std.proofs.lemmas.List.Elements.{All-append, All-cons, All-head, All-tail, Contains-append_left, Contains-append_right, Contains-append_cases}
use Rattle.std.proofs.lemmas.Bool.{or_left, or_right}
use Rattle.cut_definitions.specs.Weight.{VertexSet, either}
use Rattle.cut_definitions.specs.Cuts.{has, IsAscendingWithin}
use Rattle.cut_definitions.proofs.ListLaws.{All-front, All-back}
use Rattle.cut_definitions.proofs.Bools.{no_left, no_right}
use Rattle.rooted_cactus.specs.Sides.{Part, part, block_part, all_of, belows, all_cuts}
use Rattle.rooted_cactus.specs.Entered.{entered, entered_block}
use Rattle.rooted_cactus.specs.Trees.{vertices, blocks}
use Rattle.rooted_cactus.specs.Widths.{widths, block_widths}
use Rattle.rooted_cactus.specs.declared.tree.Node.{Node}
use Rattle.rooted_cactus.proofs.Cycles.{cycle_cuts}
use Rattle.rooted_cactus.proofs.Orders.{entered_out}
use Rattle.rooted_cactus.proofs.BlockLaws.{widths_flat}
use Rattle.rooted_cactus.proofs.Trims.{cuts_out}
use Rattle.cactus_growth.specs.Growth.{times, AreOnce, AreAscending, AscendBelow, AreWide, IsArcHung, IsTakenIn, IsSorted, IsOpened, IsGrown, IsPulled}
use Rattle.cactus_growth.proofs.Counts.{count_both}
use Rattle.cactus_growth.proofs.CycleKept.{IsJoint, cycle_kept}
use Rattle.cactus_growth.proofs.GrownUp.{walk_once, top_lacks}
use Rattle.cactus_growth.proofs.Opened.{mid_flat, below_both, other_nodes}
use Rattle.cactus_growth.proofs.Pulled.{times_more, ascending_within}
use Rattle.cactus_growth.proofs.Runs.{along, along_is}
use Rattle.cactus_growth.proofs.WaysDown.{below_at}

-- two nodes became one, with the vertices and the blocks of both
pub record IsAbsorbed (node other x : Node) : Type 0 where
  pub below : (v : ℕ) → (part x).below v ≡ ((part node).below v || (part other).below v)
  pub cuts : (s : VertexSet) → Contains (part x).cuts s ↔ (Contains (part node).cuts s ⊎ Contains (part other).cuts s)
  pub counts : (v : ℕ) → times v (entered x) ≤ times v (entered node) + times v (entered other)
  pub ascending : (n : ℕ) → AreAscending n (entered node) → AreAscending n (entered other) → AreAscending n (entered x)
  pub wide : AreWide (widths node) → AreWide (widths other) → AreWide (widths x)

pub ascend_below : (n : ℕ) (x : Node) → AreAscending n (entered x) → AscendBelow n x
ascend_below n x a =
    let P = IsAscendingWithin 1 n in
    let all : AreAscending n (vertices x ∷ flat_map entered_block (blocks x)) = subst (AreAscending n) (entered_out x) a in
    (ascending_within 1 n (vertices x) (λ v low. low) (All-head P (vertices x) (flat_map entered_block (blocks x)) all), All-tail P (vertices x) (flat_map entered_block (blocks x)) all)

pub absorbed : (node other t x : Node) → IsTakenIn node other t → IsSorted t x → IsAbsorbed node other x
absorbed node other t x i k =
    let cuts_are : (part x).cuts ≡ (part t).cuts = cuts_out x ∙ ap (λ bs. all_cuts (map block_part bs)) k.blocks_are ∙ sym (cuts_out t) in
    let lists_are : flat_map entered_block (blocks x) ≡ flat_map entered_block (blocks t) = ap (flat_map entered_block) k.blocks_are in
    record {
      below = λ w. below_at x w ∙ ap (λ bs. has (vertices x) w || all_of (belows (map block_part bs)) w) k.blocks_are ∙ ap (λ b. b || all_of (belows (map block_part (blocks t))) w) (k.own w)
          ∙ sym (below_at t w) ∙ i.below w;
      cuts = λ s. ((λ c. (i.cuts s).0 (subst (λ l. Contains l s) cuts_are c)), (λ m. subst (λ l. Contains l s) (sym cuts_are) ((i.cuts s).1 m)));
      counts = λ w. omega (
        arith,
        i.counts w,
        ap (times w) (entered_out x),
        times_more w (vertices x) (flat_map entered_block (blocks x)),
        ap (times w) lists_are,
        ap {B = ℕ} (λ b. cond b 1 0) (k.own w),
        ap (times w) (entered_out t),
        times_more w (vertices t) (flat_map entered_block (blocks t)),
      );
      ascending = λ n a b.
          let now = i.ascending n (ascend_below n node a) b in
          subst (AreAscending n) (sym (entered_out x)) (All-cons (IsAscendingWithin 1 n) (vertices x) (flat_map entered_block (blocks x)) (k.ascending n now.0) (subst (AreAscending n) (sym lists_are) now.1));
      wide = λ a b. subst AreWide (sym (widths_flat x ∙ ap (flat_map block_widths) k.blocks_are ∙ sym (widths_flat t))) (i.wide a b);
    }

module _ (u v : ℕ) (old top far x : Node) (front xs ms ys : List Node) (near n2 f2 j0 j : Node) (o : IsOpened old top front far ys) (front_is : front ≡ xs ++ near ∷ ms) (once_all : AreOnce (entered old))
    (near_u : (part near).below u ≡ true) (far_v : (part far).below v ≡ true) (pn : IsPulled u near n2) (pf : IsPulled v far f2) (ab : IsAbsorbed n2 f2 j0) (arc : IsArcHung j0 ms j) (k : IsArcHung top (xs ++ j ∷ ys) x) where
  abbrev walk : List Node
  walk = front ++ far ∷ ys

  abbrev new : List Node
  new = xs ++ j ∷ ys

  once : AreOnce (flat_map entered walk)
  once = walk_once old top far front ys o once_all

  whole : walk ≡ xs ++ near ∷ (ms ++ far ∷ ys)
  whole = ap (λ l. l ++ far ∷ ys) front_is ∙ append_assoc xs (near ∷ ms) (far ∷ ys)

  near_out : (all_of (belows (map part xs)) u ≡ false) × (all_of (belows (map part (ms ++ far ∷ ys))) u ≡ false)
  near_out = other_nodes xs (ms ++ far ∷ ys) walk near whole once u near_u

  far_out : (all_of (belows (map part front)) v ≡ false) × (all_of (belows (map part ys)) v ≡ false)
  far_out = other_nodes front ys walk far refl once v far_v

  behind_u : (all_of (belows (map part ms)) u || ((part far).below u || all_of (belows (map part ys)) u)) ≡ false
  behind_u = sym (below_both ms (far ∷ ys) u) ∙ near_out.1

  before_v : (all_of (belows (map part xs)) v || ((part near).below v || all_of (belows (map part ms)) v)) ≡ false
  before_v = sym (below_both xs (near ∷ ms) v) ∙ ap (λ l. all_of (belows (map part l)) v) (sym front_is) ∙ far_out.0

  old_below : (w : ℕ) → all_of (belows (map part walk)) w ≡ (all_of (belows (map part xs)) w || ((part near).below w || (all_of (belows (map part ms)) w || ((part far).below w || all_of (belows (map part ys)) w))))
  old_below w = ap (λ l. all_of (belows (map part l)) w) whole ∙ below_both xs (near ∷ (ms ++ far ∷ ys)) w ∙ ap (λ z. all_of (belows (map part xs)) w || ((part near).below w || z)) (below_both ms (far ∷ ys) w)

  walk_u : all_of (belows (map part walk)) u ≡ true
  walk_u = old_below u ∙ or_right (all_of (belows (map part xs)) u) _ (or_left ((part near).below u) _ near_u)

  walk_v : all_of (belows (map part walk)) v ≡ true
  walk_v = old_below v ∙ or_right (all_of (belows (map part xs)) v) _ (or_right ((part near).below v) _ (or_right (all_of (belows (map part ms)) v) _ (or_left ((part far).below v) _ far_v)))

  j_below_at : (w : ℕ) → (part j).below w ≡ (((part near).below w || (part far).below w) || all_of (belows (map part ms)) w)
  j_below_at w = ap (λ (q : Part). q.below w) arc.part_is ∙ ap (λ z. z || all_of (belows (map part ms)) w) (ab.below w ∙ ap (λ z. z || (part f2).below w) (pn.below w) ∙ ap (λ z. (part near).below w || z) (pf.below w))

  swap_or : (a b d : Bool) → ((a || b) || d) ≡ ((a || d) || b)
  swap_or true b d = refl
  swap_or false true true = refl
  swap_or false true false = refl
  swap_or false false true = refl
  swap_or false false false = refl

  j_at : (w : ℕ) → (part j).below w ≡ either (along (part near).below (belows (map part ms))) (part far).below w
  j_at w = j_below_at w ∙ swap_or ((part near).below w) ((part far).below w) (all_of (belows (map part ms)) w)
      ∙ ap (λ (t : VertexSet). t w || (part far).below w) (sym (along_is (part near).below (belows (map part ms))))

  j_is : (part j).below ≡ either (along (part near).below (belows (map part ms))) (part far).below
  j_is = λ i w. j_at w i

  j_cuts : IsJoint u v near ms far (part j)
  j_cuts s =
      let walk = cycle_cuts (map part ms) in (
        (λ m. elim (Contains-append_cases (part j0).cuts walk s (subst (λ (q : Part). Contains q.cuts s) arc.part_is m)) [
          | inl h ↦ elim ((ab.cuts s).0 h) [ inl a ↦ inl ((pn.cuts s).0 a) | inr a ↦ inr (inl ((pf.cuts s).0 a)) ]
          | inr h ↦ inr (inr h)
        ]),
        (λ m. subst (λ (q : Part). Contains q.cuts s) (sym arc.part_is) (elim m [
          | inl a ↦ Contains-append_left (part j0).cuts walk s ((ab.cuts s).1 (inl ((pn.cuts s).1 a)))
          | inr h ↦ elim h [
            | inl a ↦ Contains-append_left (part j0).cuts walk s ((ab.cuts s).1 (inr ((pf.cuts s).1 a)))
            | inr a ↦ Contains-append_right (part j0).cuts walk s a
          ]
        ])),
      )

  all_is : map part walk ≡ map part xs ++ part near ∷ (map part ms ++ part far ∷ map part ys)
  all_is = ap (map part) whole ∙ map-append part xs (near ∷ (ms ++ far ∷ ys)) ∙ ap (λ l. map part xs ++ part near ∷ l) (map-append part ms (far ∷ ys))

  next_is : map part new ≡ map part xs ++ part j ∷ map part ys
  next_is = map-append part xs (j ∷ ys)

  kept : (s : VertexSet) → Contains (cycle_cuts (map part xs ++ part j ∷ map part ys)) s ↔ (Contains (cycle_cuts (map part xs ++ part near ∷ (map part ms ++ part far ∷ map part ys))) s × (s u ≡ s v))
  kept =
      let a = all_of (belows (map part ms)) in
      let b = all_of (belows (map part ys)) in
      let u2 = no_right (a u) ((part far).below u || b u) behind_u in
      let v2 = no_right (all_of (belows (map part xs)) v) ((part near).below v || a v) before_v in
      cycle_kept u v xs near ms far ys (part j) j_is j_cuts near_u (no_left ((part near).below v) (a v) v2) (no_left ((part far).below u) (b u) u2) far_v
      near_out.0 (no_left (all_of (belows (map part xs)) v) ((part near).below v || a v) before_v) (no_left (a u) ((part far).below u || b u) behind_u) (no_right ((part near).below v) (a v) v2)
      (no_right ((part far).below u) (b u) u2) far_out.1

  five_or : (x n f m y : Bool) → (x || (((n || f) || m) || y)) ≡ (x || (n || (m || (f || y))))
  five_or true n f m y = refl
  five_or false true f m y = refl
  five_or false false true true y = refl
  five_or false false true false y = refl
  five_or false false false m y = refl

  old_lists : flat_map entered walk ≡ flat_map entered xs ++ (entered near ++ (flat_map entered ms ++ (entered far ++ flat_map entered ys)))
  old_lists = mid_flat entered xs (ms ++ far ∷ ys) walk near whole ∙ ap (λ l. flat_map entered xs ++ (entered near ++ l)) (flat_map-append entered ms (far ∷ ys))

  old_widths : flat_map widths walk ≡ flat_map widths xs ++ (widths near ++ (flat_map widths ms ++ (widths far ++ flat_map widths ys)))
  old_widths = mid_flat widths xs (ms ++ far ∷ ys) walk near whole ∙ ap (λ l. flat_map widths xs ++ (widths near ++ l)) (flat_map-append widths ms (far ∷ ys))

  forth : (s : VertexSet) → Contains (part x).cuts s → Contains (part old).cuts s × (s u ≡ s v)
  forth s m = elim (Contains-append_cases (part top).cuts (cycle_cuts (map part new)) s (subst (λ (q : Part). Contains q.cuts s) k.part_is m)) [
    | inl c ↦ ((o.cuts s).1 (inl c), top_lacks old top far front ys o once_all u walk_u s c ∙ sym (top_lacks old top far front ys o once_all v walk_v s c))
    | inr c ↦ (let r = (kept s).0 (subst (λ ps. Contains (cycle_cuts ps) s) next_is c) in ((o.cuts s).1 (inr (subst (λ ps. Contains (cycle_cuts ps) s) (sym all_is) r.0)), r.1))
  ]

  back : (s : VertexSet) → Contains (part old).cuts s × (s u ≡ s v) → Contains (part x).cuts s
  back s m = subst (λ (q : Part). Contains q.cuts s) (sym k.part_is) (elim ((o.cuts s).0 m.0) [
    | inl c ↦ Contains-append_left (part top).cuts (cycle_cuts (map part new)) s c
    | inr c ↦ Contains-append_right (part top).cuts (cycle_cuts (map part new)) s
        (subst (λ ps. Contains (cycle_cuts ps) s) (sym next_is) ((kept s).1 (subst (λ ps. Contains (cycle_cuts ps) s) all_is c, m.1)))
  ])

  pub grown_join : IsGrown u v old x
  grown_join = record {
    below = λ w. ap (λ (q : Part). q.below w) k.part_is
        ∙ ap (λ z. (part top).below w || z) (
        below_both xs (j ∷ ys) w
        ∙ ap (λ z. all_of (belows (map part xs)) w || (z || all_of (belows (map part ys)) w)) (j_below_at w)
        ∙ five_or (all_of (belows (map part xs)) w) ((part near).below w) ((part far).below w) (all_of (belows (map part ms)) w) (all_of (belows (map part ys)) w)
        ∙ sym (old_below w)
        )
        ∙ sym (o.below w);
    cuts = λ s. (forth s, back s);
    counts = λ w. omega (
      arith,
      o.counts w,
      ap (times w) k.entered_is,
      count_both w (entered top) (flat_map entered new),
      ap (times w) (mid_flat entered xs ys new j refl),
      count_both w (flat_map entered xs) (entered j ++ flat_map entered ys),
      count_both w (entered j) (flat_map entered ys),
      ap (times w) arc.entered_is,
      count_both w (entered j0) (flat_map entered ms),
      ab.counts w,
      pn.counts w,
      pf.counts w,
      ap (times w) old_lists,
      count_both w (flat_map entered xs) (entered near ++ (flat_map entered ms ++ (entered far ++ flat_map entered ys))),
      count_both w (entered near) (flat_map entered ms ++ (entered far ++ flat_map entered ys)),
      count_both w (flat_map entered ms) (entered far ++ flat_map entered ys),
      count_both w (entered far) (flat_map entered ys),
    );
    ascending = λ n a.
        let P = IsAscendingWithin 1 n in
        let was = o.ascending n a in
        let d0 : AreAscending n (flat_map entered xs ++ (entered near ++ (flat_map entered ms ++ (entered far ++ flat_map entered ys)))) = subst (AreAscending n) old_lists was.1 in
        let d1 = All-back P (flat_map entered xs) (entered near ++ (flat_map entered ms ++ (entered far ++ flat_map entered ys))) d0 in
        let d2 = All-back P (entered near) (flat_map entered ms ++ (entered far ++ flat_map entered ys)) d1 in
        let d3 = All-back P (flat_map entered ms) (entered far ++ flat_map entered ys) d2 in
        let mid : AreAscending n (entered j) = subst (AreAscending n) (sym arc.entered_is) (All-append P (entered j0) (flat_map entered ms)
        (ab.ascending n (pn.ascending n (All-front P (entered near) (flat_map entered ms ++ (entered far ++ flat_map entered ys)) d1)) (pf.ascending n (All-front P (entered far) (flat_map entered ys) d3)))
        (All-front P (flat_map entered ms) (entered far ++ flat_map entered ys) d2)) in
        subst (AreAscending n) (sym k.entered_is) (All-append P (entered top) (flat_map entered new) was.0
        (subst (AreAscending n) (sym (mid_flat entered xs ys new j refl))
        (All-append P (flat_map entered xs) (entered j ++ flat_map entered ys) (All-front P (flat_map entered xs) (entered near ++ (flat_map entered ms ++ (entered far ++ flat_map entered ys))) d0)
        (All-append P (entered j) (flat_map entered ys) mid (All-back P (entered far) (flat_map entered ys) d3)))));
    wide = λ a.
        let P : ℕ → Type 0 = λ z. 2 ≤ z in
        let was = o.wide a in
        let d0 : AreWide (flat_map widths xs ++ (widths near ++ (flat_map widths ms ++ (widths far ++ flat_map widths ys)))) = subst AreWide old_widths was.1 in
        let d1 = All-back P (flat_map widths xs) (widths near ++ (flat_map widths ms ++ (widths far ++ flat_map widths ys))) d0 in
        let d2 = All-back P (widths near) (flat_map widths ms ++ (widths far ++ flat_map widths ys)) d1 in
        let d3 = All-back P (flat_map widths ms) (widths far ++ flat_map widths ys) d2 in
        let mid : AreWide (widths j) = arc.wide (ab.wide (pn.wide (All-front P (widths near) (flat_map widths ms ++ (widths far ++ flat_map widths ys)) d1)) (pf.wide (All-front P (widths far) (flat_map widths ys) d3)))
        (All-front P (flat_map widths ms) (widths far ++ flat_map widths ys) d2) in
        k.wide was.0 (subst AreWide (sym (mid_flat widths xs ys new j refl))
        (All-append P (flat_map widths xs) (widths j ++ flat_map widths ys) (All-front P (flat_map widths xs) (widths near ++ (flat_map widths ms ++ (widths far ++ flat_map widths ys))) d0)
        (All-append P (widths j) (flat_map widths ys) mid (All-back P (widths far) (flat_map widths ys) d3))));
    own = λ w h. ap (λ l. has l w) k.own ∙ ap (λ l. has l w) (sym o.own) ∙ h;
  }
