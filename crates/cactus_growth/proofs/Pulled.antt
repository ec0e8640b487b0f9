-- Blocks that are hung one after another, and nodes that become one.
use Rattle.std.proofs.Common.{◌≡◌, ℕ, ◌+◌, ◌<◌, ◌≤◌, inl, inr, Bool, true, false, cond, ◌||◌, List, [], ◌∷◌, ◌++◌, length, map, refl, ap, ◌∙◌, sym, subst, arith}
use Rattle.std.specs.List.{Contains, flat_map}
use Rattle.std.proofs.lemmas.Bool.{cases_Bool}
use Rattle.std.proofs.lemmas.List.{append_assoc}
use Rattle.std.proofs.lemmas.List.Elements.{All-nil, All-append, All-cons, All-head, All-tail, Contains-append_left, Contains-append_right, Contains-append_cases}
use Rattle.cut_definitions.specs.Cuts.{has, IsAscendingWithin}
use Rattle.cut_definitions.proofs.ListLaws.{All-front, All-back}
use Rattle.rooted_cactus.specs.Sides.{Part, part, block_part, all_of, belows, all_cuts, with_below}
use Rattle.rooted_cactus.specs.Entered.{entered, entered_block}
use Rattle.rooted_cactus.specs.Trees.{vertices, blocks}
use Rattle.rooted_cactus.specs.Widths.{widths, block_widths}
use Rattle.rooted_cactus.specs.declared.tree.Node.{Node}
use Rattle.rooted_cactus.specs.declared.tree.Block.{Block}
use Rattle.rooted_cactus.proofs.Orders.{entered_out}
use Rattle.rooted_cactus.proofs.Segments.{has_append_at}
use Rattle.rooted_cactus.proofs.BlockLaws.{widths_flat}
use Rattle.rooted_cactus.proofs.Trims.{cuts_out}
use Rattle.cactus_growth.specs.Growth.{times, AreAscending, AreWithin, AreWide, AreHung, IsTakenIn}
use Rattle.cactus_growth.proofs.Counts.{count_both}
use Rattle.cactus_growth.proofs.WaysDown.{below_at}

pub none_left : {X : Type 0} (xs : List X) → (0 < length xs → ⊥) → xs ≡ []
none_left [] h = refl
none_left (x ∷ xs) h = absurd (h (omega arith))

-- one more block at the head of those that were taken
pub more_done : {X : Type 0} (all cur new done : List X) (x : X) → all ≡ cur ++ done → cur ≡ new ++ x ∷ [] → all ≡ new ++ (x ∷ done)
more_done all cur new done x e f = e ∙ ap (λ l. l ++ done) f ∙ append_assoc new (x ∷ []) done

pub turn_or : (a b c : Bool) → ((a || b) || c) ≡ (a || (c || b))
turn_or true b c = refl
turn_or false true true = refl
turn_or false true false = refl
turn_or false false true = refl
turn_or false false false = refl

-- ---- hung
-- the lists of the nodes below a node that has more of them
pub rest_lists : (x y : Node) (more : List (List ℕ)) → entered x ≡ entered y ++ more → flat_map entered_block (blocks x) ≡ flat_map entered_block (blocks y) ++ more
rest_lists x y more e =
    let h : vertices x ∷ flat_map entered_block (blocks x) ≡ vertices y ∷ (flat_map entered_block (blocks y) ++ more) = sym (entered_out x) ∙ e ∙ ap (λ l. l ++ more) (entered_out y) in
    (let q : flat_map entered_block (blocks x) ≡ flat_map entered_block (blocks y) ++ more = cc in q)

pub hung_step : (node y x : Node) (b : Block) (done : List Block) → part x ≡ with_below (part y) (block_part b) → entered x ≡ entered y ++ entered_block b → widths x ≡ widths y ++ block_widths b →
    vertices x ≡ vertices y → AreHung node done y → AreHung node (b ∷ done) x
hung_step node y x b done p e w o h =
    let later = all_cuts (map block_part done) in
    record {
      below = λ v. ap (λ (q : Part). q.below v) p ∙ ap (λ k. k || (block_part b).below v) (h.below v) ∙ turn_or ((part node).below v) (all_of (belows (map block_part done)) v) ((block_part b).below v);
      cuts = λ s. (
        (λ c. elim (Contains-append_cases (part y).cuts (block_part b).cuts s (subst (λ (q : Part). Contains q.cuts s) p c)) [
          | inl a ↦ elim ((h.cuts s).0 a) [ inl k ↦ inl k | inr k ↦ inr (Contains-append_right (block_part b).cuts later s k) ]
          | inr a ↦ inr (Contains-append_left (block_part b).cuts later s a)
        ]),
        (λ c. subst (λ (q : Part). Contains q.cuts s) (sym p) (elim c [
          | inl k ↦ Contains-append_left (part y).cuts (block_part b).cuts s ((h.cuts s).1 (inl k))
          | inr k ↦ elim (Contains-append_cases (block_part b).cuts later s k) [
            | inl a ↦ Contains-append_right (part y).cuts (block_part b).cuts s a
            | inr a ↦ Contains-append_left (part y).cuts (block_part b).cuts s ((h.cuts s).1 (inr a))
          ]
        ])),
      );
      counts = λ v. let split : times v (entered x) ≡ times v (entered y) + times v (entered_block b) = ap (times v) e ∙ count_both v (entered y) (entered_block b) in
          omega (arith, split, h.counts v, count_both v (entered_block b) (flat_map entered_block done));
      ascending = λ n a d. subst (AreAscending n) (sym (rest_lists x y (entered_block b) e))
          (All-append (IsAscendingWithin 1 n) (flat_map entered_block (blocks y)) (entered_block b) (h.ascending n a (All-back (IsAscendingWithin 1 n) (entered_block b) (flat_map entered_block done) d)) (All-front (IsAscendingWithin 1 n) (entered_block b) (flat_map entered_block done) d));
      wide = λ a d. subst AreWide (sym w)
          (All-append (λ k. 2 ≤ k) (widths y) (block_widths b) (h.wide a (All-back (λ k. 2 ≤ k) (block_widths b) (flat_map block_widths done) d)) (All-front (λ k. 2 ≤ k) (block_widths b) (flat_map block_widths done) d));
      own = o ∙ h.own;
    }

-- ---- two nodes as one
pub times_more : (v : ℕ) (l : List ℕ) (ls : List (List ℕ)) → times v (l ∷ ls) ≡ cond (has l v) 1 0 + times v ls
times_more v l ls = elim (cases_Bool (has l v)) [ inl e ↦ rw e (omega arith) | inr e ↦ rw e (omega arith) ]

either_times : (a b c : Bool) → c ≡ (a || b) → cond c 1 0 ≤ cond a 1 0 + cond b 1 0
either_times true b c e = rw e (omega arith)
either_times false true c e = rw e (omega arith)
either_times false false c e = rw e (omega arith)

four_or : (a b c d : Bool) → (((a || b) || c) || d) ≡ ((a || c) || (b || d))
four_or true b c d = refl
four_or false true true d = refl
four_or false true false d = refl
four_or false false c d = refl

pub ascending_within : (low n : ℕ) (l : List ℕ) → ((v : ℕ) → low ≤ v → 1 ≤ v) → IsAscendingWithin low n l → AreWithin n l
ascending_within low n [] f a = All-nil (λ v. (1 ≤ v) × (v ≤ n))
ascending_within low n (x ∷ xs) f a = All-cons (λ v. (1 ≤ v) × (v ≤ n)) x xs (f x a.0, a.1) (ascending_within (x + 1) n xs (λ v h. omega (arith, f x a.0, h)) a.2)

pub taken_in : (node other mid x : Node) → blocks mid ≡ blocks node → vertices mid ≡ vertices node ++ vertices other → AreHung mid (blocks other) x → IsTakenIn node other x
taken_in node other mid x e f h =
    let members : (v : ℕ) → has (vertices mid) v ≡ (has (vertices node) v || has (vertices other) v) = λ v. ap (λ l. has l v) f ∙ has_append_at (vertices node) (vertices other) v in
    let mid_cuts : (part mid).cuts ≡ (part node).cuts = cuts_out mid ∙ ap (λ bs. all_cuts (map block_part bs)) e ∙ sym (cuts_out node) in
    let mid_entered : entered mid ≡ vertices mid ∷ flat_map entered_block (blocks node) = entered_out mid ∙ ap (λ bs. vertices mid ∷ flat_map entered_block bs) e in
    let mid_widths : widths mid ≡ widths node = widths_flat mid ∙ ap (flat_map block_widths) e ∙ sym (widths_flat node) in
    record {
      below = λ v. h.below v
          ∙ ap (λ k. k || all_of (belows (map block_part (blocks other))) v)
          (below_at mid v ∙ ap (λ bs. has (vertices mid) v || all_of (belows (map block_part bs)) v) e ∙ ap (λ k. k || all_of (belows (map block_part (blocks node))) v) (members v))
          ∙ four_or (has (vertices node) v) (has (vertices other) v) (all_of (belows (map block_part (blocks node))) v) (all_of (belows (map block_part (blocks other))) v)
          ∙ ap (λ k. k || (has (vertices other) v || all_of (belows (map block_part (blocks other))) v)) (sym (below_at node v))
          ∙ ap (λ k. (part node).below v || k) (sym (below_at other v));
      cuts = λ s. (
        (λ c. elim ((h.cuts s).0 c) [ inl a ↦ inl (subst (λ l. Contains l s) mid_cuts a) | inr a ↦ inr (subst (λ l. Contains l s) (sym (cuts_out other)) a) ]),
        (λ c. elim c [ inl a ↦ (h.cuts s).1 (inl (subst (λ l. Contains l s) (sym mid_cuts) a)) | inr a ↦ (h.cuts s).1 (inr (subst (λ l. Contains l s) (cuts_out other) a)) ]),
      );
      counts = λ v. omega (
        arith,
        h.counts v,
        ap (times v) mid_entered,
        times_more v (vertices mid) (flat_map entered_block (blocks node)),
        ap (times v) (entered_out node),
        times_more v (vertices node) (flat_map entered_block (blocks node)),
        ap (times v) (entered_out other),
        times_more v (vertices other) (flat_map entered_block (blocks other)),
        either_times (has (vertices node) v) (has (vertices other) v) (has (vertices mid) v) (members v),
      );
      ascending = λ n a b.
          let P = IsAscendingWithin 1 n in
          let b2 : AreAscending n (vertices other ∷ flat_map entered_block (blocks other)) = subst (AreAscending n) (entered_out other) b in (
            subst (AreWithin n) (sym (h.own ∙ f)) (All-append (λ v. (1 ≤ v) × (v ≤ n)) (vertices node) (vertices other) a.0 (ascending_within 1 n (vertices other) (λ v low. low) (All-head P (vertices other) (flat_map entered_block (blocks other)) b2))),
            h.ascending n (subst (λ bs. AreAscending n (flat_map entered_block bs)) (sym e) a.1) (All-tail P (vertices other) (flat_map entered_block (blocks other)) b2),
          );
      wide = λ a b. h.wide (subst AreWide (sym mid_widths) a) (subst AreWide (widths_flat other) b);
      own = λ v. ap (λ l. has l v) h.own ∙ members v;
    }
