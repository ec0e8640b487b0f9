-- Sorted lists whose elements differ ascend strictly.
use Rattle.std.proofs.Common.{◌≡◌, ℕ, zero, suc, ◌+◌, ◌<◌, ◌≤◌, ◌⊎◌, inl, inr, Bool, true, false, ◌==◌, ◌&&◌, List, [], ◌∷◌, length, get_or, refl, ap, ◌∙◌, sym, subst, arith, true≢false}
use Rattle.std.specs.Prelude.{◌≢◌}
use Rattle.std.specs.Bool.{Decides}
use Rattle.std.specs.List.{AllPairs, AllByRecursion, Contains, sum_by}
use Rattle.std.specs.List.Sorted.{IsStrictlySortedBy, IsPermutation, IsSorted, IsNonDecreasingBy}
use Rattle.std.specs.Ordering.{nat_cmp, is_lt, ordering_reverse}
use Rattle.std.specs.Cmp.{IsTotalOrder, nat_cmp_is}
use Rattle.std.specs.Cmp.Lexicographic.{slice_cmp}
use Rattle.std.specs.declared.cmp.Ordering.{Ordering}
use Rattle.std.specs.declared.cmp.Ordering.TheVariants.{Less, Equal, Greater}
use Rattle.std.proofs.lemmas.Bool.{false≢true, and_parts}
use Rattle.std.proofs.lemmas.Bool.Decides.{Decides-eqb}
use Rattle.std.proofs.lemmas.Cmp.{nat_cmp_total, then_total, on_total}
use Rattle.std.proofs.lemmas.List.{get_or_default}
use Rattle.std.proofs.lemmas.List.Recursion.{is_sum_by}
use Rattle.std.proofs.lemmas.List.Sorted.{sum_by-IsPermutation}
use Rattle.std.proofs.lemmas.Map.Keys.{IsDistinct-IsPermutation}
use Rattle.std.proofs.lemmas.Map.Lookups.{exact_unsigned}
use Rattle.std.proofs.lemmas.Map.Made.{AllPairs-from_IsDistinct, IsDistinct-from_AllPairs}
use Rattle.cut_definitions.specs.Cuts.{has}
use Rattle.cut_definitions.proofs.Bridge.{has_first_of}
use Rattle.cut_definitions.proofs.Numbers.{eqb_flip}
use Rattle.cut_definitions.proofs.Orderings.{then_less, then_parts}
use Rattle.rooted_cactus.proofs.Clean.{count}
use Rattle.rooted_cactus.proofs.Sets.{HasOne}
use Rattle.edge_augment.specs.Augmentations.{pair_cmp}
use Rattle.edge_augment.specs.Laws.{AreDisjoint}
use Rattle.edge_augment.proofs.Leaves.{first_of, count_more, count_twice}

-- ---- strictly ascending lists
each_after : {X : Type 0} (P : X → Type 0) (xs : List X) → ((k : ℕ) (d : X) → k < length xs → P (get_or xs k d)) → AllByRecursion P xs
each_after P [] h = tt
each_after P (x ∷ xs) h = (h zero x (omega arith), each_after P xs (λ k d lt. h (suc k) d (omega (arith, lt))))

-- each element is less than each later one
pub strictly : {X : Type 0} (c : X → X → Ordering) (xs : List X) → AllPairs (λ x y. c x y ≡ Less) xs → IsStrictlySortedBy c xs
unfolding IsStrictlySortedBy
strictly c [] h = tt
strictly c (x ∷ xs) h = (
  each_after (λ y. c x y ≡ Less) xs (λ k d lt. h zero (suc k) d (omega arith) (omega (arith, lt))),
  strictly c xs (λ i j d lt within. h (suc i) (suc j) d (omega (arith, lt)) (omega (arith, within))),
)

-- ---- sets by their first vertices
pub before : (l m : List ℕ) → HasOne (has l) → HasOne (has m) → get_or l 0 0 ≤ get_or m 0 0 → AreDisjoint l m → slice_cmp nat_cmp l m ≡ Less
before [] m one two le apart = absurd (false≢true one.1)
before (a ∷ l) [] one two le apart = absurd (false≢true two.1)
before (a ∷ l) (b ∷ m) one two le apart =
    let other : a ≢ b = λ e. apart a (has_first_of a l) (subst (λ v. has (b ∷ m) v ≡ true) (sym e) (has_first_of b m)) in
    let less : a < b = omega (arith, le, other) in
    then_less (nat_cmp a b) (slice_cmp nat_cmp l m) (sym (nat_cmp_is a b Less less))

-- a vertex is in as many lists in any order
pub count_moved : (v : ℕ) (xs ys : List (List ℕ)) → IsPermutation xs ys → count v ys ≡ count v xs
count_moved v xs ys p =
    let each : (zs : List (List ℕ)) → count v zs ≡ sum_by (λ l. first_of (has l v)) zs = is_sum_by (count v) (λ l. first_of (has l v)) refl (count_more v) in
    each ys ∙ sum_by-IsPermutation (λ l. first_of (has l v)) xs ys p ∙ sym (each xs)

pub apart_moved : (xs ys : List (List ℕ)) → IsPermutation xs ys → ((v : ℕ) → count v xs ≤ 1) → AllPairs AreDisjoint ys
apart_moved xs ys p once i j d lt within v a b = omega (arith, once v, count_moved v xs ys p, count_twice v ys i j d lt within a b)

-- the list at a place is one of the lists
pub at_place : (xs : List (List ℕ)) (i : ℕ) (d : List ℕ) → i < length xs → Contains xs (get_or xs i d)
at_place xs i d lt = (i, lt, get_or_default xs i (get_or xs i d) d lt)

-- sets that share no vertex, sorted by their first ones
pub sets_strictly : (xs : List (List ℕ)) → ((l : List ℕ) → Contains xs l → HasOne (has l)) → AllPairs AreDisjoint xs → IsNonDecreasingBy (λ l. get_or l 0 0) xs → IsStrictlySortedBy (slice_cmp nat_cmp) xs
sets_strictly xs full apart up = strictly (slice_cmp nat_cmp) xs (λ i j d lt within.
    before (get_or xs i d) (get_or xs j d) (full (get_or xs i d) (at_place xs i d (omega arith))) (full (get_or xs j d) (at_place xs j d within)) (up i j d (omega arith) within) (apart i j d lt within))

-- ---- pairs
pub pair_total : IsTotalOrder pair_cmp
pair_total = then_total (on_total (λ (p : ℕ × ℕ). p.0) nat_cmp_total) (on_total (λ (p : ℕ × ℕ). p.1) nat_cmp_total)

one_pair : (p q : ℕ × ℕ) → pair_cmp p q ≡ Equal → p ≡ q
one_pair p q e =
    let r = then_parts (nat_cmp p.0 q.0) (nat_cmp p.1 q.1) e in
    let f = exact_unsigned p.0 q.0 r.0 in
    let g = exact_unsigned p.1 q.1 r.1 in
    λ i. (f i, g i)

turned : (o : Ordering) → is_lt o ≡ false → (ordering_reverse o ≡ Less) ⊎ (ordering_reverse o ≡ Equal)
turned Less e = absurd (true≢false e)
turned Equal e = inr refl
turned Greater e = inl refl

all_later : (x y : ℕ × ℕ) (zs : List (ℕ × ℕ)) → pair_cmp x y ≡ Less → AllByRecursion (λ z. pair_cmp y z ≡ Less) zs → AllByRecursion (λ z. pair_cmp x z ≡ Less) zs
all_later x y [] e h = tt
all_later x y (z ∷ zs) e h = (pair_total.trans x y z e h.0, all_later x y zs e h.1)

-- sorted pairs that differ
pub pairs_strictly : (xs : List (ℕ × ℕ)) → IsSorted pair_cmp xs → AllPairs (λ p q. p ≢ q) xs → IsStrictlySortedBy pair_cmp xs
unfolding IsStrictlySortedBy
pairs_strictly [] up differ = tt
pairs_strictly (x ∷ []) up differ = (tt, tt)
pairs_strictly (x ∷ (y ∷ ys)) up differ =
    let not_less : is_lt (pair_cmp y x) ≡ false = up zero x (omega arith) (omega arith) in
    let first : pair_cmp x y ≡ Less = elim (turned (pair_cmp y x) not_less) [
      | inl e ↦ pair_total.antisymm x y ∙ e
      | inr e ↦ absurd (differ zero 1 x (omega arith) (omega arith) (one_pair x y (pair_total.antisymm x y ∙ e)))
    ] in
    let rest : IsStrictlySortedBy pair_cmp (y ∷ ys) = pairs_strictly (y ∷ ys)
    (λ k d low lt. let next : suc k + 1 ≡ suc (k + 1) = omega arith in
    subst (λ m. is_lt (pair_cmp (get_or (x ∷ (y ∷ ys)) m d) (get_or (y ∷ ys) k d)) ≡ false) next (up (suc k) d (omega arith) (omega (arith, lt))))
    (λ i j d lt within. differ (suc i) (suc j) d (omega (arith, lt)) (omega (arith, within))) in
    ((first, all_later x y ys first rest.0), rest)

same : ℕ × ℕ → ℕ × ℕ → Bool
same p q = (p.0 == q.0) && (p.1 == q.1)

-- pairs that differ do so in any order
pub differ_moved : (xs ys : List (ℕ × ℕ)) → IsPermutation xs ys → AllPairs (λ p q. p ≢ q) xs → AllPairs (λ p q. p ≢ q) ys
unfolding same
differ_moved xs ys p h =
    let decides : (a b : ℕ × ℕ) → Decides (same a b) (a ≡ b) = λ a b. (
      (λ e. let r = and_parts (a.0 == b.0) (a.1 == b.1) e in let f = (Decides-eqb a.0 b.0).0 r.0 in let g = (Decides-eqb a.1 b.1).0 r.1 in λ i. (f i, g i)),
      (λ e. rw ((Decides-eqb a.0 b.0).1 (ap (λ (q : ℕ × ℕ). q.0) e), (Decides-eqb a.1 b.1).1 (ap (λ (q : ℕ × ℕ). q.1) e)) refl),
    ) in
    let flips : (a b : ℕ × ℕ) → same a b ≡ same b a = λ a b. ap (λ t. t && (a.1 == b.1)) (eqb_flip a.0 b.0) ∙ ap (λ t. (b.0 == a.0) && t) (eqb_flip a.1 b.1) in
    AllPairs-from_IsDistinct decides ys (IsDistinct-IsPermutation same flips xs ys p (IsDistinct-from_AllPairs decides xs h))
