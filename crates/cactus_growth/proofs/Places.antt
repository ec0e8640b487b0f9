-- The place of an insertion in an ascending list of edges.
use Rattle.std.proofs.Common.{◌≡◌, ℕ, zero, suc, ◌+◌, ◌-◌, ◌<◌, ◌≤◌, inl, inr, Bool, true, false, List, [], ◌∷◌, ◌++◌, length, take, drop, get_or, refl, sym, ◌∙◌, ap, subst, arith}
use Rattle.std.specs.Prelude.{not, if◌then◌else◌}
use Rattle.std.specs.List.{All, AllPairs, AllWithin, filter, slice_range, sum_by}
use Rattle.std.specs.List.Sorted.{IsPartitionedBy, IsPartitionPoint}
use Rattle.std.proofs.lemmas.Bool.{cases_Bool, cases_order, cond-true, cond-false, false≢true, not-true, not-false, not_from_false}
use Rattle.std.proofs.lemmas.Bool.Decides.{nat_tests}
use Rattle.std.proofs.lemmas.List.{append_assoc, length-drop, take-append-drop, take_all}
use Rattle.std.proofs.lemmas.List.Elements.{All-from_all_within, All-head, All-tail, All-weaker, filter_passes}
use Rattle.std.proofs.lemmas.List.Folds.{drop_split}
use Rattle.std.proofs.lemmas.List.Sums.{sum_by-append, sum_by-cons}
use Rattle.cut_definitions.specs.declared.edge_list.Edge.{Edge}
use Rattle.cut_definitions.specs.Graph.{IsBefore}
use Rattle.cactus_growth.specs.Insertion.{comes_before, inserted, same_ends, weight_there}

-- ---- filters of a list in which all that pass a test are together
filter_all : {X : Type 0} (p : X → Bool) (xs : List X) → All (λ x. p x ≡ true) xs → filter p xs ≡ xs
filter_all p [] h = refl
filter_all p (x ∷ xs) h =
    cond-true (p x) (x ∷ filter p xs) (filter p xs) (All-head (λ y. p y ≡ true) x xs h) ∙ ap (λ l. x ∷ l) (filter_all p xs (All-tail (λ y. p y ≡ true) x xs h))

filter_none : {X : Type 0} (p : X → Bool) (xs : List X) → All (λ x. p x ≡ false) xs → filter p xs ≡ []
filter_none p [] h = refl
filter_none p (x ∷ xs) h =
    cond-false (p x) (x ∷ filter p xs) (filter p xs) (All-head (λ y. p y ≡ false) x xs h) ∙ filter_none p xs (All-tail (λ y. p y ≡ false) x xs h)

within_tail : {X : Type 0} (P : X → Type 0) (x : X) (xs : List X) (low high : ℕ) → AllWithin P (x ∷ xs) (suc low) (suc high) → AllWithin P xs low high
within_tail P x xs low high h = λ k d l m. h (suc k) d (omega (arith, l)) (omega (arith, m))

within_rest : {X : Type 0} (P : X → Type 0) (x : X) (xs : List X) (high : ℕ) → AllWithin P (x ∷ xs) 0 (suc high) → AllWithin P xs 0 high
within_rest P x xs high h = λ k d l m. h (suc k) d (omega arith) (omega (arith, m))

-- the first ones pass
pub front_passes : {X : Type 0} (p : X → Bool) (xs : List X) (i : ℕ) → IsPartitionPoint (λ y. p y ≡ true) (λ y. p y ≡ false) xs i → take i xs ≡ filter p xs
front_passes p [] zero h = refl
front_passes p [] (suc i) h = refl
front_passes p (x ∷ xs) zero h = sym (filter_none p (x ∷ xs) (All-from_all_within (λ y. p y ≡ false) (x ∷ xs) h.1))
front_passes p (x ∷ xs) (suc i) h =
    let here : p x ≡ true = h.0 0 x (omega arith) (omega arith) in
    ap (λ l. x ∷ l) (front_passes p xs i (within_rest (λ y. p y ≡ true) x xs i h.0, within_tail (λ y. p y ≡ false) x xs i (length xs) h.1))
    ∙ sym (cond-true (p x) (x ∷ filter p xs) (filter p xs) here)

-- the last ones pass
pub back_passes : {X : Type 0} (p : X → Bool) (xs : List X) (i : ℕ) → IsPartitionPoint (λ y. p y ≡ false) (λ y. p y ≡ true) xs i → drop i xs ≡ filter p xs
back_passes p [] zero h = refl
back_passes p [] (suc i) h = refl
back_passes p (x ∷ xs) zero h = sym (filter_all p (x ∷ xs) (All-from_all_within (λ y. p y ≡ true) (x ∷ xs) h.1))
back_passes p (x ∷ xs) (suc i) h =
    let here : p x ≡ false = h.0 0 x (omega arith) (omega arith) in
    back_passes p xs i (within_rest (λ y. p y ≡ false) x xs i h.0, within_tail (λ y. p y ≡ true) x xs i (length xs) h.1)
    ∙ sym (cond-false (p x) (x ∷ filter p xs) (filter p xs) here)

-- ---- the order of edges by their ends
before_before : (a b e : Edge) → IsBefore a b → comes_before b e ≡ true → comes_before a e ≡ true
before_before a b e (inl h) k = grind (arith, nat_tests)
before_before a b e (inr h) k = let same : a.u ≡ b.u = h.0 in let less : a.v < b.v = h.1 in grind (arith, nat_tests)

behind_behind : (a b e : Edge) → IsBefore a b → comes_before e a ≡ true → comes_before e b ≡ true
behind_behind a b e (inl h) k = grind (arith, nat_tests)
behind_behind a b e (inr h) k = let same : a.u ≡ b.u = h.0 in let less : a.v < b.v = h.1 in grind (arith, nat_tests)

not_both : (d e : Edge) → comes_before d e ≡ true → comes_before e d ≡ false
not_both d e h = grind (arith, nat_tests)

pub before_apart : (d e : Edge) → comes_before d e ≡ true → same_ends d e ≡ false
before_apart d e h = grind (arith, nat_tests)

pub behind_apart : (d e : Edge) → comes_before e d ≡ true → same_ends d e ≡ false
behind_apart d e h = grind (arith, nat_tests)

-- what a search by halving asks of the list
pub before_parted : (e : Edge) (xs : List Edge) → AllPairs IsBefore xs → IsPartitionedBy (λ d. comes_before d e) xs
before_parted e xs h i j d l m k =
    elim (cases_order i j) [
      | inl q ↦ subst (λ n. comes_before (get_or xs n d) e ≡ true) (sym q) k
      | inr (inl q) ↦ before_before (get_or xs i d) (get_or xs j d) e (h i j d q m) k
      | inr (inr q) ↦ absurd (omega (arith, l, q))
    ]

none_behind : (a b e : Edge) → IsBefore a b → comes_before e b ≡ false → comes_before e a ≡ false
none_behind a b e h k = elim (cases_Bool (comes_before e a)) [
  | inl t ↦ absurd (false≢true (sym k ∙ behind_behind a b e h t))
  | inr f ↦ f
]

pub behind_parted : (e : Edge) (xs : List Edge) → AllPairs IsBefore xs → IsPartitionedBy (λ d. not (comes_before e d)) xs
behind_parted e xs h i j d l m k =
    elim (cases_order i j) [
      | inl q ↦ subst (λ n. not (comes_before e (get_or xs n d)) ≡ true) (sym q) k
      | inr (inl q) ↦ not_from_false (comes_before e (get_or xs i d)) (none_behind (get_or xs i d) (get_or xs j d) e (h i j d q m) (not-true (comes_before e (get_or xs j d)) k))
      | inr (inr q) ↦ absurd (omega (arith, l, q))
    ]

-- a search that asks for the opposite
pub turned_point : {X : Type 0} (p : X → Bool) (xs : List X) (i : ℕ) → IsPartitionPoint (λ y. not (p y) ≡ true) (λ y. not (p y) ≡ false) xs i → IsPartitionPoint (λ y. p y ≡ false) (λ y. p y ≡ true) xs i
turned_point p xs i h = (λ k d l m. not-true (p (get_or xs k d)) (h.0 k d l m), λ k d l m. not-false (p (get_or xs k d)) (h.1 k d l m))

-- ---- the edges before the place, there and after it
module _ (e : Edge) (xs : List Edge) (first end : ℕ) (front : first ≤ length xs) (back : end ≤ length xs)
    (before : IsPartitionPoint (λ d. comes_before d e ≡ true) (λ d. comes_before d e ≡ false) xs first)
    (behind : IsPartitionPoint (λ d. comes_before e d ≡ false) (λ d. comes_before e d ≡ true) xs end) where
  pub in_order : first ≤ end
  in_order = elim (cases_order first end) [
    | inl q ↦ omega (arith, q)
    | inr (inl q) ↦ omega (arith, q)
    | inr (inr q) ↦
        (let d = get_or xs end e in
        absurd (false≢true (sym (not_both d e (before.0 end e (omega arith) q)) ∙ behind.1 end e (omega arith) (omega (arith, q, front)))))
  ]

  pub front_is : take first xs ≡ filter (λ d. comes_before d e) xs
  front_is = front_passes (λ d. comes_before d e) xs first before

  pub back_is : drop end xs ≡ filter (λ d. comes_before e d) xs
  back_is = back_passes (λ d. comes_before e d) xs end behind

  none_there : (ys : List Edge) → All (λ d. same_ends d e ≡ false) ys → weight_there e ys ≡ 0
  none_there [] h = refl
  none_there (y ∷ ys) h =
      let P = λ (d : Edge). same_ends d e ≡ false in
      let w : weight_there e (y ∷ ys) ≡ (if same_ends y e then y.w else 0) + weight_there e ys = sum_by-cons (λ (c : Edge). if same_ends c e then c.w else 0) y ys in
      let none : (if same_ends y e then y.w else 0) ≡ 0 = cond-false (same_ends y e) y.w 0 (All-head P y ys h) in
      omega (arith, w, none, none_there ys (All-tail P y ys h))

  none_before : weight_there e (take first xs) ≡ 0
  none_before = none_there (take first xs) (subst (All (λ d. same_ends d e ≡ false)) (sym front_is)
      (All-weaker (λ d. comes_before d e ≡ true) (λ d. same_ends d e ≡ false) (λ d h. before_apart d e h) (filter (λ d. comes_before d e) xs) (filter_passes (λ d. comes_before d e) xs)))

  none_after : weight_there e (drop end xs) ≡ 0
  none_after = none_there (drop end xs) (subst (All (λ d. same_ends d e ≡ false)) (sym back_is)
      (All-weaker (λ d. comes_before e d ≡ true) (λ d. same_ends d e ≡ false) (λ d h. behind_apart d e h) (filter (λ d. comes_before e d) xs) (filter_passes (λ d. comes_before e d) xs)))

  three_sums : (f : Edge → ℕ) → sum_by f xs ≡ sum_by f (take first xs) + (sum_by f (slice_range xs first end) + sum_by f (drop end xs))
  three_sums f =
      let whole : sum_by f xs ≡ sum_by f (take first xs ++ drop first xs) = ap (sum_by f) (sym (take-append-drop first xs)) in
      let rest : sum_by f (drop first xs) ≡ sum_by f (slice_range xs first end ++ drop end xs) = ap (sum_by f) (drop_split xs first end in_order) in
      omega (arith, whole, rest, sum_by-append f (take first xs) (drop first xs), sum_by-append f (slice_range xs first end) (drop end xs))

  pub there_is : weight_there e (slice_range xs first end) ≡ weight_there e xs
  there_is = omega (arith, three_sums (λ (c : Edge). if same_ends c e then c.w else 0), none_before, none_after)

  pub there_fits : sum_by (λ (d : Edge). d.w) (slice_range xs first end) ≤ sum_by (λ (d : Edge). d.w) xs
  there_fits = omega (arith, three_sums (λ (d : Edge). d.w))

  abbrev with_weight : ℕ → Edge
  with_weight w = record { u = e.u; v = e.v; w = e.w + w }

  -- what is before the place, the edge with the weight that is there, and what is after the place
  pub put_together : (empty front_only more whole : List Edge) (w : ℕ) → w ≡ weight_there e (slice_range xs first end) → empty ≡ [] → front_only ≡ empty ++ take first xs → more ≡ front_only ++ with_weight w ∷ [] →
      whole ≡ more ++ slice_range xs end (length xs) → whole ≡ inserted e xs
  put_together empty front_only more whole w k a b c d =
      d ∙ ap (λ l. more ++ l) (take_all (length xs - end) (drop end xs) (omega (arith, length-drop end xs))) ∙ ap (λ l. l ++ drop end xs) (c ∙ ap (λ l. l ++ with_weight w ∷ []) (b ∙ ap (λ l. l ++ take first xs) a))
      ∙ append_assoc (take first xs) (with_weight w ∷ []) (drop end xs)
      ∙ ap (λ t. take first xs ++ with_weight t ∷ drop end xs) (k ∙ there_is)
      ∙ ap (λ l. l ++ with_weight (weight_there e xs) ∷ drop end xs) front_is
      ∙ ap (λ l. filter (λ d. comes_before d e) xs ++ with_weight (weight_there e xs) ∷ l) back_is
