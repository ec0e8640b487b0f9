-- Sides over one n, sorted, are their listing, if they are different.
use Rattle.std.proofs.Common.{◌≡◌, ℕ, suc, ◌≤◌, Bool, cond, inl, inr, List, [], ◌∷◌, length, get_or, refl, sym, ◌∙◌, ap, subst, arith}
use Rattle.std.specs.declared.cmp.Ordering.TheVariants.{Less, Equal}
use Rattle.std.specs.Ordering.{nat_cmp, eq_by_cmp}
use Rattle.std.specs.Cmp.Lexicographic.{slice_cmp}
use Rattle.std.specs.List.{All, Contains, dedup, dedup_from}
use Rattle.std.proofs.lemmas.Bool.{cases_Bool}
use Rattle.std.specs.List.Sorted.{IsStrictlySortedBy, IsPermutation, IsSorted}
use Rattle.std.proofs.lemmas.Cmp.{eq_by_cmp_equiv}
use Rattle.std.proofs.lemmas.List.{length-map}
use Rattle.std.proofs.lemmas.List.Elements.{All-head, All-tail, All-map, All-from_recursion}
use Rattle.std.proofs.lemmas.List.Filters.{All-dedup}
use Rattle.std.proofs.lemmas.List.Kept.{Contains-dedup, Contains-from_dedup, IsStrictlySortedBy-dedup}
use Rattle.std.proofs.lemmas.List.Sorted.{All-permutation, Contains-permutation, IsPermutation-sym, length_permutation}
use Rattle.std.proofs.lemmas.Map.Keys.{sorted_head, sorted_tail}
use Rattle.std.proofs.lemmas.Map.Lookups.{exact_bytes, exact_unsigned}
use Rattle.cut_definitions.proofs.Lists.{Contains-map, Contains-from_map}
use Rattle.cut_definitions.proofs.Orderings.{then_parts, then_same, from_is_eq}
use Rattle.vertex_set.specs.Side.{VertexList, members_of}
use Rattle.vertex_set.proofs.Compared.{side_cmp, side_total}
use Rattle.cut_definitions.specs.Members.{AreDifferent, IsAscending}
use Rattle.cut_listing.specs.Listings.{different}
use Rattle.cut_listing.proofs.Listed.{all_different, ascending_cons, ascending_nil, is_different}

equal_sides : (x y : VertexList) → x.members ≡ y.members → x.vertices ≡ y.vertices → x ≡ y
equal_sides x y e f = λ i. record { vertices = f i; members = e i }

one_side : (x y : VertexList) → side_cmp x y ≡ Equal → x ≡ y
one_side x y e =
    let p = then_parts (slice_cmp nat_cmp x.members y.members) (nat_cmp x.vertices y.vertices) e in
    equal_sides x y (exact_bytes x.members y.members p.0) (exact_unsigned x.vertices y.vertices p.1)

-- over one n the members alone decide
members_ascending : (n : ℕ) (xs : List VertexList) → All (λ (s : VertexList). s.vertices ≡ n) xs → IsStrictlySortedBy side_cmp xs → IsAscending (members_of xs)
members_ascending n [] over up = ascending_nil
members_ascending n (x ∷ xs) over up =
    let own = All-head (λ (s : VertexList). s.vertices ≡ n) x xs over in
    let rest = All-tail (λ (s : VertexList). s.vertices ≡ n) x xs over in
    let later = All-from_recursion (λ y. side_cmp x y ≡ Less) xs (sorted_head side_cmp x xs up) in
    ascending_cons x.members (members_of xs)
    (All-map (λ m. slice_cmp nat_cmp x.members m ≡ Less) (λ (s : VertexList). s.members) xs
    (λ k d l. sym (then_same (slice_cmp nat_cmp x.members (get_or xs k d).members) x.vertices (get_or xs k d).vertices (own ∙ sym (rest k d l))) ∙ later k d l))
    (members_ascending n xs rest (sorted_tail side_cmp x xs up))

no_repeats : (n : ℕ) (old sorted : List VertexList) → All (λ (s : VertexList). s.vertices ≡ n) old → IsPermutation old sorted → IsSorted side_cmp sorted → members_of (dedup (eq_by_cmp side_cmp) sorted) ≡ different (members_of old)
no_repeats n old sorted over moved up =
    let left = dedup (eq_by_cmp side_cmp) sorted in
    let over_left = All-dedup (eq_by_cmp side_cmp) (λ (s : VertexList). s.vertices ≡ n) sorted (All-permutation (λ (s : VertexList). s.vertices ≡ n) old sorted moved over) in
    is_different (members_of old) (members_of left)
    (members_ascending n left over_left (IsStrictlySortedBy-dedup side_total (λ x y. refl) sorted up))
    (λ m c. let x = Contains-from_map (λ (s : VertexList). s.members) left m c in
    subst (Contains (members_of old)) x.2 (Contains-map (λ (s : VertexList). s.members) old x.0 (Contains-permutation sorted old x.0 (IsPermutation-sym old sorted moved) (Contains-from_dedup (eq_by_cmp side_cmp) sorted x.0 x.1))))
    (λ m c. let x = Contains-from_map (λ (s : VertexList). s.members) old m c in
    subst (Contains (members_of left)) x.2 (Contains-map (λ (s : VertexList). s.members) left x.0
    (Contains-dedup (eq_by_cmp_equiv side_total) (λ a b e. one_side a b (from_is_eq (side_cmp a b) e)) sorted x.0 (Contains-permutation old sorted x.0 moved x.1))))

-- ---- no repeats to drop
shorter : {X : Type 0} (E : X → X → Bool) (k : X) (xs : List X) → length (dedup_from E k xs) ≤ suc (length xs)
shorter E k [] = omega arith
shorter E k (x ∷ xs) = elim (cases_Bool (E x k)) [
  | inl is ↦ rw is (omega (arith, shorter E k xs))
  | inr other ↦ rw other (omega (arith, shorter E x xs))
]

all_kept : {X : Type 0} (E : X → X → Bool) (k : X) (xs : List X) → suc (length xs) ≤ length (dedup_from E k xs) → dedup_from E k xs ≡ k ∷ xs
all_kept E k [] h = refl
all_kept E k (x ∷ xs) h = elim (cases_Bool (E x k)) [
  | inl is ↦ (
      let e : dedup_from E k (x ∷ xs) ≡ dedup_from E k xs = ap (λ b. cond b (dedup_from E k xs) (k ∷ dedup_from E x xs)) is in
      absurd (omega (arith, h, ap length e, shorter E k xs)))
  | inr other ↦ (
      let e : dedup_from E k (x ∷ xs) ≡ k ∷ dedup_from E x xs = ap (λ b. cond b (dedup_from E k xs) (k ∷ dedup_from E x xs)) other in
      e ∙ ap (λ l. k ∷ l) (all_kept E x xs (omega (arith, h, ap length e))))
]

none_dropped : {X : Type 0} (E : X → X → Bool) (xs : List X) → length xs ≤ length (dedup E xs) → dedup E xs ≡ xs
none_dropped E [] h = refl
none_dropped E (x ∷ xs) h = all_kept E x xs h

pub all_sorted : (n : ℕ) (old sorted : List VertexList) → All (λ (s : VertexList). s.vertices ≡ n) old → AreDifferent (members_of old) → IsPermutation old sorted → IsSorted side_cmp sorted → members_of sorted ≡ different (members_of old)
all_sorted n old sorted over differ moved up =
    let left = dedup (eq_by_cmp side_cmp) sorted in
    let same : members_of left ≡ different (members_of old) = no_repeats n old sorted over moved up in
    let many : length sorted ≤ length left = omega (
      arith,
      ap length same,
      all_different (members_of old) differ,
      length-map left (λ (s : VertexList). s.members),
      length-map old (λ (s : VertexList). s.members),
      length_permutation old sorted moved,
    ) in
    sym (ap members_of (none_dropped (eq_by_cmp side_cmp) sorted many)) ∙ same
