-- Sides over one n, sorted.
use Rattle.std.proofs.Common.{◌≡◌, ℕ, suc, false, List, [], ◌∷◌, get_or, refl, sym, ◌∙◌, ap, subst, arith, true≢false}
use Rattle.std.specs.declared.cmp.Ordering.{Ordering}
use Rattle.std.specs.declared.cmp.Ordering.TheVariants.{Less, Equal, Greater}
use Rattle.std.specs.Ordering.{nat_cmp, is_lt, ordering_reverse}
use Rattle.std.specs.Cmp.Lexicographic.{slice_cmp}
use Rattle.std.specs.List.{All, AllPairs, Contains}
use Rattle.std.specs.List.Sorted.{IsPermutation, IsSorted, IsStrictlySortedBy}
use Rattle.std.proofs.lemmas.Cmp.{nat_list_cmp_total}
use Rattle.std.proofs.lemmas.List.{get_or_default}
use Rattle.std.proofs.lemmas.List.Elements.{All-head, All-tail, All-map, recursion_from_All}
use Rattle.std.proofs.lemmas.List.Sorted.{All-permutation, Contains-permutation, IsPermutation-sym, IsPermutation-map, ranks_by, sorted_far}
use Rattle.std.proofs.lemmas.Map.Lookups.{exact_bytes}
use Rattle.cut_definitions.proofs.Lists.{Contains-map}
use Rattle.cut_definitions.proofs.Orderings.{then_same}
use Rattle.vertex_set.specs.Side.{VertexList, members_of}
use Rattle.vertex_set.proofs.Compared.{side_cmp, side_total}
use Rattle.cut_definitions.specs.Members.{AreDifferent, IsAscending}
use Rattle.component_cuts.proofs.Different.{different_permuted}

-- over one n the members alone decide
reversed_less : (o : Ordering) → is_lt o ≡ false → (o ≡ Equal → Less ≡ Equal) → ordering_reverse o ≡ Less
reversed_less Less p q = absurd (true≢false p)
reversed_less Equal p q = sym (q refl)
reversed_less Greater p q = refl

-- of two different sides the one that is not greater is less
before : (x y : VertexList) → x.vertices ≡ y.vertices → is_lt (side_cmp y x) ≡ false → (x.members ≡ y.members → Less ≡ Equal) → slice_cmp nat_cmp x.members y.members ≡ Less
before x y e not_less differ =
    nat_list_cmp_total.antisymm x.members y.members
    ∙ reversed_less (slice_cmp nat_cmp y.members x.members)
    (ap is_lt (sym (then_same (slice_cmp nat_cmp y.members x.members) y.vertices x.vertices (sym e))) ∙ not_less)
    (λ q. differ (sym (exact_bytes y.members x.members q)))

strictly : (n : ℕ) (xs : List VertexList) → All (λ (s : VertexList). s.vertices ≡ n) xs → AllPairs (λ a b. is_lt (side_cmp b a) ≡ false) xs → AreDifferent (members_of xs) → IsAscending (members_of xs)
unfolding IsStrictlySortedBy
strictly n [] over up differ = tt
strictly n (x ∷ xs) over up differ =
    let own = All-head (λ (s : VertexList). s.vertices ≡ n) x xs over in
    let rest = All-tail (λ (s : VertexList). s.vertices ≡ n) x xs over in (
      recursion_from_All (λ m. slice_cmp nat_cmp x.members m ≡ Less) (members_of xs)
          (All-map (λ m. slice_cmp nat_cmp x.members m ≡ Less) (λ (s : VertexList). s.members) xs
          (λ k d l. before x (get_or xs k d) (own ∙ sym (rest k d l)) (up 0 (suc k) d (omega arith) (omega arith))
          (λ e. absurd (differ.0 (subst (Contains (members_of xs)) (sym e) (Contains-map (λ (s : VertexList). s.members) xs (get_or xs k d) (k, l, get_or_default xs k (get_or xs k d) d l))))))),
      strictly n xs rest (λ i j d below inside. up (suc i) (suc j) d (omega arith) (omega arith)) differ.1,
    )

pub sorted_ascends : (n : ℕ) (old sorted : List VertexList) → All (λ (s : VertexList). s.vertices ≡ n) old → AreDifferent (members_of old) → IsPermutation old sorted → IsSorted side_cmp sorted → IsAscending (members_of sorted)
sorted_ascends n old sorted over differ moved up =
    strictly n sorted (All-permutation (λ (s : VertexList). s.vertices ≡ n) old sorted moved over)
    (λ i j d below inside. sorted_far _ (ranks_by side_total (λ s. s)) sorted up i j d (omega arith) inside)
    (different_permuted (members_of old) (members_of sorted) (IsPermutation-map (λ (s : VertexList). s.members) old sorted moved) differ)

pub same_members : (old sorted : List VertexList) → IsPermutation old sorted → (s : List ℕ) → (Contains (members_of sorted) s → Contains (members_of old) s) × (Contains (members_of old) s → Contains (members_of sorted) s)
same_members old sorted moved s =
    let map_moved = IsPermutation-map (λ (s : VertexList). s.members) old sorted moved in
    (λ c. Contains-permutation (members_of sorted) (members_of old) s (IsPermutation-sym (members_of old) (members_of sorted) map_moved) c, λ c. Contains-permutation (members_of old) (members_of sorted) s map_moved c)
