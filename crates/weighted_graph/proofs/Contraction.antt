-- What contraction keeps.
use Rattle.std.proofs.Common.{◌≡◌, ℕ, zero, suc, ◌+◌, ◌-◌, ◌<◌, ◌≤◌, ◌⊎◌, inl, inr, ⊎_elim, Bool, true, false, not, eqb, ltb, max, List, [], ◌∷◌, map, length, get_or, refl, sym, ◌∙◌, subst, ap, arith}
use Rattle.std.specs.Prelude.{◌≢◌, if◌then◌else◌}
use Rattle.std.specs.List.{sum_by, All, AllPairs, Contains, filter, flat_map, fold, range_with_len}
use Rattle.std.proofs.lemmas.Bool.{cases_order, eqb-true, ltb-true}
use Rattle.std.proofs.lemmas.List.Elements.{All-nil, All-cons, All-append, All-map, All-filter, All-weaker, All-contains, filter_passes}
use Rattle.std.proofs.lemmas.List.Kept.{AllPairs-cons, AllPairs-filter}
use Rattle.cut_definitions.specs.declared.edge_list.Edge.{Edge}
use Rattle.cut_definitions.specs.Graph.{Graph, IsGraph, IsEdgeWithin, IsBefore}
use Rattle.cut_definitions.specs.Weight.{VertexSet, parts, weight, between, IsCut, IsMinimumCut}
use Rattle.cut_definitions.specs.Cuts.{has, IsAscendingWithin, IsSide, value, mincuts, side_of}
use Rattle.cut_definitions.specs.Contraction.{label, classes, IsLabels, class, pairs, relabel, lift}
use Rattle.cut_definitions.proofs.Sums.{sum_by-le_on}
use Rattle.cut_definitions.proofs.WeightLaws.{join_of, join_term}
use Rattle.cut_definitions.proofs.Bridge.{has_low, has_none, has_first_of, has-side_of, IsCut-has, IsSide-side_of, IsAscendingWithin-filter, two_vertices, value-le_cut, IsMinimumCut-from_mincuts, Contains-mincuts_side_of, same_ascending}
use Rattle.cut_definitions.proofs.Values.{value_is_weight, Contains-mincuts, IsSide-from_mincuts}
use Rattle.cut_definitions.specs.Contraction.{lifted, RespectsClasses, KeepsMinimumCuts as KeepsAsTests}
use Rattle.cut_definitions.proofs.ContractionLaws.{FitsGraph-labels, contraction, le_fold_max, vertex_of as vertex_of_class, IsCut-lifted as lifted_is_cut}
use Rattle.cut_definitions.proofs.Contracted.{FitsGraph, weight-relabel, has-lift, weight-lift, sum_by-map, sum_by-filter, sum_by-swap, sum_by-pairs_none, sum_by-pairs_one, join_nowhere, join_here, join_there}
use Rattle.cut_definitions.proofs.Bools.{parts_from_false}
use Rattle.cut_definitions.proofs.ListLaws.{AllPairs-append}
use Rattle.cut_definitions.proofs.Numbers.{not_positive}
use Rattle.weighted_graph.specs.ContractionLaws.{IsLabelled, PartsNoClass, LawOfContractedGraph, LawOfContractedWeights, LawOfLiftedSides, LawOfContractedMinimumCuts, LawOfContractedConnection}

-- ---- labels

pub fold_max-get_or : (xs : List ℕ) (a i : ℕ) → i < length xs → get_or xs i 0 ≤ fold max a xs
fold_max-get_or xs a i l = le_fold_max a xs i l

pub label_from_one : (labels : List ℕ) → IsLabels labels → (v : ℕ) → 1 ≤ v → v ≤ length labels → 1 ≤ label labels v
label_from_one labels h v l u = h.from_one (v - 1) 0 (omega arith)

pub label_to_classes : (labels : List ℕ) (v : ℕ) → 1 ≤ v → v ≤ length labels → label labels v ≤ classes labels
label_to_classes labels v l u = fold_max-get_or labels 0 (v - 1) (omega arith)

pub fits_graph : (g : Graph) (labels : List ℕ) → IsLabelled g labels → FitsGraph g labels
fits_graph g labels h = FitsGraph-labels g labels h.are_labels h.long

-- a vertex of a class
pub vertex_of : (labels : List ℕ) → IsLabels labels → (c : ℕ) → 1 ≤ c → c ≤ classes labels → (v : ℕ) × (1 ≤ v) × (v ≤ length labels) × (label labels v ≡ c)
vertex_of labels h c l u =
    let v = vertex_of_class labels h c l u in
    (v.vertex, v.from_one, v.to_n, eqb-true (label labels v.vertex) c v.is_in)

pub IsCut-lifted : (g : Graph) (labels : List ℕ) → IsLabelled g labels → (s : VertexSet) → IsCut (classes labels) s → IsCut g.vertices (lifted labels s)
IsCut-lifted g labels h s cut = lifted_is_cut g labels h.are_labels h.long s cut

pub law_of_contracted_weights : LawOfContractedWeights
law_of_contracted_weights g ok labels h s = weight-relabel g ok labels (fits_graph g labels h) s

pub law_of_contracted_connection : LawOfContractedConnection
unfolding relabel
law_of_contracted_connection g ok labels h connected = record {
  some_vertex = let long : 1 ≤ length labels = omega (arith, h.long, connected.some_vertex) in
      omega (arith, label_from_one labels h.are_labels 1 (omega arith) long, label_to_classes labels 1 (omega arith) long);
  each_cut = λ s cut. let far : 1 ≤ weight g (lifted labels s) = connected.each_cut (lifted labels s) (IsCut-lifted g labels h s cut) in
      let same : weight (relabel g labels) s ≡ weight g (lifted labels s) = law_of_contracted_weights g ok labels h s in
      rw same far;
}

-- ---- a lifted side is a side

lift_ascends : (n : ℕ) (p : VertexSet) → p 1 ≡ false → IsAscendingWithin 2 n (filter p (range_with_len 1 n))
lift_ascends zero p none = tt
lift_ascends (suc m) p none = rw none (IsAscendingWithin-filter m 2 (suc m) p (omega arith))

lift_some : (labels : List ℕ) → IsLabels labels → (c : ℕ) (side : List ℕ) → 1 ≤ c → c ≤ classes labels → has side c ≡ true → lift labels side ≡ [] → ⊥
lift_some labels h c side l u is e =
    let v = vertex_of labels h c l u in
    has_none (lift labels side) v.0 e (has-lift labels side v.0 v.1 v.2 ∙ (ap (has side) v.3 ∙ is))

-- if there is a class there is a vertex
some_vertex : (labels : List ℕ) → (c : ℕ) → 1 ≤ c → c ≤ classes labels → 1 ≤ length labels
some_vertex [] c l u = absurd (omega arith)
some_vertex (x ∷ xs) c l u = omega arith

pub law_of_lifted_sides : LawOfLiftedSides
law_of_lifted_sides labels h [] side_is = absurd (side_is.nonempty refl)
law_of_lifted_sides labels h (x ∷ xs) side_is =
    let k = classes labels in
    let low = side_is.ascending.0 in
    let high = side_is.ascending.1 in
    let first : has (x ∷ xs) 1 ≡ false = has_low 2 k 1 (x ∷ xs) side_is.ascending (omega arith) in
    let one : label labels 1 ≡ 1 = h.first (some_vertex labels x (omega arith) high) in
    record {
      nonempty = lift_some labels h x (x ∷ xs) (omega arith) high (has_first_of x xs);
      ascending = lift_ascends (length labels) (λ v. has (x ∷ xs) (label labels v)) (ap (has (x ∷ xs)) one ∙ first);
    }

-- ---- the contracted graph is a graph

abbrev Before : ℕ × ℕ → ℕ × ℕ → Type 0
Before p q = (p.0 < q.0) ⊎ ((p.0 ≡ q.0) × (p.1 < q.1))

abbrev pairs_of : ℕ → ℕ → List (ℕ × ℕ)
pairs_of n i = map (λ j. let p : ℕ × ℕ = (i, j) in p) (range_with_len (i + 1) (n - i))

All-range : (m low : ℕ) → All (λ i. (low ≤ i) × (i < low + m)) (range_with_len low m)
All-range zero low = All-nil (λ i. (low ≤ i) × (i < low + 0))
All-range (suc m) low =
    All-cons (λ i. (low ≤ i) × (i < low + suc m)) low (range_with_len (low + 1) m) (omega arith, omega arith)
    (All-weaker (λ i. (low + 1 ≤ i) × (i < (low + 1) + m)) (λ i. (low ≤ i) × (i < low + suc m)) (λ i b. (omega (arith, b.0), omega (arith, b.1))) (range_with_len (low + 1) m) (All-range m (low + 1)))

AllPairs-map : {X Y : Type 0} (R : Y → Y → Type 0) (f : X → Y) (e : X) (xs : List X) → AllPairs (λ x y. R (f x) (f y)) xs → AllPairs R (map f xs)
AllPairs-map R f e [] h = λ i j d l u. absurd (omega arith)
AllPairs-map R f e (x ∷ xs) h =
    AllPairs-cons R (f x) (map f xs)
    (All-map (R (f x)) f xs (λ k d l. h 0 (suc k) d (omega arith) (omega arith)))
    (AllPairs-map R f e xs (λ i j d l u. h (suc i) (suc j) d (omega arith) (omega arith)))

AllPairs-range : (m low : ℕ) → AllPairs (λ i j. i < j) (range_with_len low m)
AllPairs-range zero low = λ i j d l u. absurd (omega arith)
AllPairs-range (suc m) low =
    AllPairs-cons (λ i j. i < j) low (range_with_len (low + 1) m)
    (All-weaker (λ i. (low + 1 ≤ i) × (i < (low + 1) + m)) (λ i. low < i) (λ i b. omega (arith, b.0)) (range_with_len (low + 1) m) (All-range m (low + 1)))
    (AllPairs-range m (low + 1))

-- the pairs with one first number
pairs_of_within : (n i : ℕ) → All (λ p. (p.0 ≡ i) × (i < p.1) × (p.1 ≤ n)) (pairs_of n i)
pairs_of_within n i =
    All-map (λ (p : ℕ × ℕ). (p.0 ≡ i) × (i < p.1) × (p.1 ≤ n)) (λ j. let p : ℕ × ℕ = (i, j) in p) (range_with_len (i + 1) (n - i))
    (All-weaker (λ j. (i + 1 ≤ j) × (j < (i + 1) + (n - i))) (λ j. (i ≡ i) × (i < j) × (j ≤ n)) (λ j b. (refl, omega (arith, b.0), omega (arith, b.0, b.1))) (range_with_len (i + 1) (n - i)) (All-range (n - i) (i + 1)))

pairs_of_ascend : (n i : ℕ) → AllPairs Before (pairs_of n i)
pairs_of_ascend n i =
    AllPairs-map Before (λ j. let p : ℕ × ℕ = (i, j) in p) 0 (range_with_len (i + 1) (n - i))
    (λ a b d l u. inr (refl, AllPairs-range (n - i) (i + 1) a b d l u))

pairs_within_from : (n m low : ℕ) → 1 ≤ low → All (λ p. (low ≤ p.0) × (p.0 < p.1) × (p.1 ≤ n)) (flat_map (pairs_of n) (range_with_len low m))
pairs_within_from n zero low one = All-nil (λ (p : ℕ × ℕ). (low ≤ p.0) × (p.0 < p.1) × (p.1 ≤ n))
pairs_within_from n (suc m) low one =
    All-append (λ (p : ℕ × ℕ). (low ≤ p.0) × (p.0 < p.1) × (p.1 ≤ n)) (pairs_of n low) (flat_map (pairs_of n) (range_with_len (low + 1) m))
    (All-weaker (λ (p : ℕ × ℕ). (p.0 ≡ low) × (low < p.1) × (p.1 ≤ n)) (λ (p : ℕ × ℕ). (low ≤ p.0) × (p.0 < p.1) × (p.1 ≤ n))
    (λ p b. (omega (arith, b.0), omega (arith, b.0, b.1), b.2)) (pairs_of n low) (pairs_of_within n low))
    (All-weaker (λ (p : ℕ × ℕ). (low + 1 ≤ p.0) × (p.0 < p.1) × (p.1 ≤ n)) (λ (p : ℕ × ℕ). (low ≤ p.0) × (p.0 < p.1) × (p.1 ≤ n))
    (λ p b. (omega (arith, b.0), b.1, b.2)) (flat_map (pairs_of n) (range_with_len (low + 1) m)) (pairs_within_from n m (low + 1) (omega arith)))

pairs_ascend_from : (n m low : ℕ) → 1 ≤ low → AllPairs Before (flat_map (pairs_of n) (range_with_len low m))
pairs_ascend_from n zero low one = λ i j d l u. absurd (omega arith)
pairs_ascend_from n (suc m) low one =
    let rest = flat_map (pairs_of n) (range_with_len (low + 1) m) in
    AllPairs-append Before (pairs_of n low) rest (pairs_of_ascend n low) (pairs_ascend_from n m (low + 1) (omega arith))
    (All-weaker (λ (p : ℕ × ℕ). (p.0 ≡ low) × (low < p.1) × (p.1 ≤ n)) (λ p. All (Before p) rest)
    (λ p b. All-weaker (λ (q : ℕ × ℕ). (low + 1 ≤ q.0) × (q.0 < q.1) × (q.1 ≤ n)) (Before p) (λ q a. inl (omega (arith, b.0, a.0))) rest (pairs_within_from n m (low + 1) (omega arith)))
    (pairs_of n low) (pairs_of_within n low))

-- over all pairs of classes an edge adds at most its weight
join_terms-le : (n a b w : ℕ) → 1 ≤ a → a ≤ n → 1 ≤ b → b ≤ n → sum_by (λ p. join_of (eqb a p.0) (eqb b p.0) (eqb a p.1) (eqb b p.1) w) (pairs n) ≤ w
join_terms-le n a b w a1 an b1 bn =
    let f : ℕ × ℕ → ℕ = λ p. join_of (eqb a p.0) (eqb b p.0) (eqb a p.1) (eqb b p.1) w in
    ⊎_elim
    (λ (e : a ≡ b). let none : sum_by f (pairs n) ≡ 0 = sum_by-pairs_none f n (λ i j l. join_nowhere a b i j w l (λ p q. omega arith) (λ p q. omega arith)) in omega arith)
    (⊎_elim
    (λ (l : a < b).
    let one : sum_by f (pairs n) ≡ w = sum_by-pairs_one f n a b a1 l bn
    (λ i j m ne. join_nowhere a b i j w m
    (λ p q. ⊎_elim (λ (u : i ≢ a). u (sym p)) (λ (u : j ≢ b). u (sym q)) ne) (λ p q. omega arith))
    ∙ join_here a b w in omega arith)
    (λ (l : b < a).
    let one : sum_by f (pairs n) ≡ w = sum_by-pairs_one f n b a b1 l an
    (λ i j m ne. join_nowhere a b i j w m (λ p q. omega arith)
    (λ p q. ⊎_elim (λ (u : i ≢ b). u (sym q)) (λ (u : j ≢ a). u (sym p)) ne))
    ∙ join_there a b w in omega arith))
    (cases_order a b)

pub law_of_contracted_graph : LawOfContractedGraph
unfolding relabel
law_of_contracted_graph g ok labels h =
    let k = classes labels in
    let make : ℕ × ℕ → Edge = λ p. record { u = p.0; v = p.1; w = between g (class labels p.0) (class labels p.1) } in
    let keeps : Edge → Bool = λ e. ltb 0 e.w in
    let all = map make (pairs k) in
    let fits = fits_graph g labels h in
    let within = pairs_within_from k k 1 (omega arith) in
    let Ends : Edge → Type 0 = λ e. (1 ≤ e.u) × (e.u < e.v) × (e.v ≤ k) in
    let ends = All-filter keeps Ends all (All-map Ends make (pairs k) within) in
    let positive = filter_passes keeps all in
    let weight_of : Edge → ℕ = λ e. e.w in
    let term = λ (p : ℕ × ℕ) (e : Edge). join_term (class labels p.0) (class labels p.1) e in
    let kept_sum = sum_by-filter weight_of keeps (λ e q. not_positive e.w q) all in
    let mapped_sum = sum_by-map weight_of make (pairs k) in
    let swapped = sum_by-swap term (pairs k) g.edges in
    let each = sum_by-le_on (λ e. sum_by (λ p. term p e) (pairs k)) weight_of g.edges
    (All-weaker (IsEdgeWithin g.vertices) (λ e. sum_by (λ p. term p e) (pairs k) ≤ e.w)
    (λ e b.
    let u_in : e.u ≤ g.vertices = omega (arith, b.1, b.2) in
    let v_from : 1 ≤ e.v = omega (arith, b.0, b.1) in
    join_terms-le k (label labels e.u) (label labels e.v) e.w
    (fits.from_one e.u b.0 u_in) (fits.to_classes e.u b.0 u_in) (fits.from_one e.v v_from b.2) (fits.to_classes e.v v_from b.2))
    g.edges ok.in_range) in
    record {
      in_range = λ i d l. let a = ends i d l in (a.0, a.1, a.2, (let p = positive i d l in let q = ltb-true 0 (get_or (filter keeps all) i d).w p in omega arith));
      ascending = AllPairs-filter IsBefore keeps all (AllPairs-map IsBefore make (0, 0) (pairs k) (pairs_ascend_from k k 1 (omega arith)));
      total = omega (arith, kept_sum, mapped_sum, swapped, each, ok.total);
    }

-- ---- the minimum cuts

-- every cut of the contracted graph weighs at least the value of the graph
pub value-le-contracted : (g : Graph) → IsGraph g → (labels : List ℕ) → IsLabelled g labels → 2 ≤ classes labels → value g ≤ value (relabel g labels)
unfolding relabel
value-le-contracted g ok labels h two =
    let r = relabel g labels in
    let best = value_is_weight r two in
    let cut : IsCut (classes labels) (has best.0) = IsCut-has r.vertices best.0 best.1 in
    let low : value g ≤ weight g (lifted labels (has best.0)) = value-le_cut g ok (lifted labels (has best.0)) (IsCut-lifted g labels h (has best.0) cut) in
    let same : weight r (has best.0) ≡ weight g (lifted labels (has best.0)) = law_of_contracted_weights g ok labels h (has best.0) in
    let is : weight r (has best.0) ≡ value r = best.2 in
    omega arith

same_side : (o a b p q : Bool) → p ≡ (if o then not a else a) → q ≡ (if o then not b else b) → (if p then not q else q) ≡ false → a ≡ b
same_side o a b p q e f none = grind arith

-- a minimum cut that parts no two vertices of a class has all of a class or none
respects_classes : (g : Graph) → IsGraph g → (labels : List ℕ) → PartsNoClass g labels → (x : VertexSet) → IsMinimumCut g x → RespectsClasses g.vertices labels x
respects_classes g ok labels whole x best u v u1 un v1 vn same =
    let n = g.vertices in
    let side = side_of n x in
    let W : List ℕ → Type 0 = λ s. (u v : ℕ) → 1 ≤ u → u ≤ n → 1 ≤ v → v ≤ n → label labels u ≡ label labels v → parts (has s) u v ≡ false in
    let none = All-contains W (mincuts g) side whole (Contains-mincuts_side_of g ok x best) u v u1 un v1 vn same in
    same_side (x 1) (x u) (x v) (has side u) (has side v) (has-side_of n x u u1 un) (has-side_of n x v v1 vn) none

kept_tests : (g : Graph) → IsGraph g → (labels : List ℕ) → IsLabelled g labels → PartsNoClass g labels → KeepsAsTests g labels
kept_tests g ok labels h whole = contraction g labels ok h.are_labels h.long (respects_classes g ok labels whole)

lifted_cut : (g : Graph) → IsGraph g → (labels : List ℕ) → IsLabelled g labels → PartsNoClass g labels → (side : List ℕ) → Contains (mincuts g) side →
    (small : List ℕ) × Contains (mincuts (relabel g labels)) small × (lift labels small ≡ side)
unfolding relabel
lifted_cut g ok labels h whole side is =
    let r = relabel g labels in
    let n = g.vertices in
    let k = classes labels in
    let side_is = (IsSide-from_mincuts g side is).0 in
    let kept = (kept_tests g ok labels h whole).each_is_lifted (has side) (IsMinimumCut-from_mincuts g ok side is) in
    let s = kept.0 in
    let okr = law_of_contracted_graph g ok labels h in
    let two = two_vertices k s kept.1.is_cut in
    let two_n = two_vertices n (has side) (IsCut-has n side side_is) in
    let small = side_of k s in
    let small_side = IsSide-side_of k s (omega arith) kept.1.is_cut in
    let lift_side : IsSide n (lift labels small) = subst (λ (m : ℕ). IsSide m (lift labels small)) h.long (law_of_lifted_sides labels h.are_labels small small_side) in
    let one : s 1 ≡ false = ap s (sym (h.are_labels.first (omega (arith, h.long)))) ∙ (sym (kept.2 1 (omega arith) (omega arith)) ∙ has_low 2 n 1 side side_is.ascending (omega arith)) in
    let fits = fits_graph g labels h in (
      small,
      Contains-mincuts_side_of r okr s kept.1,
      same_ascending 2 n (lift labels small) side lift_side.ascending side_is.ascending
          (λ v l u.
          let from : 1 ≤ v = omega arith in
          has-lift labels small v from (omega (arith, h.long))
          ∙ (has-side_of k s (label labels v) (fits.from_one v from u) (fits.to_classes v from u)
          ∙ (parts_from_false (s 1) (s (label labels v)) one ∙ sym (kept.2 v from u)))),
    )

pub law_of_contracted_minimum_cuts : LawOfContractedMinimumCuts
unfolding relabel
law_of_contracted_minimum_cuts g ok labels h two whole =
    let r = relabel g labels in
    let same = (kept_tests g ok labels h whole).same_value two in
    let fits = fits_graph g labels h in
    record {
      same_value = same;
      each_is_lifted = lifted_cut g ok labels h whole;
      lifted = λ small is.
          let s = IsSide-from_mincuts r small is in
          let small_side : IsSide (classes labels) small = s.0 in
          let side : IsSide g.vertices (lift labels small) = rw (← h.long) (law_of_lifted_sides labels h.are_labels small small_side) in
          Contains-mincuts g (lift labels small) side (weight-lift g ok labels fits h.long small ∙ (s.1 ∙ same));
    }

-- if a minimum cut separates no class there are two classes
pub kept_classes : (g : Graph) → IsGraph g → (labels : List ℕ) → IsLabelled g labels → PartsNoClass g labels → (side : List ℕ) → Contains (mincuts g) side → 2 ≤ classes labels
unfolding relabel
kept_classes g ok labels h whole side is =
    let kept = (kept_tests g ok labels h whole).each_is_lifted (has side) (IsMinimumCut-from_mincuts g ok side is) in
    two_vertices (classes labels) kept.0 kept.1.is_cut
