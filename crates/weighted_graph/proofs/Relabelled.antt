-- The merged edges between the classes are those of the contracted graph.
use Rattle.std.proofs.Common.{◌≡◌, ℕ, ◌+◌, ◌<◌, ◌≤◌, ⊎_elim, ◌&&◌, eqb, ltb, min, max, List, [], ◌∷◌, map, length, sym, ◌∙◌, ap, arith, length-append}
use Rattle.std.specs.Prelude.{Bool, ◌≢◌, if◌then◌else◌}
use Rattle.std.specs.List.{sum_by, All, flat_map}
use Rattle.std.specs.List.Sorted.{IsPermutation}
use Rattle.std.proofs.lemmas.Bool.{cases_eq, cases_lt, eq-eqb, ne_eqb}
use Rattle.std.proofs.lemmas.Bool.Decides.{nat_tests}
use Rattle.std.proofs.lemmas.List.Sums.{sum_by-cons}
use Rattle.std.proofs.lemmas.List.Sorted.{sum_by-IsPermutation}
use Rattle.std.proofs.lemmas.List.Elements.{All-nil, All-cons, All-append, All-head, All-tail}
use Rattle.cut_definitions.specs.declared.edge_list.Edge.{Edge}
use Rattle.cut_definitions.specs.Graph.{Graph, IsGraph, IsEdgeWithin, IsEdgeList}
use Rattle.cut_definitions.specs.Weight.{between}
use Rattle.cut_definitions.specs.Contraction.{label, classes, class, pairs, relabel}
use Rattle.cut_definitions.proofs.Sums.{sum_by-same, sum_by-le_each}
use Rattle.cut_definitions.proofs.WeightLaws.{join_of, join_term}
use Rattle.cut_definitions.proofs.Contracted.{sum_by-map, sum_by-filter, sum_by-flat_map, sum_by-pairs_one}
use Rattle.cut_definitions.proofs.Numbers.{not_positive}
use Rattle.cut_definitions.proofs.Bools.{counted_none}
use Rattle.weighted_graph.specs.ContractionLaws.{IsLabelled}
use Rattle.weighted_graph.specs.Merging.{term, pair_term, pair_weight, between_classes}
use Rattle.weighted_graph.proofs.Contraction.{law_of_contracted_graph}
use Rattle.weighted_graph.proofs.Unique.{same_edges, pair_term-same, pair_term-other}

-- ---- one edge between its classes

abbrev class_edge : ℕ → ℕ → ℕ → List Edge
class_edge x y w = if eqb x y then [] else record { u = min x y; v = max x y; w = w } ∷ []

one_term : (a b x y w : ℕ) → a < b → x ≢ y → (if eqb (min x y) a && eqb (max x y) b then w else 0) ≡ join_of (eqb x a) (eqb y a) (eqb x b) (eqb y b) w
one_term a b x y w ab ne =
    ⊎_elim
    (λ (l : x < y). let p : min x y ≡ x = omega arith in let q : max x y ≡ y = omega arith in rw (p, q) (lesser a b x y w ab l))
    (λ (g : y ≤ x). let p : min x y ≡ y = omega arith in let q : max x y ≡ x = omega arith in let l : y < x = omega arith in rw (p, q) (greater a b x y w ab l))
    (cases_lt x y)
  where
    lesser : (a b x y w : ℕ) → a < b → x < y → (if eqb x a && eqb y b then w else 0) ≡ join_of (eqb x a) (eqb y a) (eqb x b) (eqb y b) w
    lesser a b x y w ab l = grind (arith, nat_tests)

    greater : (a b x y w : ℕ) → a < b → y < x → (if eqb y a && eqb x b then w else 0) ≡ join_of (eqb x a) (eqb y a) (eqb x b) (eqb y b) w
    greater a b x y w ab l = grind (arith, nat_tests)

no_term : (a b x w : ℕ) → a < b → 0 ≡ join_of (eqb x a) (eqb x a) (eqb x b) (eqb x b) w
no_term a b x w ab = grind (arith, nat_tests)

class_edge-pair : (a b x y w : ℕ) → a < b → pair_weight (class_edge x y w) a b ≡ join_of (eqb x a) (eqb y a) (eqb x b) (eqb y b) w
class_edge-pair a b x y w ab =
    ⊎_elim
    (λ (e : x ≡ y). rw (eq-eqb x y e, ← e) (no_term a b x w ab))
    (λ (ne : x ≢ y). rw (ne_eqb x y ne) (sum_by-cons (pair_term a b) (record { u = min x y; v = max x y; w = w }) [] ∙ ((let z : (if eqb (min x y) a && eqb (max x y) b then w else 0) + 0 ≡ (if eqb (min x y) a && eqb (max x y) b then w else 0) = omega arith in z) ∙ one_term a b x y w ab ne)))
    (cases_eq x y)

-- ---- all edges between their classes

pub mapped_pair : (g : Graph) (labels : List ℕ) (a b : ℕ) → a < b → pair_weight (flat_map (between_classes labels) g.edges) a b ≡ between g (class labels a) (class labels b)
mapped_pair g labels a b ab =
    sum_by-flat_map (pair_term a b) (between_classes labels) g.edges
    ∙ sum_by-same (λ e. pair_weight (between_classes labels e) a b) (join_term (class labels a) (class labels b)) (λ e. class_edge-pair a b (label labels e.u) (label labels e.v) e.w ab) g.edges

pub mapped_within : (k : ℕ) (labels : List ℕ) (es : List Edge) → All (λ e. (1 ≤ label labels e.u) × (label labels e.u ≤ k) × (1 ≤ label labels e.v) × (label labels e.v ≤ k) × (1 ≤ e.w)) es →
    All (IsEdgeWithin k) (flat_map (between_classes labels) es)
mapped_within k labels [] all = All-nil (IsEdgeWithin k)
mapped_within k labels (e ∷ es) all =
    let h = All-head (λ d. (1 ≤ label labels d.u) × (label labels d.u ≤ k) × (1 ≤ label labels d.v) × (label labels d.v ≤ k) × (1 ≤ d.w)) e es all in
    All-append (IsEdgeWithin k) (between_classes labels e) (flat_map (between_classes labels) es)
    (one k (label labels e.u) (label labels e.v) e.w h.0 h.1 h.2 h.3 h.4)
    (mapped_within k labels es (All-tail (λ d. (1 ≤ label labels d.u) × (label labels d.u ≤ k) × (1 ≤ label labels d.v) × (label labels d.v ≤ k) × (1 ≤ d.w)) e es all))
  where
    one : (k x y w : ℕ) → 1 ≤ x → x ≤ k → 1 ≤ y → y ≤ k → 1 ≤ w → All (IsEdgeWithin k) (class_edge x y w)
    one k x y w x1 xk y1 yk w1 =
        ⊎_elim
        (λ (e : x ≡ y). rw (eq-eqb x y e) (All-nil (IsEdgeWithin k)))
        (λ (ne : x ≢ y). rw (ne_eqb x y ne) (All-cons (IsEdgeWithin k) (record { u = min x y; v = max x y; w = w }) [] (omega arith, omega arith, omega arith, w1) (All-nil (IsEdgeWithin k))))
        (cases_eq x y)

pub mapped_total : (labels : List ℕ) (es : List Edge) → sum_by (λ (e : Edge). e.w) (flat_map (between_classes labels) es) ≤ sum_by (λ (e : Edge). e.w) es
mapped_total labels es =
    omega (
      arith,
      sum_by-flat_map (λ (e : Edge). e.w) (between_classes labels) es,
      sum_by-le_each (λ e. sum_by (λ (d : Edge). d.w) (between_classes labels e)) (λ (e : Edge). e.w) (λ e. one (label labels e.u) (label labels e.v) e.w) es,
    )
  where
    one : (x y w : ℕ) → sum_by (λ (d : Edge). d.w) (class_edge x y w) ≤ w
    one x y w =
        ⊎_elim
        (λ (e : x ≡ y). rw (eq-eqb x y e) (let z : 0 ≤ w = omega arith in z))
        (λ (ne : x ≢ y). rw (ne_eqb x y ne) (omega (arith, sum_by-cons (λ (d : Edge). d.w) (record { u = min x y; v = max x y; w = w }) [])))
        (cases_eq x y)

pub mapped_few : (labels : List ℕ) (es : List Edge) → length (flat_map (between_classes labels) es) ≤ length es
mapped_few labels [] = omega arith
mapped_few labels (e ∷ es) =
    omega (arith, length-append (between_classes labels e) (flat_map (between_classes labels) es), mapped_few labels es, one (label labels e.u) (label labels e.v) e.w)
  where
    one : (x y w : ℕ) → length (class_edge x y w) ≤ 1
    one x y w =
        ⊎_elim
        (λ (e : x ≡ y). rw (eq-eqb x y e) (let z : 0 ≤ 1 = omega arith in z))
        (λ (ne : x ≢ y). rw (ne_eqb x y ne) (let z : 1 ≤ 1 = omega arith in z))
        (cases_eq x y)

-- ---- the contracted graph

pub relabel_pair : (g : Graph) (labels : List ℕ) (a b : ℕ) → 1 ≤ a → a < b → b ≤ classes labels → pair_weight (relabel g labels).edges a b ≡ between g (class labels a) (class labels b)
unfolding relabel
relabel_pair g labels a b one ab bk =
    let k = classes labels in
    let make : ℕ × ℕ → Edge = λ p. record { u = p.0; v = p.1; w = between g (class labels p.0) (class labels p.1) } in
    sum_by-filter (pair_term a b) (λ e. ltb 0 e.w) (λ e h. counted_none (eqb e.u a && eqb e.v b) e.w (not_positive e.w h)) (map make (pairs k))
    ∙ (sum_by-map (pair_term a b) make (pairs k)
    ∙ (sum_by-pairs_one (λ p. pair_term a b (make p)) k a b one ab bk
    (λ i j l ne. pair_term-other i j a b (between g (class labels i) (class labels j)) (λ p q. ⊎_elim (λ (u : i ≢ a). u p) (λ (u : j ≢ b). u q) ne))
    ∙ pair_term-same a b (between g (class labels a) (class labels b))))

pub merged_is_relabel : (g : Graph) → IsGraph g → (labels : List ℕ) → IsLabelled g labels → (sorted : List Edge) (merged : Graph) →
    IsPermutation (flat_map (between_classes labels) g.edges) sorted → merged.vertices ≡ classes labels → IsEdgeList merged →
    ((f : ℕ → ℕ → Bool) → sum_by (term f) merged.edges ≡ sum_by (term f) sorted) → merged ≡ relabel g labels
unfolding relabel
merged_is_relabel g ok labels h sorted merged perm same_n is weights =
    let k = classes labels in
    let okr = law_of_contracted_graph g ok labels h in
    let within : All (IsEdgeWithin k) merged.edges = rw (← same_n) is.is_graph.in_range in
    let edges : merged.edges ≡ (relabel g labels).edges =
    same_edges k merged.edges (relabel g labels).edges within okr.in_range is.is_graph.ascending okr.ascending
    (λ a b one ab bk. weights (λ u v. eqb u a && eqb v b) ∙ (sum_by-IsPermutation (pair_term a b) (flat_map (between_classes labels) g.edges) sorted perm ∙ (mapped_pair g labels a b ab ∙ sym (relabel_pair g labels a b one ab bk)))) in
    ap (λ (x : ℕ). let r : Graph = record { vertices = x; edges = merged.edges } in r) same_n
    ∙ ap (λ (xs : List Edge). let r : Graph = record { vertices = k; edges = xs } in r) edges
