-- Where the degrees are high and the edges light, no cut weighs less than a vertex alone.
use Rattle.std.proofs.Common.{◌≡◌, ℕ, zero, suc, ◌+◌, ◌*◌, ◌<◌, ◌≤◌, ⊎_elim, Bool, true, false, ◌||◌, eqb, List, [], ◌∷◌, length, refl, sym, ◌∙◌, ap, arith}
use Rattle.std.specs.Prelude.{◌≢◌, if◌then◌else◌}
use Rattle.std.specs.List.{All, AllPairs, filter, range_with_len, sum_by}
use Rattle.std.proofs.Math.Nat.{mul_assoc, mul_comm, mul-suc, suc-mul, mul-le-mul_left}
use Rattle.std.proofs.lemmas.Bool.{cases_eq, cases_lt}
use Rattle.std.proofs.lemmas.List.Elements.{All-head, All-tail, All-weaker}
use Rattle.std.proofs.lemmas.List.Filters.{length-filter_both}
use Rattle.std.proofs.lemmas.List.FromFn.{length-range_with_len}
use Rattle.std.proofs.lemmas.List.Sums.{sum_by-cons}
use Rattle.cut_definitions.specs.Cuts.{has, value, IsAscendingWithin}
use Rattle.cut_definitions.specs.Graph.{Graph, IsGraph}
use Rattle.cut_definitions.specs.Scan.{single}
use Rattle.cut_definitions.specs.Weight.{VertexSet, HasVertex, between, complement, weight}
use Rattle.cut_definitions.proofs.Bridge.{has_within, IsAscendingWithin-filter, IsCut-has, weight-agree}
use Rattle.cut_definitions.proofs.ListLaws.{AllPairs-first, AllPairs-rest}
use Rattle.cut_definitions.proofs.Sums.{sum_by-le_each, sum_by-none, sum_by-plus}
use Rattle.cut_definitions.proofs.Values.{value_is_weight}
use Rattle.cut_definitions.proofs.WeightLaws.{weight-apart, weight-complement}
use Rattle.weighted_graph.specs.declared.graph.Arc.{Arc}
use Rattle.weighted_graph.specs.RowLaws.{no_edge, IsArcAt}
use Rattle.weighted_graph.specs.Rows.{row_of, weight_in}
use Rattle.weighted_graph.proofs.RowLaws.{row_arcs, row_ascends, to_term, to_term-le, weight_to_is}
use Rattle.weighted_graph.proofs.RowSearch.{term_elsewhere}
use Rattle.cut_definitions.specs.Degrees.{HasDegrees}
use Rattle.least_cut.specs.Sweep.{AreLight}
use Rattle.least_cut.proofs.Even.{alone}

-- ---- the weight from a vertex to a list of vertices: at most the heaviest edge for each of these

-- arcs that all lead to greater vertices
later_none : (u : ℕ) (row : List Arc) → All (λ (a : Arc). u < a.to) row → weight_in row u ≡ 0
later_none u [] after = refl
later_none u (a ∷ row) after =
    let l : u < a.to = All-head (λ (b : Arc). u < b.to) a row after in
    omega (arith, sum_by-cons (to_term u) a row, term_elsewhere u a (λ e. omega (arith, e, l)), later_none u row (All-tail (λ (b : Arc). u < b.to) a row after))

weight_in-le : (heavy u : ℕ) (row : List Arc) → AllPairs (λ (a b : Arc). a.to < b.to) row → All (λ (a : Arc). a.weight ≤ heavy) row → weight_in row u ≤ heavy
weight_in-le heavy u [] pairs light = omega arith
weight_in-le heavy u (a ∷ row) pairs light =
    let here : a.weight ≤ heavy = All-head (λ (b : Arc). b.weight ≤ heavy) a row light in
    let after = AllPairs-first (λ (b c : Arc). b.to < c.to) a row pairs in
    ⊎_elim
    (λ (e : u ≡ a.to). omega (arith, here, sum_by-cons (to_term u) a row, to_term-le u a, later_none u row (rw e after)))
    (λ (ne : u ≢ a.to). omega (
      arith,
      sum_by-cons (to_term u) a row,
      term_elsewhere u a ne,
      weight_in-le heavy u row (AllPairs-rest (λ (b c : Arc). b.to < c.to) a row pairs) (All-tail (λ (b : Arc). b.weight ≤ heavy) a row light),
    ))
    (cases_eq u a.to)

or_term : (b c : Bool) (w : ℕ) → (if b || c then w else 0) ≤ (if b then w else 0) + (if c then w else 0)
or_term true c w = omega arith
or_term false c w = omega arith

abbrev list_term : List ℕ → Arc → ℕ
list_term vs a = if has vs a.to then a.weight else 0

row_to_list : (heavy : ℕ) (row : List Arc) → AllPairs (λ (a b : Arc). a.to < b.to) row → All (λ (a : Arc). a.weight ≤ heavy) row → (vs : List ℕ) →
    sum_by (list_term vs) row ≤ heavy * length vs
row_to_list heavy row pairs light [] = omega (arith, sum_by-none (list_term []) (λ a. refl) row)
row_to_list heavy row pairs light (v ∷ vs) =
    omega (
      arith,
      mul-suc heavy (length vs),
      weight_in-le heavy v row pairs light,
      row_to_list heavy row pairs light vs,
      sum_by-plus (to_term v) (list_term vs) row,
      sum_by-le_each (list_term (v ∷ vs)) (λ a. to_term v a + list_term vs a) (λ a. or_term (eqb v a.to) (has vs a.to) a.weight) row,
    )

row_light : (g : Graph) (heavy v : ℕ) → AreLight heavy g.edges → All (λ (a : Arc). a.weight ≤ heavy) (row_of g v)
row_light g heavy v light =
    All-weaker (IsArcAt g v) (λ (a : Arc). a.weight ≤ heavy) (λ a at. omega (arith, at.same_weight, light a.edge no_edge at.within)) (row_of g v) (row_arcs g v)

between-le : (g : Graph) → IsGraph g → (heavy v : ℕ) → AreLight heavy g.edges → (vs : List ℕ) → between g (single v) (has vs) ≤ heavy * length vs
between-le g ok heavy v light vs = omega (arith, weight_to_is g ok v (has vs), row_to_list heavy (row_of g v) (row_ascends g ok v) (row_light g heavy v light) vs)

-- ---- what the vertices of a list weigh alone, against what they weigh together

-- twice the most that so many vertices have between them
inner : ℕ → ℕ → ℕ
inner heavy zero = 0
inner heavy (suc k) = inner heavy k + 2 * (heavy * k)

inner-suc : (heavy k : ℕ) → inner heavy (suc k) ≡ inner heavy k + 2 * (heavy * k)
unfolding inner
inner-suc heavy k = refl

inner_is : (heavy k : ℕ) → inner heavy (suc k) ≡ k * (heavy * suc k)
unfolding inner
inner_is heavy zero = omega arith
inner_is heavy (suc k) =
    let before = inner_is heavy k in
    let all = heavy * suc k in
    let a : suc k * (heavy * suc (suc k)) ≡ suc k * heavy * suc (suc k) = sym (mul_assoc (suc k) heavy (suc (suc k))) in
    let b : suc k * heavy ≡ heavy * suc k = mul_comm (suc k) heavy in
    let c : suc k * heavy * suc (suc k) ≡ heavy * suc k * suc (suc k) = ap (λ x. x * suc (suc k)) b in
    let d : heavy * suc k * suc (suc k) ≡ suc (suc k) * (heavy * suc k) = mul_comm (heavy * suc k) (suc (suc k)) in
    let e : suc (suc k) * (heavy * suc k) ≡ suc k * (heavy * suc k) + heavy * suc k = suc-mul (suc k) (heavy * suc k) in
    let f : suc k * (heavy * suc k) ≡ k * (heavy * suc k) + heavy * suc k = suc-mul k (heavy * suc k) in
    omega (arith, before, a, c, d, e, f)

list_weight : (g : Graph) → IsGraph g → (low heavy : ℕ) → HasDegrees g low → AreLight heavy g.edges → (from : ℕ) (vs : List ℕ) → 1 ≤ from → IsAscendingWithin from g.vertices vs →
    low * length vs ≤ weight g (has vs) + inner heavy (length vs)
list_weight g ok low heavy degrees light from [] one ascending = omega arith
list_weight g ok low heavy degrees light from (v ∷ vs) one ascending =
    omega (
      arith,
      weight-apart g (single v) (has vs) (alone v g.vertices vs ascending.2),
      between-le g ok heavy v light vs,
      degrees v (omega (arith, ascending.0)) ascending.1,
      list_weight g ok low heavy degrees light (v + 1) vs (omega arith) ascending.2,
      mul-suc low (length vs),
      inner-suc heavy (length vs),
    )

-- a list of at most half of all vertices
small_list : (g : Graph) → IsGraph g → (low heavy : ℕ) → HasDegrees g low → AreLight heavy g.edges → g.vertices * heavy ≤ 2 * low →
    (vs : List ℕ) → IsAscendingWithin 1 g.vertices vs → 1 ≤ length vs → 2 * length vs ≤ g.vertices → low ≤ weight g (has vs)
small_list g ok low heavy degrees light dense [] ascending some few = absurd (omega (arith, some))
small_list g ok low heavy degrees light dense (v ∷ vs) ascending some few =
    let k = length vs in
    let all = list_weight g ok low heavy degrees light 1 (v ∷ vs) (omega arith) ascending in
    let half : heavy * (2 * suc k) ≤ heavy * g.vertices = mul-le-mul_left heavy few in
    let twice : heavy * (2 * suc k) ≡ 2 * (heavy * suc k) = sym (mul_assoc heavy 2 (suc k)) ∙ (ap (λ x. x * suc k) (mul_comm heavy 2) ∙ mul_assoc 2 heavy (suc k)) in
    let one : heavy * suc k ≤ low = omega (arith, half, twice, mul_comm heavy g.vertices, dense) in
    let inside : k * (heavy * suc k) ≤ k * low = mul-le-mul_left k one in
    omega (arith, all, inner_is heavy k, inside, mul-suc low k, mul_comm low k)

-- ---- one side of a cut has at most half of all vertices

filter_some : (n : ℕ) (s : VertexSet) → HasVertex n s → 1 ≤ length (filter s (range_with_len 1 n))
filter_some n s some = from (filter s (range_with_len 1 n)) refl
  where
    from : (l : List ℕ) → filter s (range_with_len 1 n) ≡ l → 1 ≤ length l
    from [] none =
        let out : has (filter s (range_with_len 1 n)) some.vertex ≡ s some.vertex = has_within n 1 some.vertex s some.from_one (omega (arith, some.to_n)) in
        absurd (grind (arith, out, ap (λ l. has l some.vertex) none, some.is_in))
    from (v ∷ vs) is = omega arith

side_weight : (g : Graph) → IsGraph g → (low heavy : ℕ) → HasDegrees g low → AreLight heavy g.edges → g.vertices * heavy ≤ 2 * low →
    (s : VertexSet) → HasVertex g.vertices s → 2 * length (filter s (range_with_len 1 g.vertices)) ≤ g.vertices → low ≤ weight g s
side_weight g ok low heavy degrees light dense s some few =
    let vs = filter s (range_with_len 1 g.vertices) in
    let same = weight-agree g ok (has vs) s (λ v one to_n. has_within g.vertices 1 v s one (omega (arith, to_n))) in
    omega (arith, same, small_list g ok low heavy degrees light dense vs (IsAscendingWithin-filter g.vertices 1 g.vertices s (omega arith)) (filter_some g.vertices s some) few)

pub value_of_dense : (g : Graph) → IsGraph g → 2 ≤ g.vertices → (low heavy : ℕ) → HasDegrees g low → AreLight heavy g.edges → g.vertices * heavy ≤ 2 * low → low ≤ value g
value_of_dense g ok two low heavy degrees light dense =
    let v = value_is_weight g two in
    let s = has v.0 in
    let cut = IsCut-has g.vertices v.0 v.1 in
    let all = range_with_len 1 g.vertices in
    let both = length-filter_both s (complement s) (λ x. refl) all in
    ⊎_elim
    (λ (more : g.vertices < 2 * length (filter s all)).
    omega (arith, v.2, weight-complement g s, side_weight g ok low heavy degrees light dense (complement s) cut.some_out (omega (arith, both, length-range_with_len 1 g.vertices, more))))
    (λ (few : 2 * length (filter s all) ≤ g.vertices). omega (arith, v.2, side_weight g ok low heavy degrees light dense s cut.some_in few))
    (cases_lt g.vertices (2 * length (filter s all)))
