-- What the row of a vertex is.
use Rattle.std.proofs.Common.{◌≡◌, ℕ, zero, suc, ◌+◌, ◌^◌, ◌<◌, ◌≤◌, ◌⊎◌, inl, inr, ⊎_elim, Bool, true, false, eqb, List, [], ◌∷◌, ◌++◌, length, get_or, refl, sym, ◌∙◌, subst, arith}
use Rattle.std.specs.Prelude.{◌≢◌, if◌then◌else◌}
use Rattle.std.specs.List.{sum_by, All, AllPairs, Contains}
use Rattle.std.proofs.lemmas.Bool.{cases_eq, eq-eqb, ne_eqb}
use Rattle.std.proofs.lemmas.Bool.Decides.{nat_tests}
use Rattle.std.proofs.lemmas.List.Sums.{sum_by-cons, sum_by-append, get_or-le-sum_by}
use Rattle.std.proofs.lemmas.List.Elements.{All-nil, All-cons, All-head, All-tail, All-append, All-weaker, Contains-append_left, Contains-append_right, All-get_or, All-same}
use Rattle.std.proofs.lemmas.List.Kept.{AllPairs-cons}
use Rattle.cut_definitions.specs.declared.edge_list.Edge.{Edge}
use Rattle.cut_definitions.specs.Graph.{Graph, IsGraph, IsEdgeWithin, IsBefore}
use Rattle.cut_definitions.specs.Weight.{VertexSet, weight}
use Rattle.cut_definitions.specs.Scan.{single, weight_to}
use Rattle.cut_definitions.proofs.WeightLaws.{cut_term, join_of, join_term}
use Rattle.cut_definitions.proofs.Sums.{sum_by-le_each}
use Rattle.cut_definitions.proofs.Running.{cut_of-le}
use Rattle.cut_definitions.proofs.Lists.{Contains-here}
use Rattle.cut_definitions.proofs.Bools.{either_le}
use Rattle.cut_definitions.proofs.ListLaws.{AllPairs-first, AllPairs-rest, sum_by-one}
use Rattle.weighted_graph.specs.declared.graph.Arc.{Arc}
use Rattle.weighted_graph.specs.Rows.{arcs_of, arcs_from, row_of, no_arc}
use Rattle.weighted_graph.specs.RowLaws.{no_edge, IsArcAt, LawOfRows, LawOfEdgesInRows}
use Rattle.weighted_graph.proofs.Rows.{cut_of-single}

-- ---- sums over a row

-- one edge's arcs
sum_by-arcs_of : (h : Arc → ℕ) (v i : ℕ) (e : Edge) →
    sum_by h (arcs_of v i e) ≡ (if eqb v e.u then h (record { to = e.v; edge = i; weight = e.w }) else (if eqb v e.v then h (record { to = e.u; edge = i; weight = e.w }) else 0))
sum_by-arcs_of h v i e =
    ⊎_elim
    (λ (p : v ≡ e.u). rw (eq-eqb v e.u p) (sum_by-one h (record { to = e.v; edge = i; weight = e.w })))
    (λ (p : v ≢ e.u). ⊎_elim
    (λ (q : v ≡ e.v). rw (ne_eqb v e.u p, eq-eqb v e.v q) (sum_by-one h (record { to = e.u; edge = i; weight = e.w })))
    (λ (q : v ≢ e.v). rw (ne_eqb v e.u p, ne_eqb v e.v q) refl)
    (cases_eq v e.v))
    (cases_eq v e.u)

sum_by-arcs_from : (h : Arc → ℕ) (t : Edge → ℕ) (v i : ℕ) (es : List Edge) → All (λ e. (j : ℕ) → sum_by h (arcs_of v j e) ≡ t e) es →
    sum_by h (arcs_from v i es) ≡ sum_by t es
sum_by-arcs_from h t v i [] all = refl
sum_by-arcs_from h t v i (e ∷ es) all =
    omega (
      arith,
      sum_by-append h (arcs_of v i e) (arcs_from v (i + 1) es),
      All-head (λ d. (j : ℕ) → sum_by h (arcs_of v j d) ≡ t d) e es all i,
      sum_by-arcs_from h t v (i + 1) es (All-tail (λ d. (j : ℕ) → sum_by h (arcs_of v j d) ≡ t d) e es all),
      sum_by-cons t e es,
    )

pub degree_is : (g : Graph) → IsGraph g → (v : ℕ) → sum_by (λ (a : Arc). a.weight) (row_of g v) ≡ weight g (single v)
unfolding row_of
degree_is g ok v =
    let h = λ (a : Arc). a.weight in
    sum_by-arcs_from h (cut_term (single v)) v 0 g.edges
    (All-weaker (IsEdgeWithin g.vertices) (λ e. (j : ℕ) → sum_by h (arcs_of v j e) ≡ cut_term (single v) e)
    (λ e k j. sum_by-arcs_of h v j e ∙ sym (cut_of-single v e.u e.v e.w (λ q. omega (arith, k.1)))) g.edges ok.in_range)

join_of-single : (v a b w : ℕ) (x y : Bool) → a ≢ b →
    (if eqb v a then (if y then w else 0) else (if eqb v b then (if x then w else 0) else 0)) ≡ join_of (eqb v a) (eqb v b) x y w
join_of-single v a b w true true ne = grind (arith, nat_tests)
join_of-single v a b w true false ne = grind (arith, nat_tests)
join_of-single v a b w false true ne = grind (arith, nat_tests)
join_of-single v a b w false false ne = grind (arith, nat_tests)

pub weight_to_is : (g : Graph) → IsGraph g → (v : ℕ) (s : VertexSet) → sum_by (λ (a : Arc). if s a.to then a.weight else 0) (row_of g v) ≡ weight_to g v s
unfolding row_of
weight_to_is g ok v s =
    let h = λ (a : Arc). if s a.to then a.weight else 0 in
    sum_by-arcs_from h (join_term (single v) s) v 0 g.edges
    (All-weaker (IsEdgeWithin g.vertices) (λ e. (j : ℕ) → sum_by h (arcs_of v j e) ≡ join_term (single v) s e)
    (λ e k j. sum_by-arcs_of h v j e ∙ join_of-single v e.u e.v e.w (s e.u) (s e.v) (λ q. omega (arith, k.1))) g.edges ok.in_range)

-- ---- the arcs of a row

-- what holds of both arcs of an edge holds of its arcs at any vertex
All-arcs_of : (P : Arc → Type 0) (v i : ℕ) (e : Edge) →
    (v ≡ e.u → P (record { to = e.v; edge = i; weight = e.w })) → (v ≡ e.v → P (record { to = e.u; edge = i; weight = e.w })) → All P (arcs_of v i e)
All-arcs_of P v i e first second =
    ⊎_elim
    (λ (p : v ≡ e.u). rw (eq-eqb v e.u p) (All-cons P (record { to = e.v; edge = i; weight = e.w }) [] (first p) (All-nil P)))
    (λ (p : v ≢ e.u). ⊎_elim
    (λ (q : v ≡ e.v). rw (ne_eqb v e.u p, eq-eqb v e.v q) (All-cons P (record { to = e.u; edge = i; weight = e.w }) [] (second q) (All-nil P)))
    (λ (q : v ≢ e.v). rw (ne_eqb v e.u p, ne_eqb v e.v q) (All-nil P))
    (cases_eq v e.v))
    (cases_eq v e.u)

-- what holds of the arcs of each edge, by its place, holds of a row
All-arcs_from : (P : Arc → Type 0) (v i : ℕ) (es : List Edge) → ((k : ℕ) → k < length es → All P (arcs_of v (i + k) (get_or es k no_edge))) → All P (arcs_from v i es)
All-arcs_from P v i [] each = All-nil P
All-arcs_from P v i (e ∷ es) each =
    All-append P (arcs_of v i e) (arcs_from v (i + 1) es)
    (let q : i + 0 ≡ i = omega arith in subst (λ (j : ℕ). All P (arcs_of v j e)) q (each 0 (omega arith)))
    (All-arcs_from P v (i + 1) es (λ k l. let q : i + suc k ≡ (i + 1) + k = omega arith in subst (λ (j : ℕ). All P (arcs_of v j (get_or es k no_edge))) q (each (suc k) (omega arith))))

pub row_arcs : (g : Graph) (v : ℕ) → All (IsArcAt g v) (row_of g v)
unfolding row_of
row_arcs g v =
    All-arcs_from (IsArcAt g v) v 0 g.edges
    (λ k l. let q : 0 + k ≡ k = omega arith in
    rw q (All-arcs_of (IsArcAt g v) v k (get_or g.edges k no_edge)
    (λ p. record { within = l; ends = inl (sym p, refl); same_weight = refl })
    (λ p. record { within = l; ends = inr (sym p, refl); same_weight = refl })))

-- ---- a row ascends

abbrev Lower : Arc → Arc → Type 0
Lower a b = a.to < b.to

-- an arc of an edge and an arc of a later edge
later_arc : (v i j n : ℕ) (e d : Edge) → IsEdgeWithin n e → IsEdgeWithin n d → IsBefore e d → All (λ a. All (Lower a) (arcs_of v j d)) (arcs_of v i e)
later_arc v i j n e d he hd before =
    let apart : (e.u < d.u) ⊎ ((e.u ≡ d.u) × (e.v < d.v)) = before in
    let e_less : e.u < e.v = he.1 in
    let d_less : d.u < d.v = hd.1 in
    All-arcs_of (λ a. All (Lower a) (arcs_of v j d)) v i e
    (λ p. All-arcs_of (Lower (record { to = e.v; edge = i; weight = e.w })) v j d (λ q. omega arith) (λ q. omega arith))
    (λ p. All-arcs_of (Lower (record { to = e.u; edge = i; weight = e.w })) v j d (λ q. omega arith) (λ q. omega arith))

All-later : (v i n j : ℕ) (e : Edge) (es : List Edge) → IsEdgeWithin n e → All (IsEdgeWithin n) es → All (IsBefore e) es →
    All (λ a. All (Lower a) (arcs_from v j es)) (arcs_of v i e)
All-later v i n j e [] he hes before k a l = All-nil (Lower (get_or (arcs_of v i e) k a))
All-later v i n j e (d ∷ es) he hes before k a l =
    All-append (Lower (get_or (arcs_of v i e) k a)) (arcs_of v j d) (arcs_from v (j + 1) es)
    (later_arc v i j n e d he (All-head (IsEdgeWithin n) d es hes) (All-head (IsBefore e) d es before) k a l)
    (All-later v i n (j + 1) e es he (All-tail (IsEdgeWithin n) d es hes) (All-tail (IsBefore e) d es before) k a l)

-- an edge has at most one arc in a row
AllPairs-arcs_of : (v i : ℕ) (e : Edge) (rest : List Arc) → All (λ a. All (Lower a) rest) (arcs_of v i e) → AllPairs Lower rest → AllPairs Lower (arcs_of v i e ++ rest)
AllPairs-arcs_of v i e rest =
    let P = λ (xs : List Arc). All (λ a. All (Lower a) rest) xs → AllPairs Lower rest → AllPairs Lower (xs ++ rest) in
    let one : (a : Arc) → P (a ∷ []) = λ a far pairs. AllPairs-cons Lower a rest (All-head (λ b. All (Lower b) rest) a [] far) pairs in
    let none : P [] = λ far pairs. pairs in
    ⊎_elim
    (λ (p : v ≡ e.u). rw (eq-eqb v e.u p) (one (record { to = e.v; edge = i; weight = e.w })))
    (λ (p : v ≢ e.u). ⊎_elim
    (λ (q : v ≡ e.v). rw (ne_eqb v e.u p, eq-eqb v e.v q) (one (record { to = e.u; edge = i; weight = e.w })))
    (λ (q : v ≢ e.v). rw (ne_eqb v e.u p, ne_eqb v e.v q) none)
    (cases_eq v e.v))
    (cases_eq v e.u)

arcs_ascend : (v n i : ℕ) (es : List Edge) → All (IsEdgeWithin n) es → AllPairs IsBefore es → AllPairs Lower (arcs_from v i es)
arcs_ascend v n i [] hes before = λ j k d l u. absurd (omega arith)
arcs_ascend v n i (e ∷ es) hes before =
    AllPairs-arcs_of v i e (arcs_from v (i + 1) es)
    (All-later v i n (i + 1) e es (All-head (IsEdgeWithin n) e es hes) (All-tail (IsEdgeWithin n) e es hes) (AllPairs-first IsBefore e es before))
    (arcs_ascend v n (i + 1) es (All-tail (IsEdgeWithin n) e es hes) (AllPairs-rest IsBefore e es before))

pub row_ascends : (g : Graph) → IsGraph g → (v : ℕ) → AllPairs (λ (a b : Arc). a.to < b.to) (row_of g v)
unfolding row_of
row_ascends g ok v = arcs_ascend v g.vertices 0 g.edges ok.in_range ok.ascending

pub law_of_rows : LawOfRows
law_of_rows g ok v = record { arcs = row_arcs g v; ascending = row_ascends g ok v; degree = degree_is g ok v; weight_to = weight_to_is g ok v }

-- ---- each edge in both rows

Contains-arcs_from : (v i k : ℕ) (es : List Edge) (a : Arc) → k < length es → Contains (arcs_of v (i + k) (get_or es k no_edge)) a → Contains (arcs_from v i es) a
Contains-arcs_from v i k [] a l h = absurd (omega arith)
Contains-arcs_from v i zero (e ∷ es) a l h =
    let q : i + 0 ≡ i = omega arith in
    Contains-append_left (arcs_of v i e) (arcs_from v (i + 1) es) a (subst (λ (j : ℕ). Contains (arcs_of v j e) a) q h)
Contains-arcs_from v i (suc k) (e ∷ es) a l h =
    let q : i + suc k ≡ (i + 1) + k = omega arith in
    Contains-append_right (arcs_of v i e) (arcs_from v (i + 1) es) a
    (Contains-arcs_from v (i + 1) k es a (omega arith) (subst (λ (j : ℕ). Contains (arcs_of v j (get_or es k no_edge)) a) q h))

arcs_of-lesser : (i : ℕ) (e : Edge) → arcs_of e.u i e ≡ record { to = e.v; edge = i; weight = e.w } ∷ []
arcs_of-lesser i e = rw (eq-eqb e.u e.u refl) refl

arcs_of-greater : (i : ℕ) (e : Edge) → e.u < e.v → arcs_of e.v i e ≡ record { to = e.u; edge = i; weight = e.w } ∷ []
arcs_of-greater i e l = rw (ne_eqb e.v e.u (λ q. omega arith), eq-eqb e.v e.v refl) refl

pub law_of_edges_in_rows : LawOfEdgesInRows
unfolding row_of
law_of_edges_in_rows g ok i l =
    let e = get_or g.edges i no_edge in
    let q : 0 + i ≡ i = omega arith in
    let within = ok.in_range i no_edge l in
    record {
      of_lesser = Contains-arcs_from e.u 0 i g.edges (record { to = e.v; edge = i; weight = e.w }) l
          (rw (q, arcs_of-lesser i e) (Contains-here (let a : Arc = record { to = e.v; edge = i; weight = e.w } in a) []));
      of_greater = Contains-arcs_from e.v 0 i g.edges (record { to = e.u; edge = i; weight = e.w }) l
          (rw (q, arcs_of-greater i e within.1) (Contains-here (let a : Arc = record { to = e.u; edge = i; weight = e.w } in a) []));
    }

-- ---- the weight to one vertex

abbrev pub to_term : ℕ → Arc → ℕ
to_term v a = if single v a.to then a.weight else 0

pub to_term-le : (v : ℕ) (a : Arc) → to_term v a ≤ a.weight
to_term-le v a = either_le (single v a.to) a.weight

pub degree-le : (g : Graph) → IsGraph g → (v : ℕ) → weight g (single v) ≤ 2 ^ 61
degree-le g ok v = omega (arith, sum_by-le_each (cut_term (single v)) (λ (e : Edge). e.w) (λ e. cut_of-le (single v e.u) (single v e.v) e.w) g.edges, ok.total)

-- an arc of a row, read by its place
pub row_arc : (g : Graph) (row : List Arc) (v k : ℕ) → row ≡ row_of g v → k < length row → IsArcAt g v (get_or row k no_arc)
row_arc g row v k is l = All-get_or (IsArcAt g v) row k no_arc l (All-same (IsArcAt g v) row (row_of g v) is (row_arcs g v))

-- an arc weighs at most what all edges do
pub arc_light : (g : Graph) → IsGraph g → (v : ℕ) (a : Arc) → IsArcAt g v a → a.weight ≤ 2 ^ 61
arc_light g ok v a at =
    let d : Edge = record { u = 0; v = 0; w = 0 } in
    omega (arith, at.same_weight, get_or-le-sum_by (λ (e : Edge). e.w) g.edges a.edge d at.within, ok.total)
