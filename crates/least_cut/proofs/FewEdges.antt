-- A graph with few edges is not dense: its degrees add up to no more than twice the weight of all edges.
use Rattle.std.proofs.Common.{◌≡◌, ℕ, zero, suc, ◌+◌, ◌*◌, ◌<◌, ◌≤◌, ⊎_elim, Bool, eqb, List, [], ◌∷◌, length, get_or, refl, ◌∙◌, ap, arith}
use Rattle.std.specs.Prelude.{◌≢◌, if◌then◌else◌}
use Rattle.std.specs.List.{All, range_with_len, sum_by}
use Rattle.std.proofs.Math.Nat.{mul_assoc, mul_left_comm, mul-add, suc-mul, mul-lt-mul_of_pos_right}
use Rattle.std.proofs.lemmas.Bool.{cases_eq, eq-eqb, ne_eqb}
use Rattle.std.proofs.lemmas.List.Elements.{All-head, All-tail}
use Rattle.std.proofs.lemmas.List.Sums.{sum_by-cons}
use Rattle.cut_definitions.specs.declared.edge_list.Edge.{Edge}
use Rattle.cut_definitions.specs.Graph.{Graph, IsEdgeWithin, IsGraph}
use Rattle.cut_definitions.specs.Scan.{single}
use Rattle.cut_definitions.specs.Weight.{weight}
use Rattle.cut_definitions.proofs.Sums.{sum_by-le_each, sum_by-none, sum_by-plus, sum_by-same, sum_by-twice}
use Rattle.cut_definitions.proofs.WeightLaws.{cut_of, cut_term}
use Rattle.least_cut.specs.Dense.{IsDense}

-- numbers that one does not exceed add up to at least as often that
at_least_each : (f : ℕ → ℕ) (low k start : ℕ) → ((v : ℕ) → start ≤ v → v < start + k → low ≤ f v) → k * low ≤ sum_by f (range_with_len start k)
at_least_each f low zero start h = omega arith
at_least_each f low (suc k) start h =
    omega (
      arith,
      suc-mul k low,
      sum_by-cons f start (range_with_len (start + 1) k),
      h start (omega arith) (omega arith),
      at_least_each f low k (start + 1) (λ v from to. h v (omega (arith, from)) (omega (arith, to))),
    )

-- ---- the degrees add up to at most twice the weight of all edges

-- what an edge weighs at one of its ends
abbrev end_term : ℕ → ℕ → ℕ → ℕ
end_term x w v = if eqb v x then w else 0

end_here : (x w v : ℕ) → v ≡ x → end_term x w v ≡ w
end_here x w v e = rw (eq-eqb v x e) refl

end_elsewhere : (x w v : ℕ) → v ≢ x → end_term x w v ≡ 0
end_elsewhere x w v ne = rw (ne_eqb v x ne) refl

end_passed : (x w k start : ℕ) → x < start → sum_by (end_term x w) (range_with_len start k) ≡ 0
end_passed x w zero start l = refl
end_passed x w (suc k) start l =
    omega (
      arith,
      sum_by-cons (end_term x w) start (range_with_len (start + 1) k),
      end_elsewhere x w start (λ e. omega (arith, e, l)),
      end_passed x w k (start + 1) (omega arith),
    )

-- of the vertices of a range at most one is that end
end_once : (x w k start : ℕ) → sum_by (end_term x w) (range_with_len start k) ≤ w
end_once x w zero start = omega arith
end_once x w (suc k) start =
    let more = sum_by-cons (end_term x w) start (range_with_len (start + 1) k) in
    ⊎_elim
    (λ (e : start ≡ x). omega (arith, more, end_here x w start e, end_passed x w k (start + 1) (omega (arith, e))))
    (λ (ne : start ≢ x). omega (arith, more, end_elsewhere x w start ne, end_once x w k (start + 1)))
    (cases_eq start x)

at_ends : (a b : Bool) (w : ℕ) → cut_of a b w ≤ (if a then w else 0) + (if b then w else 0)
at_ends a b w = grind arith

one_edge : (e : Edge) (k start : ℕ) → sum_by (λ (v : ℕ). cut_term (single v) e) (range_with_len start k) ≤ 2 * e.w
one_edge e k start =
    let vs = range_with_len start k in
    omega (
      arith,
      sum_by-le_each (λ (v : ℕ). cut_term (single v) e) (λ v. end_term e.u e.w v + end_term e.v e.w v) (λ v. at_ends (eqb v e.u) (eqb v e.v) e.w) vs,
      sum_by-plus (end_term e.u e.w) (end_term e.v e.w) vs,
      end_once e.u e.w k start,
      end_once e.v e.w k start,
    )

all_edges : (es : List Edge) (k start : ℕ) → sum_by (λ (v : ℕ). sum_by (cut_term (single v)) es) (range_with_len start k) ≤ 2 * sum_by (λ (e : Edge). e.w) es
all_edges [] k start = omega (arith, sum_by-none (λ (v : ℕ). sum_by (cut_term (single v)) []) (λ v. refl) (range_with_len start k))
all_edges (e ∷ es) k start =
    let here = λ (v : ℕ). cut_term (single v) e in
    let rest = λ (v : ℕ). sum_by (cut_term (single v)) es in
    let vs = range_with_len start k in
    omega (
      arith,
      sum_by-same (λ (v : ℕ). sum_by (cut_term (single v)) (e ∷ es)) (λ v. here v + rest v) (λ v. sum_by-cons (cut_term (single v)) e es) vs,
      sum_by-plus here rest vs,
      one_edge e k start,
      all_edges es k start,
      sum_by-cons (λ (d : Edge). d.w) e es,
    )

-- ---- a dense graph has many edges

abbrev total : List Edge → ℕ
total es = sum_by (λ (e : Edge). e.w) es

-- in a dense graph the square of the number of vertices times each edge is at most four times the weight of all edges
square_times_edge : (g : Graph) → IsDense g → All (λ (e : Edge). g.vertices * g.vertices * e.w ≤ 4 * total g.edges) g.edges
square_times_edge g dense i d l =
    let n = g.vertices in
    let w = (get_or g.edges i d).w in
    let degree = λ (v : ℕ). weight g (single v) in
    omega (
      arith,
      mul_assoc n n w,
      at_least_each (λ v. 2 * degree v) (n * w) n 1 (λ v from to. dense v from (omega (arith, to)) i d l),
      sum_by-twice degree (range_with_len 1 n),
      all_edges g.edges n 1,
    )

-- so many times all edges, where that is known of each
times_all : (times most : ℕ) (es : List Edge) → All (λ (e : Edge). times * e.w ≤ most) es → times * total es ≤ length es * most
times_all times most [] h = omega arith
times_all times most (e ∷ es) h =
    let split : times * total (e ∷ es) ≡ times * e.w + times * total es = ap (λ (x : ℕ). times * x) (sum_by-cons (λ (d : Edge). d.w) e es) ∙ mul-add times e.w (total es) in
    omega (
      arith,
      split,
      suc-mul (length es) most,
      All-head (λ (d : Edge). times * d.w ≤ most) e es h,
      times_all times most es (All-tail (λ (d : Edge). times * d.w ≤ most) e es h),
    )

some_weight : (n : ℕ) (es : List Edge) → All (IsEdgeWithin n) es → 1 ≤ length es → 1 ≤ total es
some_weight n [] within some = absurd (omega (arith, some))
some_weight n (e ∷ es) within some = omega (arith, sum_by-cons (λ (d : Edge). d.w) e es, (All-head (IsEdgeWithin n) e es within).3)

pub few_edges : (g : Graph) → IsGraph g → 1 ≤ length g.edges → 4 * length g.edges < g.vertices * g.vertices → IsDense g → ⊥
few_edges g ok some few dense =
    let m = length g.edges in
    let t = total g.edges in
    let all : g.vertices * g.vertices * t ≤ m * (4 * t) = times_all (g.vertices * g.vertices) (4 * t) g.edges (square_times_edge g dense) in
    let less : 4 * m * t < g.vertices * g.vertices * t = mul-lt-mul_of_pos_right few (some_weight g.vertices g.edges ok.in_range some) in
    omega (arith, all, less, mul_left_comm m 4 t, mul_assoc 4 m t)
