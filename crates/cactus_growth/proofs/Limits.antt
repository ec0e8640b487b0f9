-- The list after an insertion is an edge list if its weights and its edges are within the limits.
use Rattle.std.proofs.Common.{◌≡◌, ℕ, ◌+◌, ◌<◌, ◌≤◌, ◌^◌, ◌↔◌, inl, inr, ⊎_elim, Bool, true, false, ◌&&◌, List, [], ◌∷◌, length, ltb, eqb, arith, length-append}
use Rattle.std.specs.Prelude.{if◌then◌else◌, ◌≢◌, not}
use Rattle.std.specs.List.{All, AllPairs, filter, sum_by}
use Rattle.std.proofs.lemmas.Bool.{or_cases, cases_Bool, ltb-true, eqb-true, and_parts}
use Rattle.std.proofs.lemmas.List.Elements.{All-append, All-cons, All-filter}
use Rattle.std.proofs.lemmas.List.Kept.{AllPairs-cons, AllPairs-filter}
use Rattle.std.proofs.lemmas.List.Sums.{sum_by-cons, sum_by-append}
use Rattle.cut_definitions.specs.declared.edge_list.Edge.{Edge}
use Rattle.cut_definitions.specs.Graph.{Graph, IsBefore, IsEdgeWithin, IsEdgeList}
use Rattle.cut_definitions.proofs.Lists.{Contains-from_filter}
use Rattle.cut_definitions.proofs.ListLaws.{AllPairs-append, All-from_each}
use Rattle.cut_definitions.proofs.Ascending.{IsBefore-trans}
use Rattle.cactus_growth.specs.Insertion.{comes_before, same_ends, weight_there, edge_between, inserted, enlarged}
use Rattle.cactus_growth.proofs.Inserted.{sum_filter, kinds}

before_is : (d e : Edge) → comes_before d e ≡ true → IsBefore d e
before_is d e h = elim (or_cases (ltb d.u e.u) (eqb d.u e.u && ltb d.v e.v) h) [
  | inl k ↦ inl (ltb-true d.u e.u k)
  | inr k ↦ (let r = and_parts (eqb d.u e.u) (ltb d.v e.v) k in inr (eqb-true d.u e.u r.0, ltb-true d.v e.v r.1))
]

module _ (e : Edge) (edges : List Edge) where
  front : List Edge
  front = filter (λ d. comes_before d e) edges

  behind : List Edge
  behind = filter (λ d. comes_before e d) edges

  mid : Edge
  mid = record { u = e.u; v = e.v; w = e.w + weight_there e edges }

  each_front : All (λ d. IsBefore d mid) front
  unfolding front mid
  each_front = All-from_each (λ d. IsBefore d mid) front (λ d c. before_is d e (Contains-from_filter (λ d. comes_before d e) edges d c).1)

  each_behind : All (IsBefore mid) behind
  unfolding behind mid
  each_behind = All-from_each (IsBefore mid) behind (λ d c. before_is e d (Contains-from_filter (λ d. comes_before e d) edges d c).1)

  pub still_ascending : AllPairs IsBefore edges → AllPairs IsBefore (inserted e edges)
  unfolding front behind mid
  still_ascending h =
      AllPairs-append IsBefore front (mid ∷ behind) (AllPairs-filter IsBefore (λ d. comes_before d e) edges h)
      (AllPairs-cons IsBefore mid behind each_behind (AllPairs-filter IsBefore (λ d. comes_before e d) edges h))
      (All-from_each (λ d. All (IsBefore d) (mid ∷ behind)) front (λ d c.
      let first = before_is d e (Contains-from_filter (λ d. comes_before d e) edges d c).1 in
      All-cons (IsBefore d) mid behind first (All-from_each (IsBefore d) behind (λ b k. IsBefore-trans d mid b first (before_is e b (Contains-from_filter (λ d. comes_before e d) edges b k).1)))))

  pub still_within : (n : ℕ) → IsEdgeWithin n e → All (IsEdgeWithin n) edges → All (IsEdgeWithin n) (inserted e edges)
  unfolding front behind mid
  still_within n here h =
      All-append (IsEdgeWithin n) front (mid ∷ behind) (All-filter (λ d. comes_before d e) (IsEdgeWithin n) edges h)
      (All-cons (IsEdgeWithin n) mid behind (here.0, here.1, here.2, omega (arith, here.3)) (All-filter (λ d. comes_before e d) (IsEdgeWithin n) edges h))

one_weight : (d e : Edge) → ((if comes_before d e then d.w else 0) + (if same_ends d e then d.w else 0)) + (if comes_before e d then d.w else 0) ≡ d.w
one_weight d e = elim (kinds d.u d.v e.u e.v) [
  | inl k ↦ rw (k.0, k.1, k.2) (omega arith)
  | inr (inl k) ↦ rw (k.0, k.1, k.2) (omega arith)
  | inr (inr k) ↦ rw (k.0, k.1, k.2) (omega arith)
]

weight_places : (e : Edge) (edges : List Edge) →
    (sum_by (λ (d : Edge). d.w) (filter (λ d. comes_before d e) edges) + weight_there e edges) + sum_by (λ (d : Edge). d.w) (filter (λ d. comes_before e d) edges) ≡ sum_by (λ (d : Edge). d.w) edges
weight_places e [] = omega arith
weight_places e (d ∷ ds) =
    let here : weight_there e (d ∷ ds) ≡ (if same_ends d e then d.w else 0) + weight_there e ds = sum_by-cons (λ (c : Edge). if same_ends c e then c.w else 0) d ds in
    omega (
      arith,
      sum_filter (λ (c : Edge). c.w) (λ c. comes_before c e) d ds,
      sum_filter (λ (c : Edge). c.w) (λ c. comes_before e c) d ds,
      here,
      weight_places e ds,
      one_weight d e,
      sum_by-cons (λ (c : Edge). c.w) d ds,
    )

-- the weights add up to what they did and the weight of the insertion
pub inserted_weight : (e : Edge) (edges : List Edge) → sum_by (λ (d : Edge). d.w) (inserted e edges) ≡ sum_by (λ (d : Edge). d.w) edges + e.w
inserted_weight e edges =
    let m : Edge = record { u = e.u; v = e.v; w = e.w + weight_there e edges } in
    omega (
      arith,
      sum_by-append (λ (d : Edge). d.w) (filter (λ d. comes_before d e) edges) (m ∷ filter (λ d. comes_before e d) edges),
      sum_by-cons (λ (d : Edge). d.w) m (filter (λ d. comes_before e d) edges),
      weight_places e edges,
    )

pub more_by : (p : Edge → Bool) (d : Edge) (ds : List Edge) → length (filter p (d ∷ ds)) ≡ (if p d then 1 else 0) + length (filter p ds)
more_by p d ds =
    ⊎_elim
    (λ (h : p d ≡ true). rw h (omega arith))
    (λ (h : p d ≡ false). rw h (omega arith))
    (cases_Bool (p d))

one_place : (d e : Edge) → (if comes_before d e then 1 else 0) + (if comes_before e d then 1 else 0) ≡ (if not (same_ends d e) then 1 else 0)
one_place d e = elim (kinds d.u d.v e.u e.v) [
  | inl k ↦ rw (k.0, k.1, k.2) (omega arith)
  | inr (inl k) ↦ rw (k.0, k.1, k.2) (omega arith)
  | inr (inr k) ↦ rw (k.0, k.1, k.2) (omega arith)
]

others_split : (e : Edge) (edges : List Edge) → length (filter (λ d. comes_before d e) edges) + length (filter (λ d. comes_before e d) edges) ≡ length (filter (λ d. not (same_ends d e)) edges)
others_split e [] = omega arith
others_split e (d ∷ ds) = omega (arith, more_by (λ c. comes_before c e) d ds, more_by (λ c. comes_before e c) d ds, more_by (λ c. not (same_ends c e)) d ds, others_split e ds, one_place d e)

-- the edges are those with other ends and one
pub inserted_length : (e : Edge) (edges : List Edge) → length (inserted e edges) ≡ length (filter (λ d. not (same_ends d e)) edges) + 1
inserted_length e edges =
    let m : Edge = record { u = e.u; v = e.v; w = e.w + weight_there e edges } in
    omega (arith, length-append (filter (λ d. comes_before d e) edges) (m ∷ filter (λ d. comes_before e d) edges), others_split e edges)

pub within_limits : (g : Graph) (u v w : ℕ) → IsEdgeList g → 1 ≤ u → u ≤ g.vertices → 1 ≤ v → v ≤ g.vertices → u ≢ v → 1 ≤ w →
    ((sum_by (λ (d : Edge). d.w) g.edges + w ≤ 2 ^ 61) × (length (filter (λ d. not (same_ends d (edge_between u v w))) g.edges) < 16777216)) ↔ IsEdgeList (enlarged g (edge_between u v w))
within_limits g u v w h u1 un v1 vn ne w1 =
    let e = edge_between u v w in
    let ends : IsEdgeWithin g.vertices e = (grind (arith, u1, v1), grind (arith, ne), grind (arith, un, vn), w1) in (
      (λ k. record {
        is_graph = record {
          in_range = still_within e g.edges g.vertices ends h.is_graph.in_range;
          ascending = still_ascending e g.edges h.is_graph.ascending;
          total = omega (arith, inserted_weight e g.edges, k.0);
        };
        few_vertices = h.few_vertices;
        few_edges = omega (arith, inserted_length e g.edges, k.1);
      }),
      (λ k. (omega (arith, inserted_weight e g.edges, k.is_graph.total), omega (arith, inserted_length e g.edges, k.few_edges))),
    )
