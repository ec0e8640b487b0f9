-- Whether an edge of a list has the ends of another, and how many edges there are after an insertion.
use Rattle.std.proofs.Common.{◌≡◌, ℕ, ◌+◌, ◌<◌, ◌≤◌, ◌^◌, ◌↔◌, inl, inr, Bool, true, false, ◌||◌, List, [], ◌∷◌, length, take, drop, get_or, ltb, refl, sym, ◌∙◌, ap, subst, arith}
use Rattle.std.specs.Prelude.{not, if◌then◌else◌, ◌≢◌}
use Rattle.std.specs.List.{All, AllPairs, filter, sum_by}
use Rattle.std.specs.List.Sorted.{IsPartitionPoint}
use Rattle.std.proofs.lemmas.Bool.{cases_lt, false≢true, le-ltb, lt-ltb}
use Rattle.std.proofs.lemmas.Bool.Decides.{nat_tests}
use Rattle.std.proofs.lemmas.List.{take-append-drop}
use Rattle.std.proofs.lemmas.List.Elements.{All-append, All-weaker, filter_passes}
use Rattle.std.proofs.lemmas.List.Folds.{list_any-append, list_any_at, list_any_none}
use Rattle.cut_definitions.specs.declared.edge_list.Edge.{Edge}
use Rattle.cut_definitions.specs.Graph.{Graph, IsBefore, IsEdgeList}
use Rattle.cut_definitions.proofs.ListLaws.{AllPairs-first, AllPairs-rest}
use Rattle.cactus_growth.specs.Insertion.{comes_before, edge_between, enlarged, inserted, is_joined, same_ends, weight_there}
use Rattle.cactus_growth.proofs.Inserted.{kinds}
use Rattle.cactus_growth.proofs.Limits.{inserted_length, more_by, within_limits}
use Rattle.cactus_growth.proofs.Places.{back_is, before_apart, behind_apart, front_is, in_order}

-- ---- after an insertion

or_front : (a b c d : Bool) → (b || c) ≡ d → ((a || b) || c) ≡ (a || d)
or_front true b c d h = refl
or_front false b c d h = h

or_middle : (a b c d : Bool) → (a ≡ false → (b || c) ≡ d) → (b || (a || c)) ≡ (a || d)
or_middle true true c d h = refl
or_middle true false c d h = refl
or_middle false b c d h = h refl

same_apart : (d e f : Edge) → same_ends d e ≡ true → same_ends e f ≡ false → same_ends d f ≡ false
same_apart d e f h k = grind (arith, nat_tests)

others_joined : (e f : Edge) → same_ends e f ≡ false → (edges : List Edge) →
    (is_joined f (filter (λ d. comes_before d e) edges) || is_joined f (filter (λ d. comes_before e d) edges)) ≡ is_joined f edges
others_joined e f apart [] = refl
others_joined e f apart (d ∷ ds) =
    let before = is_joined f (filter (λ c. comes_before c e) ds) in
    let behind = is_joined f (filter (λ c. comes_before e c) ds) in
    let rest = others_joined e f apart ds in
    elim (kinds d.u d.v e.u e.v) [
      | inl k ↦ rw (k.0, k.2) (or_front (same_ends d f) before behind (is_joined f ds) rest)
      | inr (inl k) ↦ rw (k.0, k.2) (rest ∙ sym (ap (λ b. b || is_joined f ds) (same_apart d e f k.1 apart)))
      | inr (inr k) ↦ rw (k.0, k.2) (or_middle (same_ends d f) before behind (is_joined f ds) (λ h. rest))
    ]

-- an edge joins two vertices if the insertion does, or an edge did before
pub joined_inserted : (e f : Edge) (edges : List Edge) → is_joined f (inserted e edges) ≡ (same_ends e f || is_joined f edges)
joined_inserted e f edges =
    let front = filter (λ d. comes_before d e) edges in
    let behind = filter (λ d. comes_before e d) edges in
    let mid : Edge = record { u = e.u; v = e.v; w = e.w + weight_there e edges } in
    list_any-append (λ (d : Edge). same_ends d f) front (mid ∷ behind)
    ∙ or_middle (same_ends e f) (is_joined f front) (is_joined f behind) (is_joined f edges) (λ h. others_joined e f h edges)

-- ---- the number of edges

later_apart : (d x e : Edge) → IsBefore d x → same_ends d e ≡ true → same_ends x e ≡ false
later_apart d x e (inl h) k = grind (arith, nat_tests)
later_apart d x e (inr h) k = let same : d.u ≡ x.u = h.0 in let less : d.v < x.v = h.1 in grind (arith, nat_tests)

none_later : (e d : Edge) (ds : List Edge) → AllPairs IsBefore (d ∷ ds) → same_ends d e ≡ true → is_joined e ds ≡ false
none_later e d ds h k =
    list_any_none (λ (c : Edge). same_ends c e) ds
    (All-weaker (IsBefore d) (λ c. same_ends c e ≡ false) (λ c b. later_apart d c e b k) ds (AllPairs-first IsBefore d ds h))

one_more : (a b : Bool) → (a ≡ true → b ≡ false) → (if not a then 1 else 0) + (if a || b then 1 else 0) ≡ 1 + (if b then 1 else 0)
one_more true true h = absurd (false≢true (sym (h refl)))
one_more true false h = omega arith
one_more false true h = omega arith
one_more false false h = omega arith

others_counted : (e : Edge) (edges : List Edge) → AllPairs IsBefore edges → length (filter (λ d. not (same_ends d e)) edges) + (if is_joined e edges then 1 else 0) ≡ length edges
others_counted e [] h = omega arith
others_counted e (d ∷ ds) h =
    let here : (if not (same_ends d e) then 1 else 0) + (if is_joined e (d ∷ ds) then 1 else 0) ≡ 1 + (if is_joined e ds then 1 else 0) = one_more (same_ends d e) (is_joined e ds) (none_later e d ds h) in
    omega (arith, here, more_by (λ c. not (same_ends c e)) d ds, others_counted e ds (AllPairs-rest IsBefore d ds h))

turned : (b : Bool) (m n : ℕ) → m + (if b then 1 else 0) ≡ n → m + 1 ≡ n + (if b then 0 else 1)
turned true m n h = omega (arith, h)
turned false m n h = omega (arith, h)

-- the edges are as many as before, and one more if none joins the two vertices
pub inserted_count : (e : Edge) (edges : List Edge) → AllPairs IsBefore edges → length (inserted e edges) ≡ length edges + (if is_joined e edges then 0 else 1)
inserted_count e edges h = inserted_length e edges ∙ turned (is_joined e edges) (length (filter (λ d. not (same_ends d e)) edges)) (length edges) (others_counted e edges h)

pub within_by_count : (g : Graph) (u v w : ℕ) → IsEdgeList g → 1 ≤ u → u ≤ g.vertices → 1 ≤ v → v ≤ g.vertices → u ≢ v → 1 ≤ w →
    ((sum_by (λ (d : Edge). d.w) g.edges + w ≤ 2 ^ 61) × (length g.edges + (if is_joined (edge_between u v w) g.edges then 0 else 1) ≤ 16777216)) ↔ IsEdgeList (enlarged g (edge_between u v w))
within_by_count g u v w edges u1 un v1 vn ne w1 =
    let e = edge_between u v w in
    let both = within_limits g u v w edges u1 un v1 vn ne w1 in
    let count = inserted_count e g.edges edges.is_graph.ascending in
    let least = inserted_length e g.edges in (
      (λ h. both.0 (h.0, omega (arith, h.1, count, least))),
      (λ k. ((both.1 k).0, omega (arith, (both.1 k).1, count, least))),
    )

pub some_joined : (b : Bool) (n : ℕ) → b ≡ true → n + (if b then 0 else 1) ≡ n
some_joined true n h = omega arith
some_joined false n h = absurd (false≢true h)

pub none_joined : (b : Bool) (n : ℕ) → b ≡ false → n + (if b then 0 else 1) ≡ n + 1
none_joined true n h = absurd (false≢true (sym h))
none_joined false n h = omega arith

-- ---- the place of two vertices

neither_way : (d e : Edge) → comes_before d e ≡ false → comes_before e d ≡ false → same_ends d e ≡ true
neither_way d e h k = elim (kinds d.u d.v e.u e.v) [
  | inl q ↦ absurd (false≢true (sym h ∙ q.0))
  | inr (inl q) ↦ q.1
  | inr (inr q) ↦ absurd (false≢true (sym k ∙ q.2))
]

module _ (e : Edge) (xs : List Edge) (first end : ℕ) (front : first ≤ length xs) (back : end ≤ length xs)
    (before : IsPartitionPoint (λ d. comes_before d e ≡ true) (λ d. comes_before d e ≡ false) xs first)
    (behind : IsPartitionPoint (λ d. comes_before e d ≡ false) (λ d. comes_before e d ≡ true) xs end) where
  abbrev Apart : Edge → Type 0
  Apart d = same_ends d e ≡ false

  apart_before : All Apart (take first xs)
  apart_before = subst (All Apart) (sym (front_is e xs first end front back before behind))
      (All-weaker (λ d. comes_before d e ≡ true) Apart (λ d h. before_apart d e h) (filter (λ d. comes_before d e) xs) (filter_passes (λ d. comes_before d e) xs))

  apart_after : All Apart (drop end xs)
  apart_after = subst (All Apart) (sym (back_is e xs first end front back before behind))
      (All-weaker (λ d. comes_before e d ≡ true) Apart (λ d h. behind_apart d e h) (filter (λ d. comes_before e d) xs) (filter_passes (λ d. comes_before e d) xs))

  none_between : end ≤ first → is_joined e xs ≡ false
  none_between h =
      let same : end ≡ first = omega (arith, h, in_order e xs first end front back before behind) in
      list_any_none (λ (d : Edge). same_ends d e) xs
      (subst (All Apart) (take-append-drop first xs) (All-append Apart (take first xs) (drop first xs) apart_before (subst (λ k. All Apart (drop k xs)) same apart_after)))

  some_between : first < end → is_joined e xs ≡ true
  some_between h =
      let lt : first < length xs = omega (arith, h, back) in
      list_any_at (λ (d : Edge). same_ends d e) xs first e lt
      (neither_way (get_or xs first e) e (before.1 first e (omega arith) lt) (behind.0 first e (omega arith) h))

  -- the place holds an edge if one joins the two vertices
  pub place_filled : ltb first end ≡ is_joined e xs
  place_filled = elim (cases_lt first end) [
    | inl h ↦ lt-ltb first end h ∙ sym (some_between h)
    | inr h ↦ le-ltb first end h ∙ sym (none_between h)
  ]
