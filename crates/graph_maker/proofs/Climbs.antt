-- The list of the made graph: its edges ascend, lie within the graph, and are five for each ring.
use Rattle.std.proofs.Common.{◌≡◌, ℕ, zero, suc, ◌+◌, ◌-◌, ◌*◌, ◌<◌, ◌≤◌, inl, inr, Bool, true, false, cond, eqb, ltb, List, [], ◌∷◌, ◌++◌, length, sum_by, refl, ap, arith}
use Rattle.std.specs.List.{AllPairs, AllByRecursion, flat_map, range_with_len}
use Rattle.std.proofs.lemmas.Bool.{eqb-true, ne_eqb, ltb-true, lt-ltb, le-ltb}
use Rattle.std.proofs.lemmas.List.Kept.{AllPairs-cons}
use Rattle.std.proofs.lemmas.List.Elements.{All-from_recursion}
use Rattle.std.proofs.lemmas.List.Sums.{sum_by-cons}
use Rattle.cut_definitions.specs.declared.edge_list.Edge.{Edge}
use Rattle.cut_definitions.specs.Graph.{IsBefore, IsEdgeWithin}
use Rattle.cut_definitions.proofs.Ascending.{IsBefore-trans}
use Rattle.graph_maker.specs.Made.{double, ring_edges}

-- Ascending lists.

-- each edge comes after the one before it, and the first one after d
abbrev pub Climbs : Edge → List Edge → Type 0
Climbs d [] = Unit {0}
Climbs d (e ∷ es) = IsBefore d e × Climbs e es

climbs_below : (d e : Edge) (es : List Edge) → IsBefore d e → Climbs e es → Climbs d es
climbs_below d e [] p c = tt
climbs_below d e (f ∷ es) p c = (IsBefore-trans d e f p c.0, c.1)

climbs_over_all : (d : Edge) (es : List Edge) → Climbs d es → AllByRecursion (IsBefore d) es
climbs_over_all d [] c = tt
climbs_over_all d (e ∷ es) c = (c.0, climbs_over_all d es (climbs_below d e es c.0 c.1))

pub pairs_from_climbs : (d : Edge) (es : List Edge) → Climbs d es → AllPairs IsBefore es
pairs_from_climbs d [] c = λ i j x l u. absurd (omega (arith, u))
pairs_from_climbs d (e ∷ es) c = AllPairs-cons IsBefore e es (All-from_recursion (IsBefore e) es (climbs_over_all e es c.1)) (pairs_from_climbs e es c.1)

-- The edges of one ring, with either test as it may be.

abbrev one_ring : ℕ → ℕ → Bool → Bool → List Edge
one_ring rings ring first more =
    (double (4 * ring + 1) (4 * ring + 2) ∷ double (4 * ring + 1) (4 * ring + 4) ∷ cond first (double 1 (4 * rings - 1) ∷ []) [])
    ++ (double (4 * ring + 2) (4 * ring + 3) ∷ double (4 * ring + 3) (4 * ring + 4) ∷ cond more (double (4 * ring + 3) (4 * ring + 5) ∷ []) [])

ring_climbs : (rings ring : ℕ) (first more : Bool) (d : Edge) (rest : List Edge) → 2 ≤ rings → (first ≡ true → ring ≡ 0) → d.u ≤ 4 * ring →
    ((e : Edge) → e.u ≤ 4 * ring + 4 → Climbs e rest) → Climbs d (one_ring rings ring first more ++ rest)
ring_climbs rings ring true true d rest two start low high =
    let at_zero : ring ≡ 0 = start refl in
    (inl (omega arith), (inr (omega arith, omega arith), (inr (omega arith, omega arith), (inl (omega arith), (inl (omega arith), (inr (omega arith, omega arith), high _ (omega arith)))))))
ring_climbs rings ring true false d rest two start low high =
    let at_zero : ring ≡ 0 = start refl in
    (inl (omega arith), (inr (omega arith, omega arith), (inr (omega arith, omega arith), (inl (omega arith), (inl (omega arith), high _ (omega arith))))))
ring_climbs rings ring false true d rest two start low high =
    (inl (omega arith), (inr (omega arith, omega arith), (inl (omega arith), (inl (omega arith), (inr (omega arith, omega arith), high _ (omega arith))))))
ring_climbs rings ring false false d rest two start low high =
    (inl (omega arith), (inr (omega arith, omega arith), (inl (omega arith), (inl (omega arith), high _ (omega arith)))))

pub rings_climb : (rings ring n : ℕ) (d : Edge) → 2 ≤ rings → d.u ≤ 4 * ring → Climbs d (flat_map (ring_edges rings) (range_with_len ring n))
rings_climb rings ring zero d two low = tt
rings_climb rings ring (suc n) d two low =
    ring_climbs rings ring (eqb ring 0) (ltb (ring + 1) rings) d (flat_map (ring_edges rings) (range_with_len (ring + 1) n)) two (eqb-true ring 0) low
    (λ e h. rings_climb rings (ring + 1) n e two (omega arith))

-- Within the graph, and of weight 2.

pub record IsOwn (rings : ℕ) (e : Edge) : Type 0 where
  pub within : IsEdgeWithin (4 * rings) e
  pub weighs_two : e.w ≡ 2

own : (rings u v : ℕ) → 1 ≤ u → u < v → v ≤ 4 * rings → IsOwn rings (double u v)
own rings u v low less high = record { within = (low, less, high, omega arith); weighs_two = refl }

ring_own : (rings ring : ℕ) (first more : Bool) (rest : List Edge) → 2 ≤ rings → ring < rings → (more ≡ true → ring + 1 < rings) →
    AllByRecursion (IsOwn rings) rest → AllByRecursion (IsOwn rings) (one_ring rings ring first more ++ rest)
ring_own rings ring true true rest two in_rings next h =
    let later : ring + 1 < rings = next refl in (
      own rings _ _ (omega arith) (omega arith) (omega arith),
      (
        own rings _ _ (omega arith) (omega arith) (omega arith),
        (
          own rings _ _ (omega arith) (omega arith) (omega arith),
          (own rings _ _ (omega arith) (omega arith) (omega arith), (own rings _ _ (omega arith) (omega arith) (omega arith), (own rings _ _ (omega arith) (omega arith) (omega arith), h))),
        ),
      ),
    )
ring_own rings ring true false rest two in_rings next h = (
  own rings _ _ (omega arith) (omega arith) (omega arith),
  (
    own rings _ _ (omega arith) (omega arith) (omega arith),
    (
      own rings _ _ (omega arith) (omega arith) (omega arith),
      (own rings _ _ (omega arith) (omega arith) (omega arith), (own rings _ _ (omega arith) (omega arith) (omega arith), h)),
    ),
  ),
)
ring_own rings ring false true rest two in_rings next h =
    let later : ring + 1 < rings = next refl in (
      own rings _ _ (omega arith) (omega arith) (omega arith),
      (
        own rings _ _ (omega arith) (omega arith) (omega arith),
        (own rings _ _ (omega arith) (omega arith) (omega arith), (own rings _ _ (omega arith) (omega arith) (omega arith), (own rings _ _ (omega arith) (omega arith) (omega arith), h))),
      ),
    )
ring_own rings ring false false rest two in_rings next h = (
  own rings _ _ (omega arith) (omega arith) (omega arith),
  (
    own rings _ _ (omega arith) (omega arith) (omega arith),
    (own rings _ _ (omega arith) (omega arith) (omega arith), (own rings _ _ (omega arith) (omega arith) (omega arith), h)),
  ),
)

pub rings_own : (rings ring n : ℕ) → 2 ≤ rings → ring + n ≤ rings → AllByRecursion (IsOwn rings) (flat_map (ring_edges rings) (range_with_len ring n))
rings_own rings ring zero two fits = tt
rings_own rings ring (suc n) two fits =
    ring_own rings ring (eqb ring 0) (ltb (ring + 1) rings) (flat_map (ring_edges rings) (range_with_len (ring + 1) n)) two (omega arith) (ltb-true (ring + 1) rings)
    (rings_own rings (ring + 1) n two (omega arith))

-- edges of weight 2 weigh twice their number
pub twos : (rings : ℕ) (es : List Edge) → AllByRecursion (IsOwn rings) es → sum_by (λ (e : Edge). e.w) es ≡ 2 * length es
twos rings [] h = refl
twos rings (e ∷ es) h = omega (arith, sum_by-cons (λ (e : Edge). e.w) e es, h.0.weighs_two, twos rings es h.1)

-- Five for each ring.

abbrev one_if : Bool → ℕ
one_if true = 1
one_if false = 0

ring_length : (rings ring : ℕ) (first more : Bool) (rest : List Edge) → length (one_ring rings ring first more ++ rest) ≡ 4 + one_if first + one_if more + length rest
ring_length rings ring true true rest = omega arith
ring_length rings ring true false rest = omega arith
ring_length rings ring false true rest = omega arith
ring_length rings ring false false rest = omega arith

-- behind ring 0, where the last ring lacks its link
pub later_length : (rings ring n : ℕ) → 1 ≤ ring → ring + suc n ≡ rings → length (flat_map (ring_edges rings) (range_with_len ring (suc n))) + 1 ≡ 5 * suc n
later_length rings ring zero later ends =
    omega (arith, ring_length rings ring (eqb ring 0) (ltb (ring + 1) rings) [], ap one_if (ne_eqb ring 0 (λ e. omega arith)), ap one_if (le-ltb (ring + 1) rings (omega arith)))
later_length rings ring (suc n) later ends =
    omega (
      arith,
      ring_length rings ring (eqb ring 0) (ltb (ring + 1) rings) (flat_map (ring_edges rings) (range_with_len (ring + 1) (suc n))),
      ap one_if (ne_eqb ring 0 (λ e. omega arith)),
      ap one_if (lt-ltb (ring + 1) rings (omega arith)),
      later_length rings (ring + 1) n (omega arith) (omega arith),
    )

pub all_length : (n : ℕ) → length (flat_map (ring_edges (suc (suc n))) (range_with_len 0 (suc (suc n)))) ≡ 5 * suc (suc n)
all_length n =
    omega (
      arith,
      ring_length (suc (suc n)) 0 true (ltb (0 + 1) (suc (suc n))) (flat_map (ring_edges (suc (suc n))) (range_with_len (0 + 1) (suc n))),
      ap one_if (lt-ltb (0 + 1) (suc (suc n)) (omega arith)),
      later_length (suc (suc n)) (0 + 1) n (omega arith) (omega arith),
    )
