-- What an insertion adds to the weight of each set, and the laws of an insertion.
use Rattle.std.proofs.Common.{◌≡◌, ℕ, ◌+◌, ◌<◌, ◌≤◌, ◌⊎◌, inl, inr, ⊎_elim, Bool, true, false, ◌&&◌, ◌||◌, List, [], ◌∷◌, eqb, ltb, sym, ◌∙◌, ap, arith}
use Rattle.std.specs.Prelude.{if◌then◌else◌}
use Rattle.std.specs.List.{filter, sum_by}
use Rattle.std.proofs.lemmas.Bool.{cases_Bool, cases_order, eqb-true, and_parts}
use Rattle.std.proofs.lemmas.Bool.Decides.{nat_tests}
use Rattle.std.proofs.lemmas.List.Sums.{sum_by-cons, sum_by-append}
use Rattle.cut_definitions.specs.declared.edge_list.Edge.{Edge}
use Rattle.cut_definitions.specs.Graph.{Graph}
use Rattle.cut_definitions.specs.Weight.{VertexSet, parts}
use Rattle.cut_definitions.specs.Cuts.{has, value}
use Rattle.cut_definitions.proofs.WeightLaws.{cut_of, cut_term}
use Rattle.cut_definitions.proofs.Bools.{counted_out}
use Rattle.cut_definitions.proofs.Contracted.{cut_of-zero}
use Rattle.cactus_growth.specs.Insertion.{comes_before, same_ends, weight_there, inserted, enlarged}
use Rattle.cactus_growth.specs.Laws.{LawOfWeights, LawOfKeptCuts, LawOfRise, LawOfConnection}
use Rattle.cut_definitions.proofs.Heavier.{WeighsMore, value_stays, cuts_stay, value_rises}

cut_plus : (a b : Bool) (v w : ℕ) → cut_of a b (v + w) ≡ cut_of a b v + cut_of a b w
cut_plus a b v w = grind arith

-- a sum over a filter, one element at a time
pub sum_filter : {X : Type 0} (f : X → ℕ) (p : X → Bool) (x : X) (xs : List X) → sum_by f (filter p (x ∷ xs)) ≡ (if p x then f x else 0) + sum_by f (filter p xs)
sum_filter f p x xs =
    ⊎_elim
    (λ (e : p x ≡ true). rw e (sum_by-cons f x (filter p xs)))
    (λ (e : p x ≡ false). rw e (omega arith))
    (cases_Bool (p x))

-- an edge comes before another, has its ends, or comes after it
abbrev pub Kinds : Bool → Bool → Bool → Type 0
Kinds before there behind = ((before ≡ true) × (there ≡ false) × (behind ≡ false)) ⊎ (((before ≡ false) × (there ≡ true) × (behind ≡ false)) ⊎ ((before ≡ false) × (there ≡ false) × (behind ≡ true)))

pub kinds : (a b c d : ℕ) → Kinds (ltb a c || (eqb a c && ltb b d)) (eqb a c && eqb b d) (ltb c a || (eqb c a && ltb d b))
kinds a b c d =
    ⊎_elim
    (λ (e : a ≡ c). ⊎_elim
    (λ (f : b ≡ d). inr (inl (grind (arith, nat_tests), grind (arith, nat_tests), grind (arith, nat_tests))))
    (⊎_elim
    (λ (f : b < d). inl (grind (arith, nat_tests), grind (arith, nat_tests), grind (arith, nat_tests)))
    (λ (f : d < b). inr (inr (grind (arith, nat_tests), grind (arith, nat_tests), grind (arith, nat_tests)))))
    (cases_order b d))
    (⊎_elim
    (λ (e : a < c). inl (grind (arith, nat_tests), grind (arith, nat_tests), grind (arith, nat_tests)))
    (λ (e : c < a). inr (inr (grind (arith, nat_tests), grind (arith, nat_tests), grind (arith, nat_tests)))))
    (cases_order a c)

-- what one edge adds to the weight of a set is the sum of what it adds in the three places
one_edge : (s : VertexSet) (d e : Edge) →
    ((if comes_before d e then cut_term s d else 0) + cut_of (s e.u) (s e.v) (if same_ends d e then d.w else 0)) + (if comes_before e d then cut_term s d else 0) ≡ cut_term s d
one_edge s d e =
    let zero = cut_of-zero (s e.u) (s e.v) in
    elim (kinds d.u d.v e.u e.v) [
      | inl k ↦ rw (k.0, k.1, k.2) (omega (arith, zero))
      | inr (inl k) ↦
          (let q = and_parts (eqb d.u e.u) (eqb d.v e.v) k.1 in
          let same : cut_of (s e.u) (s e.v) d.w ≡ cut_term s d = ap (λ x. cut_of (s x) (s e.v) d.w) (sym (eqb-true d.u e.u q.0)) ∙ ap (λ x. cut_of (s d.u) (s x) d.w) (sym (eqb-true d.v e.v q.1)) in
          rw (k.0, k.1, k.2) (omega (arith, same)))
      | inr (inr k) ↦ rw (k.0, k.1, k.2) (omega (arith, zero))
    ]

three_places : (s : VertexSet) (e : Edge) (edges : List Edge) →
    (sum_by (cut_term s) (filter (λ d. comes_before d e) edges) + cut_of (s e.u) (s e.v) (weight_there e edges)) + sum_by (cut_term s) (filter (λ d. comes_before e d) edges)
    ≡ sum_by (cut_term s) edges
three_places s e [] = let zero = cut_of-zero (s e.u) (s e.v) in omega (arith, zero)
three_places s e (d ∷ ds) =
    let here : weight_there e (d ∷ ds) ≡ (if same_ends d e then d.w else 0) + weight_there e ds = sum_by-cons (λ (c : Edge). if same_ends c e then c.w else 0) d ds in
    omega (
      arith,
      sum_filter (cut_term s) (λ c. comes_before c e) d ds,
      sum_filter (cut_term s) (λ c. comes_before e c) d ds,
      ap (cut_of (s e.u) (s e.v)) here,
      cut_plus (s e.u) (s e.v) (if same_ends d e then d.w else 0) (weight_there e ds),
      three_places s e ds,
      one_edge s d e,
      sum_by-cons (cut_term s) d ds,
    )

pub weights : LawOfWeights
weights g e s =
    let mid : Edge = record { u = e.u; v = e.v; w = e.w + weight_there e g.edges } in
    let before = filter (λ d. comes_before d e) g.edges in
    let behind = filter (λ d. comes_before e d) g.edges in
    omega (
      arith,
      sum_by-append (cut_term s) before (mid ∷ behind),
      sum_by-cons (cut_term s) mid behind,
      cut_plus (s e.u) (s e.v) e.w (weight_there e g.edges),
      three_places s e g.edges,
    )

-- ---- the laws

abbrev more_of : Edge → List ℕ → ℕ
more_of e side = if parts (has side) e.u e.v then e.w else 0

weighs : (g : Graph) (e : Edge) → WeighsMore g (inserted e g.edges) (more_of e)
weighs g e side = weights g e (has side)

parted_none : (b : Bool) (w : ℕ) → 1 ≤ w → (if b then w else 0) ≡ 0 → b ≡ false
parted_none b w h e = grind arith

parted_some : (b : Bool) (w : ℕ) → 1 ≤ w → b ≡ true → 1 ≤ (if b then w else 0)
parted_some b w h e = grind arith

pub kept_cuts : LawOfKeptCuts
kept_cuts g e one some =
    let edges = inserted e g.edges in
    let same : value (enlarged g e) ≡ value g = value_stays g edges (more_of e) (weighs g e) some.0 some.1 (counted_out (parts (has some.0) e.u e.v) e.w some.2) in (
      same,
      (λ side.
          let both = cuts_stay g edges (more_of e) (weighs g e) same side in (
            (λ c. let r = both.0 c in (r.0, parted_none (parts (has side) e.u e.v) e.w one r.1)),
            (λ c. both.1 (c.0, counted_out (parts (has side) e.u e.v) e.w c.1)),
          )),
    )

pub rise : LawOfRise
rise g e two one all =
    value_rises g (inserted e g.edges) (more_of e) (weighs g e) two (λ side c. parted_some (parts (has side) e.u e.v) e.w one (all side c))

pub connection : LawOfConnection
connection g e h = record {
  some_vertex = h.some_vertex;
  each_cut = λ s c. omega (arith, weights g e s, h.each_cut s c);
}
