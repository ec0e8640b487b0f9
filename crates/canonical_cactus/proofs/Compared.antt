-- The sides at two ranges, compared by the least vertex that only one of them has.
use Rattle.std.proofs.Common.{◌≡◌, ℕ, zero, suc, ◌+◌, ◌≤◌, ◌<◌, ◌⊎◌, inl, inr, true, false, not, ◌&&◌, List, [], ◌∷◌, ◌++◌, length, get_or, take, drop, ap, ◌∙◌, sym, subst, arith}
use Rattle.std.specs.Prelude.{nat_le}
use Rattle.std.specs.Ordering.{is_gt}
use Rattle.std.proofs.lemmas.Bool.{cases_lt, false≢true, le-leb, lt-leb}
use Rattle.std.proofs.lemmas.Bool.Decides.{nat_tests}
use Rattle.std.proofs.lemmas.List.Elements.{All-get_or}
use Rattle.cut_definitions.specs.Cuts.{has}
use Rattle.cut_definitions.proofs.Ascending.{has_one}
use Rattle.vertex_set.proofs.Bits.{filter-same}
use Rattle.rooted_cactus.specs.CutRanges.{Range, elements_at}
use Rattle.rooted_cactus.specs.Places.{is_inside}
use Rattle.cut_definitions.specs.Graph.{IsVertex}
use Rattle.rooted_cactus.proofs.Elements.{drop_nothing, elements_more, elements_none}
use Rattle.canonical_cactus.specs.FirstBest.{IsBeyond, IsNoLater, IsRanked, count_of, side_of, vertex_at}
use Rattle.canonical_cactus.specs.declared.first_side.Ranked.{Ranked}
use Rattle.canonical_cactus.proofs.Firsts.{first_alone, first_end}
use Rattle.canonical_cactus.proofs.FirstBest.{no_later_itself}

abbrev pub range : ℕ → ℕ → Range
range from to = record { from = from; to = to }

-- ---- places
-- a place is in a range, or it is not
whether : (r : Range) (p : ℕ) → ((r.from ≤ p) × (p < r.to) × (is_inside r p ≡ true)) ⊎ (((p < r.from) ⊎ (r.to ≤ p)) × (is_inside r p ≡ false))
whether r p = elim (cases_lt p r.from) [
  | inl low ↦ inr (inl low, ap (λ b. b && not (nat_le r.to p)) (lt-leb r.from p low))
  | inr from ↦ elim (cases_lt p r.to) [
    | inl to ↦ inl (from, to, ap (λ b. b && not (nat_le r.to p)) (le-leb r.from p from) ∙ ap not (lt-leb r.to p to))
    | inr high ↦ inr (inr high, ap (λ b. b && not (nat_le r.to p)) (le-leb r.from p from) ∙ ap not (le-leb r.to p high))
  ]
]

pub inside_yes : (r : Range) (p : ℕ) → r.from ≤ p → p < r.to → is_inside r p ≡ true
inside_yes r p from to = ap (λ b. b && not (nat_le r.to p)) (le-leb r.from p from) ∙ ap not (lt-leb r.to p to)

inside_not : (r : Range) (p : ℕ) → (p < r.from) ⊎ (r.to ≤ p) → is_inside r p ≡ false
inside_not r p out = elim (whether r p) [
  | inl w ↦ elim out [
    | inl low ↦ absurd (omega (arith, w.0, low))
    | inr high ↦ absurd (omega (arith, w.1, high))
  ]
  | inr w ↦ w.1
]

elements_past : (xs : List ℕ) (p to : ℕ) → length xs ≤ p → drop p (take to xs) ≡ []
elements_past [] p zero h = drop_nothing p
elements_past [] p (suc to) h = drop_nothing p
elements_past (x ∷ xs) zero to h = absurd (omega (arith, h))
elements_past (x ∷ xs) (suc p) zero h = drop_nothing (suc p)
elements_past (x ∷ xs) (suc p) (suc to) h = elements_past xs p to (omega (arith, h))

-- the element at one place alone
one_element : (xs : List ℕ) (p : ℕ) → p < length xs → elements_at xs (range p (p + 1)) ≡ get_or xs p 0 ∷ []
one_element xs p l = elements_more xs p p (omega arith) l ∙ ap (λ k. k ++ get_or xs p 0 ∷ []) (elements_none xs p p (omega arith))

pub one_inside : (p q : ℕ) → is_inside (range p (p + 1)) q ≡ true → p ≡ q
one_inside p q h = elim (whether (range p (p + 1)) q) [
  | inl w ↦ omega (arith, w.0, w.1)
  | inr w ↦ absurd (false≢true (sym w.1 ∙ h))
]

-- the tests of one element
has_itself : (x : ℕ) → has (x ∷ []) x ≡ true
has_itself x = grind (arith, nat_tests)

-- whether a range has the vertex at a place
pub at_place : (k : Ranked) (p : ℕ) → IsRanked k → p < count_of k → (r : Range) → has (elements_at k.ranges.order.items r) (vertex_at k p) ≡ is_inside r p
at_place k p ranked l r =
    let xs = k.ranges.order.items in
    let within : p < length xs = omega (arith, l) in
    let v : IsVertex (count_of k) (get_or xs p 0) = All-get_or (IsVertex (count_of k)) xs p 0 within k.ranges.vertices in
    let q = ranked.once (get_or xs p 0) v.0 v.1 in
    let here : has (elements_at xs (range p (p + 1))) (get_or xs p 0) ≡ true = ap (λ l. has l (get_or xs p 0)) (one_element xs p within) ∙ has_itself (get_or xs p 0) in
    let same : p ≡ q.0 = one_inside p q.0 (sym (q.1 (range p (p + 1))) ∙ here) in
    q.1 r ∙ ap (is_inside r) (sym same)

-- the place of a vertex
place_of : (k : Ranked) (v : ℕ) → IsRanked k → 1 ≤ v → v ≤ count_of k → (p : ℕ) × (p < count_of k) × (vertex_at k p ≡ v)
place_of k v ranked low high =
    let xs = k.ranges.order.items in
    let q = ranked.once v low high in
    let here : has (elements_at xs (range q.0 (q.0 + 1))) v ≡ true = q.1 (range q.0 (q.0 + 1)) ∙ inside_yes (range q.0 (q.0 + 1)) q.0 (omega arith) (omega arith) in
    elim (cases_lt q.0 (length xs)) [
      | inl l ↦ (q.0, omega (arith, l), has_one (get_or xs q.0 0) v (ap (λ l. has l v) (sym (one_element xs q.0 l)) ∙ here))
      | inr past ↦ absurd (false≢true (ap (λ l. has l v) (sym (elements_past xs q.0 (q.0 + 1) past)) ∙ here))
    ]

-- ---- the least vertex that only one of two ranges has
pub record AreLeastBeyond (k : Ranked) (r other : Range) (own others : ℕ) : Type 0 where
  pub own_less : (p : ℕ) → IsBeyond r other p → own ≤ vertex_at k p
  pub own_there : (own ≡ 4294967295) ⊎ ((p : ℕ) × IsBeyond r other p × (vertex_at k p ≡ own))
  pub others_less : (p : ℕ) → IsBeyond other r p → others ≤ vertex_at k p
  pub others_there : (others ≡ 4294967295) ⊎ ((p : ℕ) × IsBeyond other r p × (vertex_at k p ≡ others))

pub turned : (k : Ranked) (r other : Range) (own others : ℕ) → AreLeastBeyond k r other own others → AreLeastBeyond k other r others own
turned k r other own others are = record { own_less = are.others_less; own_there = are.others_there; others_less = are.own_less; others_there = are.own_there }

-- below both both ranges have the same vertices
alike : (k : Ranked) (r other : Range) (own others v : ℕ) → IsRanked k → AreLeastBeyond k r other own others → 1 ≤ v → v ≤ count_of k → v < own → v < others →
    has (elements_at k.ranges.order.items r) v ≡ has (elements_at k.ranges.order.items other) v
alike k r other own others v ranked are low high below_own below_others =
    let xs = k.ranges.order.items in
    let q = place_of k v ranked low high in
    let p = q.0 in
    let in_one : has (elements_at xs r) v ≡ is_inside r p = ap (has (elements_at xs r)) (sym q.2) ∙ at_place k p ranked q.1 r in
    let in_other : has (elements_at xs other) v ≡ is_inside other p = ap (has (elements_at xs other)) (sym q.2) ∙ at_place k p ranked q.1 other in
    elim (whether r p) [
      | inl a ↦ elim (whether other p) [
        | inl b ↦ in_one ∙ a.2 ∙ sym b.2 ∙ sym in_other
        | inr b ↦ absurd (omega (arith, are.own_less p (a.0, a.1, b.0), q.2, below_own))
      ]
      | inr a ↦ elim (whether other p) [
        | inl b ↦ absurd (omega (arith, are.others_less p (b.0, b.1, a.0), q.2, below_others))
        | inr b ↦ in_one ∙ a.1 ∙ sym b.1 ∙ sym in_other
      ]
    ]

-- the least one is a vertex of the one range alone
record IsAlone (k : Ranked) (r other : Range) (x : ℕ) : Type 0 where
  low : 1 ≤ x
  high : x ≤ count_of k
  is : has (elements_at k.ranges.order.items r) x ≡ true
  not_other : has (elements_at k.ranges.order.items other) x ≡ false

alone : (k : Ranked) (r other : Range) (p x : ℕ) → IsRanked k → r.to ≤ count_of k → IsBeyond r other p → vertex_at k p ≡ x → IsAlone k r other x
alone k r other p x ranked fits beyond e =
    let xs = k.ranges.order.items in
    let there : p < count_of k = omega (arith, beyond.1, fits) in
    let v : IsVertex (count_of k) (get_or xs p 0) = All-get_or (IsVertex (count_of k)) xs p 0 (omega (arith, there)) k.ranges.vertices in
    record {
      low = omega (arith, v.0, e);
      high = omega (arith, v.1, e);
      is = ap (has (elements_at xs r)) (sym e) ∙ at_place k p ranked there r ∙ inside_yes r p beyond.0 beyond.1;
      not_other = ap (has (elements_at xs other)) (sym e) ∙ at_place k p ranked there other ∙ inside_not other p beyond.2;
    }

own_alone : (k : Ranked) (r other : Range) (own others : ℕ) → IsRanked k → r.to ≤ count_of k → others ≤ 4294967295 → own < others → AreLeastBeyond k r other own others → IsAlone k r other own
own_alone k r other own others ranked fits bound less are = elim are.own_there [
  | inl e ↦ absurd (omega (arith, e, less, bound))
  | inr w ↦ alone k r other w.0 own ranked fits w.1 w.2
]

-- the range with the smaller one comes first if the other has a greater vertex
pub comes_first : (k : Ranked) (r other : Range) (own others q : ℕ) → IsRanked k → r.to ≤ count_of k → other.to ≤ count_of k → others ≤ 4294967295 → own < others → AreLeastBeyond k r other own others →
    other.from ≤ q → q < other.to → own < vertex_at k q → IsNoLater (side_of k r) (side_of k other)
comes_first k r other own others q ranked fits other_fits bound less are from to greater =
    let xs = k.ranges.order.items in
    let n = count_of k in
    let x = own_alone k r other own others ranked fits bound less are in
    let there : q < n = omega (arith, to, other_fits) in
    let v : IsVertex n (get_or xs q 0) = All-get_or (IsVertex n) xs q 0 (omega (arith, there)) k.ranges.vertices in
    ap is_gt (first_alone (has (elements_at xs r)) (has (elements_at xs other)) own (vertex_at k q) n 1 x.is x.not_other
    (λ u a b. alike k r other own others u ranked are a (omega (arith, b, x.high)) b (omega (arith, b, less))) x.low (omega (arith, x.high)) greater (omega (arith, v.1))
    (at_place k q ranked there other ∙ inside_yes other q from to))

-- the range with the smaller one comes later if the other has no greater vertex, since it is the longer one
pub comes_behind : (k : Ranked) (r other : Range) (own others : ℕ) → IsRanked k → r.to ≤ count_of k → others ≤ 4294967295 → own < others → AreLeastBeyond k r other own others →
    ((q : ℕ) → other.from ≤ q → q < other.to → vertex_at k q ≤ own) → IsNoLater (side_of k other) (side_of k r)
comes_behind k r other own others ranked fits bound less are none =
    let xs = k.ranges.order.items in
    let n = count_of k in
    let x = own_alone k r other own others ranked fits bound less are in
    ap is_gt (first_end (has (elements_at xs r)) (has (elements_at xs other)) own n 1 x.is x.not_other
    (λ u a b. alike k r other own others u ranked are a (omega (arith, b, x.high)) b (omega (arith, b, less))) x.low (omega (arith, x.high))
    (λ u a b.
    let p = place_of k u ranked (omega (arith, a)) (omega (arith, b)) in
    ap (has (elements_at xs other)) (sym p.2) ∙ at_place k p.0 ranked p.1 other ∙ elim (whether other p.0) as (λ _. is_inside other p.0 ≡ false) [
      | inl w ↦ absurd (omega (arith, none p.0 w.0 w.1, p.2, a))
      | inr w ↦ w.1
    ]))

-- neither has a vertex that the other has not
pub come_together : (k : Ranked) (r other : Range) (own others : ℕ) → IsRanked k → r.to ≤ count_of k → other.to ≤ count_of k → own ≡ others → AreLeastBeyond k r other own others → IsNoLater (side_of k r) (side_of k other)
come_together k r other own others ranked fits other_fits same are = elim are.own_there [
  | inl e ↦
      subst (λ l. IsNoLater (side_of k r) l)
      (filter-same (has (elements_at k.ranges.order.items r)) (has (elements_at k.ranges.order.items other)) (count_of k) 1
      (λ v a b. alike k r other own others v ranked are a (omega (arith, b)) (omega (arith, b, e, k.ranges.few)) (omega (arith, b, e, same, k.ranges.few))))
      (no_later_itself (side_of k r))
  | inr w ↦ elim are.others_there [
    | inl e ↦ absurd (omega (arith, e, same, (alone k r other w.0 own ranked fits w.1 w.2).high, k.ranges.few))
    | inr u ↦
        absurd (false≢true (sym (alone k other r u.0 others ranked other_fits u.1 u.2).not_other
        ∙ ap (has (elements_at k.ranges.order.items r)) (sym same) ∙ (alone k r other w.0 own ranked fits w.1 w.2).is))
  ]
]
