-- Trees of minima: how one is built, and how the least number of a range is found from level to level.
use Rattle.std.proofs.Common.{◌≡◌, ℕ, ◌+◌, ◌-◌, ◌*◌, ◌/◌, ◌<◌, ◌≤◌, ◌⊎◌, inl, inr, List, length, get_or, set, min, refl, sym, subst, ap, ◌∙◌, arith, get_or-set_same, get_or-set_other}
use Rattle.std.specs.Prelude.{◌≢◌}
use Rattle.std.proofs.lemmas.Bool.{cases_eq}
use Rattle.cut_definitions.proofs.Values.{min_cases}
use Rattle.canonical_cactus.specs.Minima.{IsLeast, IsMinTree}
use Rattle.canonical_cactus.specs.declared.minima.Minima.{Minima}

abbrev pub NodeIs : List ℕ → ℕ → Type 0
NodeIs tree i = get_or tree i 0 ≡ min (get_or tree (2 * i) 0) (get_or tree (2 * i + 1) 0)

-- ---- building
-- a node whose number and whose two below stay as they were
node_kept : (tree : List ℕ) (p x i : ℕ) → i ≢ p → 2 * i ≢ p → 2 * i + 1 ≢ p → NodeIs tree i → NodeIs (set tree p x) i
node_kept tree p x i a b c h =
    let here : get_or (set tree p x) i 0 ≡ get_or tree i 0 = get_or-set_other tree p i x 0 a in
    let left : get_or (set tree p x) (2 * i) 0 ≡ get_or tree (2 * i) 0 = get_or-set_other tree p (2 * i) x 0 b in
    let right : get_or (set tree p x) (2 * i + 1) 0 ≡ get_or tree (2 * i + 1) 0 = get_or-set_other tree p (2 * i + 1) x 0 c in
    rw (here, left, right) h

-- a node that is given the smaller of the two below
node_made : (tree : List ℕ) (p : ℕ) → 1 ≤ p → p < length tree → NodeIs (set tree p (min (get_or tree (2 * p) 0) (get_or tree (2 * p + 1) 0))) p
node_made tree p one l =
    let x = min (get_or tree (2 * p) 0) (get_or tree (2 * p + 1) 0) in
    let here : get_or (set tree p x) p 0 ≡ x = get_or-set_same tree p x 0 l in
    let left : get_or (set tree p x) (2 * p) 0 ≡ get_or tree (2 * p) 0 = get_or-set_other tree p (2 * p) x 0 (λ q. omega arith) in
    let right : get_or (set tree p x) (2 * p + 1) 0 ≡ get_or tree (2 * p + 1) 0 = get_or-set_other tree p (2 * p + 1) x 0 (λ q. omega arith) in
    rw (here, left, right) refl

-- ---- from level to level
-- the greatest number of 32 bits, or the number of one of the leaves
abbrev pub IsOneOf : List ℕ → ℕ → ℕ → ℕ → Type 0
IsOneOf tree first last v = (v ≡ 4294967295) ⊎ ((j : ℕ) × (first ≤ j) × (j < last) × (get_or tree j 0 ≡ v))

-- the least of some leaves is the least of a number and of the nodes from one on that are before another
pub record IsClimb (m : Minima) (first last low high least : ℕ) : Type 0 where
  pub some : low < high → 1 ≤ low
  pub inside : high ≤ 2 * m.size
  pub no_less : (x : ℕ) → x ≤ least → ((i : ℕ) → low ≤ i → i < high → x ≤ get_or m.tree.items i 0) → (j : ℕ) → first ≤ j → j < last → x ≤ get_or m.tree.items j 0
  pub one : IsOneOf m.tree.items first last least
  pub nodes : (i : ℕ) → low ≤ i → i < high → IsOneOf m.tree.items first last (get_or m.tree.items i 0)

pub climb_start : (m : Minima) (first last : ℕ) → m.size ≤ first → last ≤ 2 * m.size → IsClimb m first last first last 4294967295
climb_start m first last low high = record {
  some = λ l. omega (arith, l, low, high);
  inside = high;
  no_less = λ x few all j from to. all j from to;
  one = inl refl;
  nodes = λ i from to. inr (i, from, to, refl);
}

-- the smaller of two numbers is one of them
lesser_one : (tree : List ℕ) (first last v w : ℕ) → IsOneOf tree first last v → IsOneOf tree first last w → IsOneOf tree first last (min v w)
lesser_one tree first last v w a b = elim (min_cases v w) [
  | inl e ↦ subst (IsOneOf tree first last) (sym e) a
  | inr e ↦ subst (IsOneOf tree first last) (sym e) b
]

even_or_odd : (i : ℕ) → (i ≡ 2 * (i / 2)) ⊎ (i ≡ 2 * (i / 2) + 1)
even_or_odd i = elim (cases_eq i (2 * (i / 2))) [
  | inl e ↦ inl e
  | inr ne ↦ inr (omega (arith, ne))
]

-- a node above two is no greater than either
above_one : (m : Minima) (i x : ℕ) → IsMinTree m → 2 ≤ i → i < 2 * m.size → x ≤ get_or m.tree.items (i / 2) 0 → x ≤ get_or m.tree.items i 0
above_one m i x tree two few l =
    let is : get_or m.tree.items (i / 2) 0 ≡ min (get_or m.tree.items (2 * (i / 2)) 0) (get_or m.tree.items (2 * (i / 2) + 1) 0) = tree.nodes (i / 2) (omega (arith, two)) (omega (arith, few)) in
    elim (even_or_odd i) [
      | inl e ↦ subst (λ k. x ≤ get_or m.tree.items k 0) (sym e) (omega (arith, is, l))
      | inr e ↦ subst (λ k. x ≤ get_or m.tree.items k 0) (sym e) (omega (arith, is, l))
    ]

-- one level up, after both ends were looked at
pub climb_step : (m : Minima) (first last low high least : ℕ) → IsMinTree m → low < high → IsClimb m first last low high least →
    IsClimb m first last ((low + 1) / 2) (high / 2) (min (min least (get_or m.tree.items low 0)) (get_or m.tree.items (high - 1) 0))
climb_step m first last low high least tree l h =
    let t = m.tree.items in
    let some = h.some l in
    let inside = h.inside in
    record {
      some = λ k. omega (arith, some);
      inside = omega (arith, inside);
      no_less = λ x few all j from to. h.no_less x (omega (arith, few)) (λ i a b. elim (cases_eq i low) [
        | inl e ↦ subst (λ k. x ≤ get_or t k 0) (sym e) (omega (arith, few))
        | inr ne ↦ elim (cases_eq i (high - 1)) [
          | inl e ↦ subst (λ k. x ≤ get_or t k 0) (sym e) (omega (arith, few))
          | inr other ↦ above_one m i x tree (omega (arith, a, ne, some)) (omega (arith, b, inside)) (all (i / 2) (omega (arith, a, ne)) (omega (arith, b, other)))
        ]
      ]) j from to;
      one = lesser_one t first last (min least (get_or t low 0)) (get_or t (high - 1) 0)
          (lesser_one t first last least (get_or t low 0) h.one (h.nodes low (omega arith) l)) (h.nodes (high - 1) (omega (arith, l)) (omega (arith, l)));
      nodes = λ i a b.
          let is : get_or t i 0 ≡ min (get_or t (2 * i) 0) (get_or t (2 * i + 1) 0) = tree.nodes i (omega (arith, a, some)) (omega (arith, b, inside)) in
          subst (IsOneOf t first last) (sym is)
          (lesser_one t first last (get_or t (2 * i) 0) (get_or t (2 * i + 1) 0) (h.nodes (2 * i) (omega (arith, a)) (omega (arith, b))) (h.nodes (2 * i + 1) (omega (arith, a)) (omega (arith, b))));
    }

-- if no node is left the number is the least
pub climb_done : (m : Minima) (from to low high least : ℕ) → high ≤ low → IsClimb m (m.size + from) (m.size + to) low high least → IsLeast m from to least
climb_done m from to low high least past h = record {
  no_less = λ p a b. h.no_less least (omega arith) (λ i c d. absurd (omega (arith, past, c, d))) (m.size + p) (omega (arith, a)) (omega (arith, b));
  there = elim h.one [
    | inl e ↦ inl e
    | inr w ↦
        let back : w.0 ≡ m.size + (w.0 - m.size) = omega (arith, w.1) in
        inr (w.0 - m.size, omega (arith, w.1), omega (arith, w.2), ap (λ k. get_or m.tree.items k 0) (sym back) ∙ w.3)
  ];
}
