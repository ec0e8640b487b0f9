-- Nested sets of one kind by their parts, with further parts.
use Rattle.std.proofs.Common.{◌≡◌, ℕ, zero, suc, ◌+◌, ◌-◌, ◌<◌, ◌≤◌, ◌⊎◌, inl, inr, ⊎_elim, true, false, ◌&&◌, leb, ltb, sym, ◌∙◌, subst, ap, arith}
use Rattle.std.proofs.Math.Path.{fun_ext}
use Rattle.std.proofs.lemmas.Bool.{cases_eq, eqb-true, eq-eqb}
use Rattle.std.proofs.lemmas.Bool.Decides.{nat_tests}
use Rattle.cut_definitions.specs.Weight.{VertexSet, minus, HasVertex}
use Rattle.cut_definitions.specs.Chain.{IsWithin, SameOn, listed_upto}
use Rattle.cut_definitions.proofs.Vertices.{within_or_minus}
use Rattle.cut_definitions.proofs.Bools.{minus_parts, same_tests}
use Rattle.cut_definitions.proofs.Numbers.{cases_le}
use Rattle.region_flow.specs.Growing.{IsPartOf}
use Rattle.region_parts.specs.Sides.{IsNested, IsListed, IsListedAfter}

upto_zero : (k o j : ℕ) → k ≡ 0 → o ≡ 0 → (ltb 0 k && leb k j) ≡ (ltb 0 o && leb o j)
upto_zero k o j h e = ap (λ (i : ℕ). ltb 0 i && leb i j) (h ∙ sym e)

upto_out : (k o j : ℕ) → j < k → o ≡ 0 → (ltb 0 k && leb k j) ≡ (ltb 0 o && leb o j)
upto_out k o j h e = grind (arith, nat_tests)

same_upto : (k o j : ℕ) → (1 ≤ o → k ≡ o) → (o ≡ 0 → 1 ≤ k → j < k) → (ltb 0 k && leb k j) ≡ (ltb 0 o && leb o j)
same_upto k o j kept after = ⊎_elim
    (λ (e : o ≡ 0). ⊎_elim
    (λ (z : k ≡ 0). upto_zero k o j z e)
    (λ nz. upto_out k o j (after e (omega (arith, nz))) e)
    (cases_eq k 0))
    (λ ne. ap (λ (i : ℕ). ltb 0 i && leb i j) (kept (omega (arith, ne))))
    (cases_eq o 0)

pub upto_next : (k j : ℕ) → (ltb 0 k && leb k (j + 1)) ≡ true → (ltb 0 k && leb k j) ≡ false → k ≡ j + 1
upto_next k j h n = grind (arith, nat_tests)

pub in_upto : (k j : ℕ) → 1 ≤ k → k ≤ j → (ltb 0 k && leb k j) ≡ true
in_upto k j h l = grind (arith, nat_tests)

pub upto_range : (k j : ℕ) → (ltb 0 k && leb k j) ≡ true → (1 ≤ k) × (k ≤ j)
upto_range k j h = grind (arith, nat_tests)

pub not_upto : (k j : ℕ) → k ≤ j → (ltb 0 k && leb k j) ≡ false → k ≡ 0
not_upto k j h l = grind (arith, nat_tests)

abbrev pub IsOneOf : (n : ℕ) (turn : ℕ → ℕ) (last : ℕ) (x : VertexSet) → Type 0
IsOneOf n turn last x = ((j : ℕ) × (1 ≤ j) × (j ≤ last) × SameOn n x (listed_upto turn j)) ⊎ (IsPartOf (listed_upto turn last) x × HasVertex n (minus x (listed_upto turn last)))

-- a set of the kind that has all parts up to one, and more, is found among those after
among : (n : ℕ) (kind : VertexSet → Type 0) (old new : ℕ → ℕ) (count last : ℕ) → IsNested n kind → IsListedAfter n kind old new count last →
    (x : VertexSet) → kind x → (m i : ℕ) → i + m ≡ last → count ≤ i → IsPartOf (listed_upto new i) x → HasVertex n (minus x (listed_upto new i)) → IsOneOf n new last x
among n kind old new count last nested h x kx zero i e low all more =
    let same : i ≡ last = omega arith in
    subst (λ (k : ℕ). IsPartOf (listed_upto new k) x × HasVertex n (minus x (listed_upto new k)) → IsOneOf n new last x) (sym same) (λ p. inr p) (all, more)
among n kind old new count last nested h x kx (suc m) i e low all more =
    let s = listed_upto new (i + 1) in
    let top = h.sets (i + 1) (omega arith) (omega arith) in
    let spread : IsWithin n s x → IsPartOf s x = λ w v k.
    let r = upto_range (new v) (i + 1) k in
    ⊎_elim
    (λ (l : new v ≤ i). all v (in_upto (new v) i r.0 l))
    (λ (l : i < new v). let b = h.within v (omega (arith, l, low)) in w v b.0 b.1 k)
    (cases_le (new v) i) in
    let here : IsWithin n x s → IsWithin n s x → IsOneOf n new last x = λ w z. inl (i + 1, omega arith, omega arith, λ v a b. same_tests (x v) (s v) (w v a b) (z v a b)) in
    ⊎_elim
    (λ (w : IsWithin n x s).
    let p = minus_parts (x more.vertex) (listed_upto new i more.vertex) more.is_in in
    let there : new more.vertex ≡ i + 1 = upto_next (new more.vertex) i (w more.vertex more.from_one more.to_n p.0) p.1 in
    here w (λ v a b k.
    let r = upto_range (new v) (i + 1) k in
    ⊎_elim
    (λ (l : new v ≤ i). all v (in_upto (new v) i r.0 l))
    (λ (l : i < new v). h.whole x kx more.vertex v (omega (arith, there, low)) (omega (arith, there, l, r.1)) p.0)
    (cases_le (new v) i)))
    (λ (z : IsWithin n s x). ⊎_elim
    (λ (w : IsWithin n x s). here w z)
    (λ (w : HasVertex n (minus x s)). among n kind old new count last nested h x kx m (i + 1) (omega arith) (omega arith) (spread z) w)
    (within_or_minus n x s))
    (nested x s kx top)

-- with further parts the list is one still
pub listed_after : (n : ℕ) (kind : VertexSet → Type 0) (old new : ℕ → ℕ) (count last : ℕ) → IsNested n kind → IsListed n kind old count →
    IsListedAfter n kind old new count last → IsListed n kind new last
listed_after n kind old new count last nested was h =
    let same : (j : ℕ) → j ≤ count → (v : ℕ) → listed_upto new j v ≡ listed_upto old j v =
    λ j le v. same_upto (new v) (old v) j (h.kept v) (λ z one. omega (arith, h.after v z one, le)) in
    let same_set : (j : ℕ) → j ≤ count → listed_upto old j ≡ listed_upto new j = λ j le. fun_ext (λ v. sym (same j le v)) in
    record {
      to_count = h.to_last;
      none_empty = λ j l u. ⊎_elim
          (λ (low : j ≤ count).
          let w = was.none_empty j l low in
          let is : old w.vertex ≡ j = eqb-true (old w.vertex) j w.is_in in
          record { vertex = w.vertex; from_one = w.from_one; to_n = w.to_n; is_in = eq-eqb (new w.vertex) j (h.kept w.vertex (omega (arith, is, l)) ∙ is) })
          (λ (high : count < j). h.none_empty j high u)
          (cases_le j count);
      sets = λ j l u. ⊎_elim
          (λ (low : j ≤ count). subst kind (same_set j low) (was.sets j l low))
          (λ (high : count < j). h.sets j high u)
          (cases_le j count);
      no_other = λ x kx. ⊎_elim
          (λ (k : (j : ℕ) × (1 ≤ j) × (j ≤ count) × SameOn n x (listed_upto old j)).
          inl (k.0, k.1, omega (arith, k.2, h.more), λ v a b. k.3 v a b ∙ sym (same k.0 k.2 v)))
          (λ (k : IsPartOf (listed_upto old count) x × HasVertex n (minus x (listed_upto old count))).
          among n kind old new count last nested h x kx (last - count) count (omega (arith, h.more)) (omega arith)
          (subst (λ (s : VertexSet). IsPartOf s x) (same_set count (omega arith)) k.0)
          (subst (λ (s : VertexSet). HasVertex n (minus x s)) (same_set count (omega arith)) k.1))
          (was.no_other x kx);
    }
