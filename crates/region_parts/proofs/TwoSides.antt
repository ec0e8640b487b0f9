-- The chain of a region from the parts that are listed from both sides.
use Rattle.std.proofs.Common.{◌≡◌, ℕ, zero, suc, ◌+◌, ◌-◌, ◌<◌, ◌≤◌, ◌⊎◌, inl, inr, ⊎_elim, true, false, not, ◌&&◌, leb, ltb, List, get_or, refl, sym, ◌∙◌, subst, ap, arith}
use Rattle.std.specs.Prelude.{if◌then◌else◌}
use Rattle.std.proofs.lemmas.Bool.{cases_lt, cases_Bool, eqb-true, eq-eqb, not-true}
use Rattle.std.proofs.lemmas.Bool.Decides.{nat_tests}
use Rattle.cut_definitions.specs.Graph.{Graph}
use Rattle.cut_definitions.specs.Weight.{complement, minus, HasVertex}
use Rattle.cut_definitions.specs.Chain.{SameOn, listed_upto}
use Rattle.cut_definitions.proofs.Bridge.{weight-agree}
use Rattle.cut_definitions.proofs.Bools.{turned, minus_parts, contrary}
use Rattle.cut_definitions.proofs.Numbers.{cases_zero}
use Rattle.region_flow.specs.Parted.{later_parts}
use Rattle.region_flow.specs.Growing.{IsMember, IsPartOf}
use Rattle.region_parts.specs.Regional.{AreTwoSided, two_sided, LawOfTwoSides}
use Rattle.region_parts.proofs.Listings.{in_upto, upto_range, not_upto}
use Rattle.region_parts.proofs.Regional.{not_not}

at_inner : (a b i o w : ℕ) → 1 ≤ a → (if ltb 0 a then i + o + w + 1 - a else (if ltb 0 b then b else o + 1)) ≡ i + o + w + 1 - a
at_inner zero b i o w h = absurd (omega arith)
at_inner (suc a) b i o w h = grind (arith, nat_tests)

at_outer : (a b i o w : ℕ) → a ≡ 0 → 1 ≤ b → (if ltb 0 a then i + o + w + 1 - a else (if ltb 0 b then b else o + 1)) ≡ b
at_outer zero zero i o w e h = absurd (omega arith)
at_outer zero (suc b) i o w e h = grind (arith, nat_tests)
at_outer (suc a) b i o w e h = absurd (omega arith)

at_between : (a b i o w : ℕ) → a ≡ 0 → b ≡ 0 → (if ltb 0 a then i + o + w + 1 - a else (if ltb 0 b then b else o + 1)) ≡ o + 1
at_between zero zero i o w e h = refl
at_between zero (suc b) i o w e h = absurd (omega arith)
at_between (suc a) b i o w e h = absurd (omega arith)

upto_flip : (a k p i : ℕ) → p ≡ k + 1 - a → 1 ≤ a → a ≤ k → i ≤ k → leb i p ≡ (ltb 0 a && leb a (k + 1 - i))
upto_flip a k p i e one le high = grind (arith, nat_tests)

none_upto : (a p i j : ℕ) → a ≡ 0 → p < i → leb i p ≡ (ltb 0 a && leb a j)
none_upto a p i j e h = grind (arith, nat_tests)

rest_upto : (b i : ℕ) → 1 ≤ b → 1 ≤ i → leb i b ≡ not (ltb 0 b && leb b (i - 1))
rest_upto b i one low = grind (arith, nat_tests)

rest_all : (b p i j : ℕ) → b ≡ 0 → i ≤ p → leb i p ≡ not (ltb 0 b && leb b j)
rest_all b p i j e h = grind (arith, nat_tests)

cases_bit : (k : ℕ) → k ≤ 1 → (k ≡ 0) ⊎ (k ≡ 1)
cases_bit zero h = inl refl
cases_bit (suc zero) h = inr refl
cases_bit (suc (suc k)) h = absurd (omega arith)

-- a vertex outside the region is listed from the outside alone, in its first part
record IsOuter (inner outer : ℕ → ℕ) (outers v : ℕ) : Type 0 where
  inside : inner v ≡ 0
  first : 1 ≤ outers → outer v ≡ 1

outer_at : (g : Graph) (labels : List ℕ) (t amount : ℕ) (inner : ℕ → ℕ) (inners : ℕ) (outer : ℕ → ℕ) (outers : ℕ) → AreTwoSided g labels t amount inner inners outer outers →
    (v : ℕ) → ¬ (get_or labels v 0 ≡ get_or labels t 0) → IsOuter inner outer outers v
outer_at g labels t amount inner inners outer outers h v ne = record {
  inside = ⊎_elim
      (λ e. e)
      (λ (one : 1 ≤ inner v).
      let low = h.inner_listed.to_count v in
      let m = h.inner_listed.sets inners (omega (arith, one, low)) (omega arith) in
      absurd (ne (m.around.inside.labelled v (in_upto (inner v) inners one low))))
      (cases_zero (inner v));
  first = λ some.
      let r = h.outer_listed.sets 1 (omega arith) some in
      ⊎_elim
      (λ (yes : listed_upto outer 1 v ≡ true). let k = upto_range (outer v) 1 yes in omega (arith, k.0, k.1))
      (λ (no : listed_upto outer 1 v ≡ false). absurd (ne (r.around.inside.labelled v (ap not no))))
      (cases_Bool (listed_upto outer 1 v));
}

-- the later parts from both sides
record AreLater (n inners outers between : ℕ) (inner outer : ℕ → ℕ) (part : ℕ → ℕ) : Type 0 where
  from_inner : (i : ℕ) → outers + between < i → i ≤ inners + outers + between → SameOn n (later_parts part i) (listed_upto inner (inners + outers + between + 1 - i))
  from_outer : (i : ℕ) → 2 ≤ i → i ≤ outers + between → SameOn n (later_parts part i) (complement (listed_upto outer (i - 1)))

later_at : (g : Graph) (labels : List ℕ) (t amount : ℕ) (inner : ℕ → ℕ) (inners : ℕ) (outer : ℕ → ℕ) (outers between : ℕ) → AreTwoSided g labels t amount inner inners outer outers →
    between ≤ 1 → (between ≡ 0 → (v : ℕ) → 1 ≤ v → v ≤ g.vertices → inner v ≡ 0 → 1 ≤ outer v) →
    AreLater g.vertices inners outers between inner outer (two_sided inner inners outer outers between)
later_at g labels t amount inner inners outer outers between h bit full =
    let k = inners + outers + between in
    let part = two_sided inner inners outer outers between in
    record {
      from_inner = λ i low high v v1 vn.
          let le = h.inner_listed.to_count v in
          let lo = h.outer_listed.to_count v in
          ⊎_elim
          (λ (z : inner v ≡ 0). ⊎_elim
          (λ (b : outer v ≡ 0).
          let p = at_between (inner v) (outer v) inners outers between z b in
          none_upto (inner v) (part v) i (k + 1 - i) z (⊎_elim
          (λ (e : between ≡ 0). absurd (omega (arith, b, full e v v1 vn z)))
          (λ (e : between ≡ 1). omega (arith, p, e, low))
          (cases_bit between bit)))
          (λ (b : 1 ≤ outer v). none_upto (inner v) (part v) i (k + 1 - i) z (let p = at_outer (inner v) (outer v) inners outers between z b in omega (arith, p, lo, low)))
          (cases_zero (outer v)))
          (λ (one : 1 ≤ inner v). upto_flip (inner v) k (part v) i (at_inner (inner v) (outer v) inners outers between one) one (omega (arith, le)) high)
          (cases_zero (inner v));
      from_outer = λ i two high v v1 vn.
          let le = h.inner_listed.to_count v in
          ⊎_elim
          (λ (z : inner v ≡ 0). ⊎_elim
          (λ (b : outer v ≡ 0). rest_all (outer v) (part v) i (i - 1) b (let p = at_between (inner v) (outer v) inners outers between z b in omega (arith, p, high, bit)))
          (λ (b : 1 ≤ outer v).
          let p = at_outer (inner v) (outer v) inners outers between z b in
          subst (λ (q : ℕ). leb i q ≡ not (ltb 0 (outer v) && leb (outer v) (i - 1))) (sym p) (rest_upto (outer v) i b (omega (arith, two))))
          (cases_zero (outer v)))
          (λ (one : 1 ≤ inner v). rest_all (outer v) (part v) i (i - 1) (h.apart v one)
          (let p = at_inner (inner v) (outer v) inners outers between one in omega (arith, p, le, high)))
          (cases_zero (inner v));
    }

pub two_sides : LawOfTwoSides
two_sides g labels t amount inner inners outer outers between at h bit left full none =
    let n = g.vertices in
    let k = inners + outers + between in
    let part = two_sided inner inners outer outers between in
    let later = later_at g labels t amount inner inners outer outers between h bit (λ e. (full e).2) in
    let some_outer : 1 ≤ outers + between = ⊎_elim (λ (e : between ≡ 0). let f = (full e).1 in omega (arith, f)) (λ (e : between ≡ 1). omega (arith, e)) (cases_bit between bit) in
    let outside : (v : ℕ) → ¬ (get_or labels v 0 ≡ get_or labels t 0) → part v ≡ 1 = λ v ne.
    let out = outer_at g labels t amount inner inners outer outers h v ne in
    let lo = h.outer_listed.to_count v in
    ⊎_elim
    (λ (z : outers ≡ 0). at_between (inner v) (outer v) inners outers between out.inside (omega (arith, lo, z)) ∙ omega (arith, z))
    (λ (one : 1 ≤ outers). let f = out.first one in at_outer (inner v) (outer v) inners outers between out.inside (omega (arith, f)) ∙ f)
    (cases_zero outers) in
    record {
      numbered = record {
        s_from_one = omega arith;
        s_to_n = omega (arith, at.from_one, at.to_n);
        t_from_one = at.from_one;
        t_to_n = at.to_n;
        two = ⊎_elim (λ (e : between ≡ 0). let f = full e in omega (arith, f.0, f.1)) (λ (e : between ≡ 1). omega (arith, e, h.some)) (cases_bit between bit);
        from_one = λ v a b.
            let le = h.inner_listed.to_count v in
            ⊎_elim
            (λ (z : inner v ≡ 0). ⊎_elim
            (λ (y : outer v ≡ 0). let p = at_between (inner v) (outer v) inners outers between z y in omega (arith, p))
            (λ (y : 1 ≤ outer v). let p = at_outer (inner v) (outer v) inners outers between z y in omega (arith, p, y))
            (cases_zero (outer v)))
            (λ (one : 1 ≤ inner v). let p = at_inner (inner v) (outer v) inners outers between one in omega (arith, p, le))
            (cases_zero (inner v));
        to_count = λ v a b.
            let lo = h.outer_listed.to_count v in
            ⊎_elim
            (λ (z : inner v ≡ 0). ⊎_elim
            (λ (y : outer v ≡ 0).
            let p = at_between (inner v) (outer v) inners outers between z y in
            ⊎_elim (λ (e : between ≡ 0). absurd (omega (arith, y, (full e).2 v a b z))) (λ (e : between ≡ 1). omega (arith, p, e)) (cases_bit between bit))
            (λ (y : 1 ≤ outer v). let p = at_outer (inner v) (outer v) inners outers between z y in omega (arith, p, lo))
            (cases_zero (outer v)))
            (λ (one : 1 ≤ inner v). let p = at_inner (inner v) (outer v) inners outers between one in omega (arith, p, one))
            (cases_zero (inner v));
        s_first = outside 1 (λ e. absurd (omega (arith, e, at.root, at.in_region)));
        t_last = ⊎_elim
            (λ (z : inners ≡ 0).
            let lt = h.inner_listed.to_count t in
            let some = h.some in
            let r = h.outer_listed.sets outers (omega (arith, z, some)) (omega arith) in
            let y = not_upto (outer t) outers (h.outer_listed.to_count t) (not-true (listed_upto outer outers t) r.around.there) in
            let p = at_between (inner t) (outer t) inners outers between (omega (arith, lt, z)) y in
            ⊎_elim (λ (e : between ≡ 0). absurd (omega (arith, z, (full e).0))) (λ (e : between ≡ 1). omega (arith, p, e, z)) (cases_bit between bit))
            (λ (one : 1 ≤ inners).
            let m = h.inner_listed.sets 1 (omega arith) one in
            let r = upto_range (inner t) 1 m.around.there in
            let p = at_inner (inner t) (outer t) inners outers between r.0 in
            omega (arith, p, r.0, r.1))
            (cases_zero inners);
        none_empty = λ i low high. ⊎_elim
            (λ (far : outers + between < i).
            let w = h.inner_listed.none_empty (k + 1 - i) (omega (arith, high)) (omega (arith, far)) in
            let is : inner w.vertex ≡ k + 1 - i = eqb-true (inner w.vertex) (k + 1 - i) w.is_in in
            let p = at_inner (inner w.vertex) (outer w.vertex) inners outers between (omega (arith, is, high)) in
            record { vertex = w.vertex; from_one = w.from_one; to_n = w.to_n; is_in = eq-eqb (part w.vertex) i (omega (arith, p, is, high, low)) })
            (λ (near : i ≤ outers + between). ⊎_elim
            (λ (mid : outers < i).
            let l = left (omega (arith, bit, mid, near)) in
            let p = at_between (inner l.0) (outer l.0) inners outers between l.3 l.4 in
            record { vertex = l.0; from_one = l.1; to_n = l.2; is_in = eq-eqb (part l.0) i (omega (arith, p, mid, near, bit)) })
            (λ (low_part : i ≤ outers).
            let w = h.outer_listed.none_empty i low low_part in
            let is : outer w.vertex ≡ i = eqb-true (outer w.vertex) i w.is_in in
            let z : inner w.vertex ≡ 0 = ⊎_elim (λ e. e) (λ (one : 1 ≤ inner w.vertex). absurd (omega (arith, is, low, h.apart w.vertex one))) (cases_zero (inner w.vertex)) in
            record { vertex = w.vertex; from_one = w.from_one; to_n = w.to_n; is_in = eq-eqb (part w.vertex) i (at_outer (inner w.vertex) (outer w.vertex) inners outers between z (omega (arith, is, low)) ∙ is) })
            (cases_lt outers i))
            (cases_lt (outers + between) i);
      };
      outside = λ v a b ne. outside v ne;
      light = λ i two high. ⊎_elim
          (λ (far : outers + between < i).
          weight-agree g at.is_graph (later_parts part i) (listed_upto inner (k + 1 - i)) (later.from_inner i far high) ∙ (h.inner_listed.sets (k + 1 - i) (omega (arith, high)) (omega (arith, far))).weighs)
          (λ (near : i ≤ outers + between).
          weight-agree g at.is_graph (later_parts part i) (complement (listed_upto outer (i - 1))) (later.from_outer i two near) ∙ (h.outer_listed.sets (i - 1) (omega (arith, two)) (omega (arith, near, bit))).weighs)
          (cases_lt (outers + between) i);
      no_other = λ x around weighs.
          let mx : IsMember g labels t amount x = record { around = around; weighs = weighs } in
          ⊎_elim
          (λ (c : (j : ℕ) × (1 ≤ j) × (j ≤ inners) × SameOn n x (listed_upto inner j)).
          let i = k + 1 - c.0 in
          let back : k + 1 - i ≡ c.0 = omega (arith, c.1, c.2) in
          record {
            first = i;
            from_two = omega (arith, c.2, some_outer);
            to_count = omega (arith, c.1);
            same = λ v a b. c.3 v a b ∙ sym (subst (λ (q : ℕ). later_parts part i v ≡ listed_upto inner q v) back (later.from_inner i (omega (arith, c.1, c.2)) (omega (arith, c.1)) v a b));
          })
          (λ (c : IsPartOf (listed_upto inner inners) x × HasVertex n (minus x (listed_upto inner inners))). ⊎_elim
          (λ (d : (j : ℕ) × (1 ≤ j) × (j ≤ outers) × SameOn n (complement x) (listed_upto outer j)).
          let i = d.0 + 1 in
          let back : i - 1 ≡ d.0 = omega arith in
          ⊎_elim
          (λ (far : outers + between < i).
          let w = c.1 in
          let p = minus_parts (x w.vertex) (listed_upto inner inners w.vertex) w.is_in in
          let z = not_upto (inner w.vertex) inners (h.inner_listed.to_count w.vertex) p.1 in
          let e : between ≡ 0 = omega (arith, far, d.2) in
          let one = (full e).2 w.vertex w.from_one w.to_n z in
          let there = in_upto (outer w.vertex) d.0 one (let lo = h.outer_listed.to_count w.vertex in omega (arith, lo, far, e)) in
          absurd (contrary p.0 (not-true (x w.vertex) (d.3 w.vertex w.from_one w.to_n ∙ there))))
          (λ (near : i ≤ outers + between).
          record {
            first = i;
            from_two = omega (arith, d.1);
            to_count = omega (arith, near);
            same = λ v a b. turned (x v) (listed_upto outer d.0 v) (d.3 v a b)
                ∙ sym (subst (λ (q : ℕ). later_parts part i v ≡ not (listed_upto outer q v)) back (later.from_outer i (omega (arith, d.1)) near v a b));
          })
          (cases_lt (outers + between) i))
          (λ (d : IsPartOf (listed_upto outer outers) (complement x) × HasVertex n (minus (complement x) (listed_upto outer outers))). absurd (none x mx c.0 c.1 d.0 d.1))
          (h.outer_listed.no_other (complement x) (subst (IsMember g labels t amount) (sym (not_not x)) mx)))
          (h.inner_listed.no_other x mx);
    }
