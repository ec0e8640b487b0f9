-- What searches from both sides of a region show.
use Rattle.std.proofs.Common.{◌≡◌, ℕ, ◌<◌, ◌≤◌, ◌⊎◌, inl, inr, ⊎_elim, Bool, true, false, ◌&&◌, eqb, leb, ltb, List, get_or, refl, sym, ◌∙◌, subst, ap, arith}
use Rattle.std.proofs.Math.Path.{fun_ext}
use Rattle.std.specs.Prelude.{◌≢◌, ◌==◌, if◌then◌else◌}
use Rattle.std.proofs.lemmas.Bool.{cases_eq, cases_Bool, eqb-true, eq-eqb, ne_eqb, not-true, not_from_false}
use Rattle.std.proofs.lemmas.Bool.Decides.{nat_tests}
use Rattle.cut_definitions.specs.Graph.{Graph}
use Rattle.cut_definitions.specs.Weight.{VertexSet, weight, complement, minus, HasVertex, IsCut}
use Rattle.cut_definitions.specs.Chain.{IsWithin, listed_upto}
use Rattle.cut_definitions.proofs.ChainLaws.{IsPair-joined}
use Rattle.cut_definitions.proofs.Vertices.{within_or_minus}
use Rattle.cut_definitions.proofs.Numbers.{upto_none}
use Rattle.cut_definitions.proofs.Bools.{same_tests, contrary}
use Rattle.arc_search.specs.Closed.{IsClosed}
use Rattle.region_flow.specs.Growing.{IsMember, IsPartOf}
use Rattle.region_parts.specs.Regional.{IsAtBorder, IsRest}
use Rattle.region_parts.specs.Taking.{IsSearched, IsFedIn, with_outside, LawOfFirstInner, LawOfFirstOuter, LawOfFurtherInner, LawOfFurtherOuter, LawOfBringing, LawOfBrought, LawOfComing, LawOfNoMember}
use Rattle.region_parts.proofs.Listings.{in_upto, upto_range, listed_after}
use Rattle.region_parts.proofs.Regional.{not_not, nested_sides}

-- a set of the region that no step against the arcs leaves leaves out only what steps along the arcs do not lead into it from
pub closed_out : (g : Graph) (labels feed : List ℕ) (t amount : ℕ) (against along : ℕ → ℕ → Bool) → IsSearched g labels feed t amount against along →
    (x : VertexSet) → IsMember g labels t amount x → IsClosed along (complement x)
closed_out g labels feed t amount against along s x mx u v step out = ⊎_elim
    (λ (h : x v ≡ true). absurd (contrary (s.closed_sets.closed x mx v u ((s.opposite v u).1 step) h) (not-true (x u) out)))
    (λ (h : x v ≡ false). not_from_false (x v) h)
    (cases_Bool (x v))

upto_one : (k : ℕ) (b : Bool) → k ≡ (if b then 1 else 0) → b ≡ (ltb 0 k && leb k 1)
upto_one k true h = grind (arith, nat_tests)
upto_one k false h = grind (arith, nat_tests)

to_one : (k : ℕ) (b : Bool) → k ≡ (if b then 1 else 0) → k ≤ 1
to_one k true h = omega arith
to_one k false h = omega arith

one_is : (k j : ℕ) (b : Bool) → k ≡ (if b then 1 else 0) → b ≡ true → 1 ≤ j → j ≤ 1 → eqb k j ≡ true
one_is k j true h e low high = grind (arith, nat_tests)
one_is k j false h e low high = cc

pub first_inner : LawOfFirstInner
first_inner g labels feed t amount against along s found h inner is =
    let n = g.vertices in
    let at = s.at_border in
    let same : listed_upto inner 1 ≡ found = fun_ext (λ v. sym (upto_one (inner v) (found v) (is v))) in
    let m : IsMember g labels t amount found = s.closed_sets.member found (record { there = h.has_t; inside = record { outside = at.in_region; labelled = h.inside } }) h.dry h.closed in
    record {
      to_count = λ v. to_one (inner v) (found v) (is v);
      none_empty = λ j low high. record { vertex = t; from_one = at.from_one; to_n = at.to_n; is_in = one_is (inner t) j (found t) (is t) h.has_t low high };
      sets = λ j low high. let e : 1 ≡ j = omega arith in subst (λ (k : ℕ). IsMember g labels t amount (listed_upto inner k)) e (subst (IsMember g labels t amount) (sym same) m);
      no_other = λ x mx.
          let all : IsPartOf (listed_upto inner 1) x = subst (λ (q : VertexSet). IsPartOf q x) (sym same) (λ v k. h.least x (s.closed_sets.closed x mx) mx.around.there v k) in
          ⊎_elim
          (λ (w : IsWithin n x (listed_upto inner 1)). inl (1, omega arith, omega arith, λ v a b. same_tests (x v) (listed_upto inner 1 v) (w v a b) (all v)))
          (λ (w : HasVertex n (minus x (listed_upto inner 1))). inr (all, w))
          (within_or_minus n x (listed_upto inner 1));
    }

-- the turn of a vertex that has one by its region
inside_turn : (labels : List ℕ) (r v a b c : ℕ) → a ≡ (if get_or labels v 0 == r then b else c) → get_or labels v 0 ≡ r → a ≡ b
inside_turn labels r v a b c is e = is ∙ ap (λ (k : Bool). if k then b else c) (eq-eqb (get_or labels v 0) r e)

outside_turn : (labels : List ℕ) (r v a b c : ℕ) → a ≡ (if get_or labels v 0 == r then b else c) → get_or labels v 0 ≢ r → a ≡ c
outside_turn labels r v a b c is ne = is ∙ ap (λ (k : Bool). if k then b else c) (ne_eqb (get_or labels v 0) r ne)

-- vertex 1 is outside the region
one_outside : (g : Graph) (labels : List ℕ) (t amount : ℕ) → IsAtBorder g labels t amount → get_or labels 1 0 ≢ get_or labels t 0
one_outside g labels t amount at e = omega (arith, e, at.root, at.in_region)

-- all but a set that is outside and closed along the arcs, with the fed vertices and without t, is a member
pub rest_of : (g : Graph) (labels feed : List ℕ) (t amount : ℕ) (against along : ℕ → ℕ → Bool) → IsSearched g labels feed t amount against along →
    (e : VertexSet) → e t ≡ false → ((v : ℕ) → get_or labels v 0 ≢ get_or labels t 0 → e v ≡ true) → ((v : ℕ) → IsFedIn labels feed t v → e v ≡ true) →
    ((u v : ℕ) → get_or labels u 0 ≡ get_or labels t 0 → along u v ≡ true → e u ≡ true → e v ≡ true) → IsRest g labels t amount e
rest_of g labels feed t amount against along s e no_t outside fed closed =
    let inside : (v : ℕ) → complement e v ≡ true → get_or labels v 0 ≡ get_or labels t 0 = λ v h. ⊎_elim
    (λ k. k)
    (λ (ne : get_or labels v 0 ≢ get_or labels t 0). absurd (contrary (outside v ne) (not-true (e v) h)))
    (cases_eq (get_or labels v 0) (get_or labels t 0)) in
    s.closed_sets.member (complement e) (record { there = not_from_false (e t) no_t; inside = record { outside = s.at_border.in_region; labelled = inside } })
    (λ v h ne. ⊎_elim
    (λ (z : get_or feed v 0 ≡ 0). z)
    (λ nz. absurd (contrary (fed v (record { inside = inside v h; other = ne; fed = omega (arith, nz) })) (not-true (e v) h)))
    (cases_eq (get_or feed v 0) 0))
    (λ u v step h. ⊎_elim
    (λ (k : e v ≡ true).
    let back = (s.opposite u v).0 step in
    absurd (contrary (closed v u (s.same_region v u back ∙ inside u h) back k) (not-true (e u) h)))
    (λ (k : e v ≡ false). not_from_false (e v) k)
    (cases_Bool (e v)))

pub first_outer : LawOfFirstOuter
first_outer g labels feed t amount against along s found h outer is =
    let n = g.vertices in
    let at = s.at_border in
    let r = get_or labels t 0 in
    let e = listed_upto outer 1 in
    let in_region : (v : ℕ) → get_or labels v 0 ≡ r → found v ≡ e v = λ v k. upto_one (outer v) (found v) (inside_turn labels r v (outer v) (if found v then 1 else 0) 1 (is v) k) in
    let out_region : (v : ℕ) → get_or labels v 0 ≢ r → outer v ≡ 1 = λ v ne. outside_turn labels r v (outer v) (if found v then 1 else 0) 1 (is v) ne in
    let out_listed : (v : ℕ) → get_or labels v 0 ≢ r → e v ≡ true = λ v ne. let o = out_region v ne in in_upto (outer v) 1 (omega (arith, o)) (omega (arith, o)) in
    let rest : IsRest g labels t amount e = rest_of g labels feed t amount against along s e (sym (in_region t refl) ∙ h.lacks_t) out_listed
    (λ v k. sym (in_region v k.inside) ∙ h.all_fed v k)
    (λ u v k step z. sym (in_region v (sym (s.same_region u v step) ∙ k)) ∙ h.closed u v step (in_region u k ∙ z)) in
    record {
      to_count = λ v. ⊎_elim
          (λ (k : get_or labels v 0 ≡ r). to_one (outer v) (found v) (inside_turn labels r v (outer v) (if found v then 1 else 0) 1 (is v) k))
          (λ (ne : get_or labels v 0 ≢ r). let o = out_region v ne in omega (arith, o))
          (cases_eq (get_or labels v 0) r);
      none_empty = λ j low high. record {
        vertex = 1;
        from_one = omega arith;
        to_n = omega (arith, at.from_one, at.to_n);
        is_in = let o = out_region 1 (one_outside g labels t amount at) in eq-eqb (outer 1) j (omega (arith, o, low, high));
      };
      sets = λ j low high. let k : 1 ≡ j = omega arith in subst (λ (i : ℕ). IsRest g labels t amount (listed_upto outer i)) k rest;
      no_other = λ x rx.
          let out : (v : ℕ) → x v ≡ false → get_or labels v 0 ≡ r = λ v k. rx.around.inside.labelled v (not_from_false (x v) k) in
          let along_x : IsClosed along x = subst (IsClosed along) (not_not x) (closed_out g labels feed t amount against along s (complement x) rx) in
          let fed_x : (v : ℕ) → IsFedIn labels feed t v → x v ≡ true = λ v k. ⊎_elim
          (λ (z : x v ≡ true). z)
          (λ (z : x v ≡ false). let d = s.closed_sets.dry (complement x) rx v (not_from_false (x v) z) k.other in absurd (omega (arith, d, k.fed)))
          (cases_Bool (x v)) in
          let all : IsPartOf e x = λ v k. ⊎_elim
          (λ (z : x v ≡ true). z)
          (λ (z : x v ≡ false). h.least x along_x fed_x v (in_region v (out v z) ∙ k))
          (cases_Bool (x v)) in
          ⊎_elim
          (λ (w : IsWithin n x e). inl (1, omega arith, omega arith, λ v a b. same_tests (x v) (e v) (w v a b) (all v)))
          (λ (w : HasVertex n (minus x e)). inr (all, w))
          (within_or_minus n x e);
    }

-- a further part, or one of those before
old_or_new : (old new count j : ℕ) → (1 ≤ old → new ≡ old) → (old ≡ 0 → 1 ≤ new → count < new) → (ltb 0 new && leb new j) ≡ true → ((ltb 0 old && leb old j) ≡ true) ⊎ (count < new)
old_or_new old new count j kept after h =
    let r = upto_range new j h in
    ⊎_elim
    (λ (z : old ≡ 0). inr (after z r.0))
    (λ nz. let k = kept (omega (arith, nz)) in inl (in_upto old j (omega (arith, nz)) (omega (arith, k, r.1))))
    (cases_eq old 0)

pub further_inner : LawOfFurtherInner
further_inner g labels feed t amount against along s old new count last some was h region dry =
    let n = g.vertices in
    let kind = IsMember g labels t amount in
    let old_set = was.sets count some (omega arith) in
    let old_in : (v : ℕ) → 1 ≤ old v → listed_upto old count v ≡ true = λ v one. in_upto (old v) count one (was.to_count v) in
    let t_one : 1 ≤ old t = (upto_range (old t) count old_set.around.there).0 in
    listed_after n kind old new count last (nested_sides g labels t amount s.at_border).0 was (record {
      more = h.more;
      kept = h.kept;
      after = h.after;
      to_last = h.to_last;
      within = h.within;
      none_empty = h.none_empty;
      sets = λ j low high.
          let among : (v : ℕ) → listed_upto new j v ≡ true → (listed_upto old count v ≡ true) ⊎ (count < new v) = λ v k. ⊎_elim
          (λ z. inl (old_in v (upto_range (old v) j z).0))
          (λ z. inr z)
          (old_or_new (old v) (new v) count j (h.kept v) (h.after v) k) in
          s.closed_sets.member (listed_upto new j)
          (record {
            there = let k = h.kept t t_one in let c = was.to_count t in in_upto (new t) j (omega (arith, k, t_one)) (omega (arith, k, c, low));
            inside = record { outside = s.at_border.in_region; labelled = λ v k. ⊎_elim (λ z. old_set.around.inside.labelled v z) (λ z. region v z) (among v k) };
          })
          (λ v k ne. ⊎_elim (λ z. s.closed_sets.dry (listed_upto old count) old_set v z ne) (λ z. dry v z) (among v k))
          (h.closed j low high);
      whole = λ x mx u v l e k. h.whole x (s.closed_sets.closed x mx) u v l e k;
    })

pub further_outer : LawOfFurtherOuter
further_outer g labels feed t amount against along s old new count last some was h region no_t =
    let n = g.vertices in
    let r = get_or labels t 0 in
    let kind = IsRest g labels t amount in
    let o = with_outside labels r old in
    let w = with_outside labels r new in
    let at_in : (f : ℕ → ℕ) (v : ℕ) → get_or labels v 0 ≡ r → with_outside labels r f v ≡ f v = λ f v k. inside_turn labels r v (with_outside labels r f v) (f v) 1 refl k in
    let at_out : (f : ℕ → ℕ) (v : ℕ) → get_or labels v 0 ≢ r → with_outside labels r f v ≡ 1 = λ f v ne. outside_turn labels r v (with_outside labels r f v) (f v) 1 refl ne in
    let old_set = was.sets count some (omega arith) in
    let past : (v : ℕ) → count < w v → count < new v = λ v l. ⊎_elim
    (λ (k : get_or labels v 0 ≡ r). let e = at_in new v k in omega (arith, e, l))
    (λ (ne : get_or labels v 0 ≢ r). let e = at_out new v ne in absurd (omega (arith, e, l, some)))
    (cases_eq (get_or labels v 0) r) in
    let past_in : (v : ℕ) → count < new v → w v ≡ new v = λ v l. at_in new v (region v l) in
    listed_after n kind o w count last (nested_sides g labels t amount s.at_border).1 was (record {
      more = h.more;
      kept = λ v one. ⊎_elim
          (λ (k : get_or labels v 0 ≡ r). let a = at_in old v k in at_in new v k ∙ h.kept v (omega (arith, a, one)) ∙ sym a)
          (λ (ne : get_or labels v 0 ≢ r). at_out new v ne ∙ sym (at_out old v ne))
          (cases_eq (get_or labels v 0) r);
      after = λ v z one. ⊎_elim
          (λ (k : get_or labels v 0 ≡ r). let a = at_in old v k in let b = at_in new v k in let l = h.after v (omega (arith, a, z)) (omega (arith, b, one)) in omega (arith, b, l))
          (λ (ne : get_or labels v 0 ≢ r). let a = at_out old v ne in absurd (omega (arith, a, z)))
          (cases_eq (get_or labels v 0) r);
      to_last = λ v. ⊎_elim
          (λ (k : get_or labels v 0 ≡ r). let b = at_in new v k in let l = h.to_last v in omega (arith, b, l))
          (λ (ne : get_or labels v 0 ≢ r). let b = at_out new v ne in omega (arith, b, h.more, some))
          (cases_eq (get_or labels v 0) r);
      within = λ v l. h.within v (past v l);
      none_empty = λ j low high.
          let x = h.none_empty j low high in
          let is : new x.vertex ≡ j = eqb-true (new x.vertex) j x.is_in in
          record { vertex = x.vertex; from_one = x.from_one; to_n = x.to_n; is_in = eq-eqb (w x.vertex) j (past_in x.vertex (omega (arith, is, low)) ∙ is) };
      sets = λ j low high.
          let e = listed_upto w j in
          rest_of g labels feed t amount against along s e
          (let a = at_in new t refl in upto_none (w t) j (a ∙ no_t))
          (λ v ne. let a = at_out new v ne in in_upto (w v) j (omega (arith, a)) (omega (arith, a, low, some)))
          (λ v k.
          let a = at_in old v k.inside in
          ⊎_elim
          (λ (z : listed_upto o count v ≡ true).
          let q = upto_range (o v) count z in
          let b = at_in new v k.inside in
          let c = h.kept v (omega (arith, a, q.0)) in
          in_upto (w v) j (omega (arith, a, b, c, q.0)) (omega (arith, a, b, c, q.1, low)))
          (λ (z : listed_upto o count v ≡ false).
          let d = s.closed_sets.dry (complement (listed_upto o count)) old_set v (not_from_false (listed_upto o count v) z) k.other in absurd (omega (arith, d, k.fed)))
          (cases_Bool (listed_upto o count v)))
          (λ u v k step z.
          let a = at_in new u k in
          let b = at_in new v (sym (s.same_region u v step) ∙ k) in
          let q = upto_range (w u) j z in
          let there = upto_range (new v) j (h.closed j low high u v step (in_upto (new u) j (omega (arith, a, q.0)) (omega (arith, a, q.1)))) in
          in_upto (w v) j (omega (arith, b, there.0)) (omega (arith, b, there.1)));
      whole = λ x rx u v l e k.
          let lu = past u l in
          let eu = past_in u lu in
          let lv : count < new v = past v (omega (arith, e, l)) in
          let ev = past_in v lv in
          let along_x : IsClosed along x = subst (IsClosed along) (not_not x) (closed_out g labels feed t amount against along s (complement x) rx) in
          h.whole x along_x u v lu (sym ev ∙ e ∙ eu) k;
    })

pub bringing : LawOfBringing
bringing g labels feed t amount against along s hub last v brings leads x mx k = brings x mx (leads x (s.closed_sets.closed x mx) k)

pub brought : LawOfBrought
brought g labels feed t amount against along s hub v = (
  λ ne fed x mx k. let d = s.closed_sets.dry x mx v k ne in absurd (omega (arith, d, fed)),
  λ leads x mx k. ⊎_elim
      (λ (h : x hub ≡ true). h)
      (λ (h : x hub ≡ false). absurd (contrary k (not-true (x v) (leads (complement x) (closed_out g labels feed t amount against along s x mx) (not_from_false (x hub) h)))))
      (cases_Bool (x hub)),
  λ leads x mx k. absurd (contrary k (not-true (x v) (leads (complement x) (closed_out g labels feed t amount against along s x mx)
      (λ u fed. ⊎_elim
      (λ (h : x u ≡ true). let d = s.closed_sets.dry x mx u h fed.other in absurd (omega (arith, d, fed.fed)))
      (λ (h : x u ≡ false). not_from_false (x u) h)
      (cases_Bool (x u)))))),
)

pub coming : LawOfComing
coming g labels feed t amount against along s hub v = (
  λ last comes leads x mx k. ⊎_elim
      (λ (h : x v ≡ true). h)
      (λ (h : x v ≡ false). absurd (contrary (comes x mx k) (not-true (x last) (leads (complement x) (closed_out g labels feed t amount against along s x mx) (not_from_false (x v) h)))))
      (cases_Bool (x v)),
  λ leads x mx k. leads x (s.closed_sets.closed x mx) k,
)

pub no_member : LawOfNoMember
no_member g labels feed t amount hub against along s ne brings x around =
    let at = s.at_border in
    let pair = IsPair-joined g at.outer t at.is_graph at.joined in
    let out : x at.outer ≡ false = ⊎_elim (λ (h : x at.outer ≡ true). absurd (at.apart (around.inside.labelled at.outer h))) (λ (h : x at.outer ≡ false). h) (cases_Bool (x at.outer)) in
    let cut : IsCut g.vertices x = record {
      some_in = record { vertex = t; from_one = at.from_one; to_n = at.to_n; is_in = around.there };
      some_out = record { vertex = at.outer; from_one = pair.s_from_one; to_n = pair.s_to_n; is_in = not_from_false (x at.outer) out };
    } in
    let least = at.is_minimum.least x cut in
    ⊎_elim
    (λ (e : weight g x ≡ amount).
    let mx : IsMember g labels t amount x = record { around = around; weighs = e } in
    absurd (ne (around.inside.labelled hub (brings x mx around.there))))
    (λ d. omega (arith, d, least, at.weighs))
    (cases_eq (weight g x) amount)
