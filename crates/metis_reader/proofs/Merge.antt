-- Two ascending lists of edges are merged: what is known of the edges that are passed.
use Rattle.std.proofs.Common.{◌≡◌, ◌≢◌, ◌≤◌, ◌<◌, ◌+◌, ◌⊎◌, ℕ, List, [], ◌∷◌, ◌++◌, take, length, get_or, arith, Option, None, Some, IfNone, IfSome, inl, inr, subst, sym, ap, refl, ◌∙◌}
use Rattle.std.specs.List.{AllPairs, Contains}
use Rattle.std.proofs.lemmas.Bool.{cases_lt}
use Rattle.std.proofs.lemmas.List.{get_or_default}
use Rattle.std.proofs.lemmas.Grind.{common_steps}
use Rattle.cut_definitions.specs.declared.edge_list.Edge.{Edge}
use Rattle.cut_definitions.specs.Graph.{IsBefore}
use Rattle.cut_definitions.proofs.Ascending.{IsBefore-trans, IsBefore-irreflexive, same_edge}
use Rattle.metis_reader.specs.Mates.{LacksAt, IsMatchedAt, IsAtMost, IsLesserOf}
use Rattle.metis_reader.specs.Merging.{ComesFirst, AreMates}

before_same : (c d e : Edge) → IsBefore c d → d.u ≡ e.u → d.v ≡ e.v → IsBefore c e
before_same c d e p q r = grind arith

same_before : (c d e : Edge) → c.u ≡ d.u → c.v ≡ d.v → IsBefore d e → IsBefore c e
same_before c d e q r p = grind arith

abbrev pub Ascends : List Edge → Type 0
Ascends edges = AllPairs IsBefore edges

-- what comes before an edge of an ascending list comes before all later ones
pub first_of_rest : (others : List Edge) (e : Edge) (j k : ℕ) (d : Edge) → Ascends others → IsBefore e (get_or others j d) → j ≤ k → k < length others → IsBefore e (get_or others k d)
first_of_rest others e j k d up p le lt =
    elim (cases_lt j k) [
      | inl before ↦ IsBefore-trans e (get_or others j d) (get_or others k d) p (up j k d before lt)
      | inr not_before ↦ let same : j ≡ k = omega arith in subst (λ k. IsBefore e (get_or others k d)) same p
    ]

pub first_here : (edges others : List Edge) (i j : ℕ) (d : Edge) → Ascends others → i < length edges → j < length others → IsBefore (get_or edges i d) (get_or others j d) → ComesFirst edges i others j
first_here edges others i j d up lt lt' before = record {
  inside = lt;
  first = λ k d' le inside. first_of_rest others (get_or edges i d') j k d' up
      (subst (λ (e : Edge). IsBefore e (get_or others j d')) (get_or_default edges i d d' lt) (subst (λ (e : Edge). IsBefore (get_or edges i d) e) (get_or_default others j d d' lt') before)) le inside;
}

-- an edge that comes after the first j edges and before the rest is none of them
absent : (others : List Edge) (e : Edge) (j : ℕ) → ((k : ℕ) (d : Edge) → k < j → k < length others → IsBefore (get_or others k d) e)
    → ((k : ℕ) (d : Edge) → j ≤ k → k < length others → IsBefore e (get_or others k d)) → Contains others e → ⊥
absent others e j low high h =
    elim (cases_lt h.0 j) [
      | inl before ↦ IsBefore-irreflexive e (subst (λ x. IsBefore x e) h.2 (low h.0 e before h.1))
      | inr behind ↦ IsBefore-irreflexive e (subst (λ x. IsBefore e x) h.2 (high h.0 e behind h.1))
    ]

-- nor is it one if it has the ends of the edge at j and another weight
absent_weight : (others : List Edge) (e : Edge) (j : ℕ) → Ascends others → j < length others → (get_or others j e).u ≡ e.u → (get_or others j e).v ≡ e.v
    → (get_or others j e).w ≢ e.w → Contains others e → ⊥
absent_weight others e j up lt su sv other h =
    elim (cases_lt h.0 j) [
      | inl before ↦ IsBefore-irreflexive e (subst (λ x. IsBefore x e) h.2 (before_same (get_or others h.0 e) (get_or others j e) e (up h.0 j e before lt) su sv))
      | inr behind ↦ elim (cases_lt j h.0) [
        | inl after ↦ IsBefore-irreflexive e (subst (λ x. IsBefore e x) h.2 (same_before e (get_or others j e) (get_or others h.0 e) (sym su) (sym sv) (up j h.0 e after h.1)))
        | inr here ↦
            let same : h.0 ≡ j = omega arith in
            other (ap (λ (x : Edge). x.w) (subst (λ k. get_or others k e ≡ e) same h.2))
      ]
    ]

-- the first i and j edges are passed: those whose vertex is below what was found are in both lists
pub record IsMergedTo (greater lesser : List Edge) (i j : ℕ) (found : Option ℕ) : Type 0 where
  pub i_within : i ≤ length greater
  pub j_within : j ≤ length lesser
  pub greater_first : (k l : ℕ) (d : Edge) → k < i → j ≤ l → l < length lesser → IsBefore (get_or greater k d) (get_or lesser l d)
  pub lesser_first : (k l : ℕ) (d : Edge) → k < j → i ≤ l → l < length greater → IsBefore (get_or lesser k d) (get_or greater l d)
  pub greater_done : (k : ℕ) (d : Edge) → k < i → IsAtMost found (get_or greater k d).u ⊎ Contains lesser (get_or greater k d)
  pub lesser_done : (k : ℕ) (d : Edge) → k < j → IsAtMost found (get_or lesser k d).v ⊎ Contains greater (get_or lesser k d)
  pub lacks : IfSome found (λ x. LacksAt x greater lesser)

weaker : (found lesser : Option ℕ) (vertex x : ℕ) (P : Type 0) → IsLesserOf found vertex lesser → IsAtMost found x ⊎ P → IsAtMost lesser x ⊎ P
weaker found lesser vertex x P is (inl h) = inl (is.found_above x h)
weaker found lesser vertex x P is (inr p) = inr p

lacks_by : (found lesser : Option ℕ) (vertex : ℕ) (P : ℕ → Type 0) → IsLesserOf found vertex lesser → IfSome found P → P vertex → IfSome lesser P
lacks_by found lesser vertex P is old new =
    elim is.either [ inl e ↦ subst (λ o. IfSome o P) (sym e) old | inr e ↦ subst (λ o. IfSome o P) (sym e) new ]

-- below i + 1 is below i or i
below_next : (i k : ℕ) (P : ℕ → Type 0) → ((k : ℕ) → k < i → P k) → P i → k < i + 1 → P k
below_next i k P low here lt =
    elim (cases_lt k i) [ inl l ↦ low k l | inr e ↦ let same : i ≡ k = omega arith in subst P same here ]

contains_at : (edges : List Edge) (i : ℕ) (d e : Edge) → i < length edges → get_or edges i d ≡ e → Contains edges e
contains_at edges i d e lt same = (i, lt, get_or_default edges i e d lt ∙ same)

-- the next edge is in the first list alone
pub merge_greater : (greater lesser : List Edge) (i j vertex : ℕ) (found now : Option ℕ) (d : Edge) → IsMergedTo greater lesser i j found → ComesFirst greater i lesser j
    → vertex ≡ (get_or greater i d).u → IsLesserOf found vertex now → IsMergedTo greater lesser (i + 1) j now
merge_greater greater lesser i j vertex found now d m f v is =
    let e : Edge = get_or greater i d in
    let at : (d' : Edge) → get_or greater i d' ≡ e = λ d'. get_or_default greater i d' d f.inside in
    let missing : Contains lesser e → ⊥ = absent lesser e j
    (λ k d' lt lt'. subst (λ x. IsBefore (get_or lesser k d') x) (at d') (m.lesser_first k i d' lt (omega arith) f.inside))
    (λ k d' le lt. subst (λ x. IsBefore x (get_or lesser k d')) (at d') (f.first k d' le lt)) in
    record {
      i_within = let inside : i < length greater = f.inside in omega arith;
      j_within = m.j_within;
      greater_first = λ k l d' lt le lt'. below_next i k (λ k. IsBefore (get_or greater k d') (get_or lesser l d')) (λ k lt. m.greater_first k l d' lt le lt') (f.first l d' le lt') lt;
      lesser_first = λ k l d' lt le lt'. m.lesser_first k l d' lt (omega arith) lt';
      greater_done = λ k d' lt. below_next i k (λ k. IsAtMost now (get_or greater k d').u ⊎ Contains lesser (get_or greater k d'))
          (λ k lt. weaker found now vertex (get_or greater k d').u (Contains lesser (get_or greater k d')) is (m.greater_done k d' lt))
          (inl (subst (λ (x : ℕ). IsAtMost now x) (v ∙ ap (λ (x : Edge). x.u) (sym (at d'))) is.vertex_above)) lt;
      lesser_done = λ k d' lt. weaker found now vertex (get_or lesser k d').v (Contains greater (get_or lesser k d')) is (m.lesser_done k d' lt);
      lacks = lacks_by found now vertex (λ x. LacksAt x greater lesser) is m.lacks (inl (e, contains_at greater i d e f.inside refl, sym v, missing));
    }

-- the next edge is in the second list alone
pub merge_lesser : (greater lesser : List Edge) (i j vertex : ℕ) (found now : Option ℕ) (d : Edge) → IsMergedTo greater lesser i j found → ComesFirst lesser j greater i
    → vertex ≡ (get_or lesser j d).v → IsLesserOf found vertex now → IsMergedTo greater lesser i (j + 1) now
merge_lesser greater lesser i j vertex found now d m f v is =
    let e : Edge = get_or lesser j d in
    let at : (d' : Edge) → get_or lesser j d' ≡ e = λ d'. get_or_default lesser j d' d f.inside in
    let missing : Contains greater e → ⊥ = absent greater e i
    (λ k d' lt lt'. subst (λ x. IsBefore (get_or greater k d') x) (at d') (m.greater_first k j d' lt (omega arith) f.inside))
    (λ k d' le lt. subst (λ x. IsBefore x (get_or greater k d')) (at d') (f.first k d' le lt)) in
    record {
      i_within = m.i_within;
      j_within = let inside : j < length lesser = f.inside in omega arith;
      greater_first = λ k l d' lt le lt'. m.greater_first k l d' lt (omega arith) lt';
      lesser_first = λ k l d' lt le lt'. below_next j k (λ k. IsBefore (get_or lesser k d') (get_or greater l d')) (λ k lt. m.lesser_first k l d' lt le lt') (f.first l d' le lt') lt;
      greater_done = λ k d' lt. weaker found now vertex (get_or greater k d').u (Contains lesser (get_or greater k d')) is (m.greater_done k d' lt);
      lesser_done = λ k d' lt. below_next j k (λ k. IsAtMost now (get_or lesser k d').v ⊎ Contains greater (get_or lesser k d'))
          (λ k lt. weaker found now vertex (get_or lesser k d').v (Contains greater (get_or lesser k d')) is (m.lesser_done k d' lt))
          (inl (subst (λ (x : ℕ). IsAtMost now x) (v ∙ ap (λ (x : Edge). x.v) (sym (at d'))) is.vertex_above)) lt;
      lacks = lacks_by found now vertex (λ x. LacksAt x greater lesser) is m.lacks (inr (e, contains_at lesser j d e f.inside refl, sym v, missing));
    }

-- both lists have an edge with these ends: what comes before the others
both_first : (greater lesser : List Edge) (i j : ℕ) → Ascends lesser → AreMates greater i lesser j
    → (l : ℕ) (d : Edge) → j + 1 ≤ l → l < length lesser → IsBefore (get_or greater i d) (get_or lesser l d)
both_first greater lesser i j up a l d le lt =
    same_before (get_or greater i d) (get_or lesser j d) (get_or lesser l d) (a.same_u d) (a.same_v d) (up j l d (omega arith) lt)

other_first : (greater lesser : List Edge) (i j : ℕ) → Ascends greater → AreMates greater i lesser j
    → (l : ℕ) (d : Edge) → i + 1 ≤ l → l < length greater → IsBefore (get_or lesser j d) (get_or greater l d)
other_first greater lesser i j up a l d le lt =
    same_before (get_or lesser j d) (get_or greater i d) (get_or greater l d) (sym (a.same_u d)) (sym (a.same_v d)) (up i l d (omega arith) lt)

-- and they have one weight
pub merge_same : (greater lesser : List Edge) (i j : ℕ) (found : Option ℕ) (d : Edge) → Ascends greater → Ascends lesser → IsMergedTo greater lesser i j found → AreMates greater i lesser j
    → (get_or greater i d).w ≡ (get_or lesser j d).w → IsMergedTo greater lesser (i + 1) (j + 1) found
merge_same greater lesser i j found d up_g up_l m a w =
    let at_g : (d' : Edge) → get_or greater i d' ≡ get_or greater i d = λ d'. get_or_default greater i d' d a.inside in
    let at_l : (d' : Edge) → get_or lesser j d' ≡ get_or lesser j d = λ d'. get_or_default lesser j d' d a.other_inside in
    let same : get_or greater i d ≡ get_or lesser j d = same_edge (get_or greater i d) (get_or lesser j d) (a.same_u d) (a.same_v d) w in
    record {
      i_within = let inside : i < length greater = a.inside in omega arith;
      j_within = let inside : j < length lesser = a.other_inside in omega arith;
      greater_first = λ k l d' lt le lt'. below_next i k (λ k. IsBefore (get_or greater k d') (get_or lesser l d')) (λ k lt. m.greater_first k l d' lt (omega arith) lt') (both_first greater lesser i j up_l a l d' le lt') lt;
      lesser_first = λ k l d' lt le lt'. below_next j k (λ k. IsBefore (get_or lesser k d') (get_or greater l d')) (λ k lt. m.lesser_first k l d' lt (omega arith) lt') (other_first greater lesser i j up_g a l d' le lt') lt;
      greater_done = λ k d' lt. below_next i k (λ k. IsAtMost found (get_or greater k d').u ⊎ Contains lesser (get_or greater k d')) (λ k lt. m.greater_done k d' lt)
          (inr (contains_at lesser j d (get_or greater i d') a.other_inside (sym same ∙ sym (at_g d')))) lt;
      lesser_done = λ k d' lt. below_next j k (λ k. IsAtMost found (get_or lesser k d').v ⊎ Contains greater (get_or lesser k d')) (λ k lt. m.lesser_done k d' lt)
          (inr (contains_at greater i d (get_or lesser j d') a.inside (same ∙ sym (at_l d')))) lt;
      lacks = m.lacks;
    }

above : (now : Option ℕ) (x y : ℕ) → x ≤ y → IsAtMost now x → IsAtMost now y
above None x y le h = h
above (Some f) x y le h = omega arith

-- or other weights
pub merge_other : (greater lesser : List Edge) (i j vertex : ℕ) (found now : Option ℕ) (d : Edge) → Ascends greater → Ascends lesser → IsMergedTo greater lesser i j found → AreMates greater i lesser j
    → (get_or greater i d).u < (get_or greater i d).v → (get_or greater i d).w ≢ (get_or lesser j d).w
    → vertex ≡ (get_or greater i d).u → IsLesserOf found vertex now → IsMergedTo greater lesser (i + 1) (j + 1) now
merge_other greater lesser i j vertex found now d up_g up_l m a rises other v is =
    let e : Edge = get_or greater i d in
    let f : Edge = get_or lesser j d in
    let at_g : (d' : Edge) → get_or greater i d' ≡ e = λ d'. get_or_default greater i d' d a.inside in
    let at_l : (d' : Edge) → get_or lesser j d' ≡ f = λ d'. get_or_default lesser j d' d a.other_inside in
    let same_u : e.u ≡ f.u = a.same_u d in
    let same_v : e.v ≡ f.v = a.same_v d in
    let missing : Contains lesser e → ⊥ = absent_weight lesser e j up_l a.other_inside (ap (λ (x : Edge). x.u) (at_l e) ∙ sym same_u) (ap (λ (x : Edge). x.v) (at_l e) ∙ sym same_v)
    (λ w. other (sym (sym (ap (λ (x : Edge). x.w) (at_l e)) ∙ w))) in
    let low : vertex ≤ f.v = omega arith in
    record {
      i_within = let inside : i < length greater = a.inside in omega arith;
      j_within = let inside : j < length lesser = a.other_inside in omega arith;
      greater_first = λ k l d' lt le lt'. below_next i k (λ k. IsBefore (get_or greater k d') (get_or lesser l d')) (λ k lt. m.greater_first k l d' lt (omega arith) lt') (both_first greater lesser i j up_l a l d' le lt') lt;
      lesser_first = λ k l d' lt le lt'. below_next j k (λ k. IsBefore (get_or lesser k d') (get_or greater l d')) (λ k lt. m.lesser_first k l d' lt (omega arith) lt') (other_first greater lesser i j up_g a l d' le lt') lt;
      greater_done = λ k d' lt. below_next i k (λ k. IsAtMost now (get_or greater k d').u ⊎ Contains lesser (get_or greater k d'))
          (λ k lt. weaker found now vertex (get_or greater k d').u (Contains lesser (get_or greater k d')) is (m.greater_done k d' lt))
          (inl (subst (λ (x : ℕ). IsAtMost now x) (v ∙ ap (λ (x : Edge). x.u) (sym (at_g d'))) is.vertex_above)) lt;
      lesser_done = λ k d' lt. below_next j k (λ k. IsAtMost now (get_or lesser k d').v ⊎ Contains greater (get_or lesser k d'))
          (λ k lt. weaker found now vertex (get_or lesser k d').v (Contains greater (get_or lesser k d')) is (m.lesser_done k d' lt))
          (inl (subst (λ (x : ℕ). IsAtMost now x) (ap (λ (x : Edge). x.v) (sym (at_l d'))) (above now vertex f.v low is.vertex_above))) lt;
      lacks = lacks_by found now vertex (λ x. LacksAt x greater lesser) is m.lacks (inl (e, contains_at greater i d e a.inside refl, sym v, missing));
    }

-- at the end: of the vertices below what was found all edges are in both lists
pub merge_end : (greater lesser : List Edge) (i j x : ℕ) → length greater ≤ i → length lesser ≤ j → IsMergedTo greater lesser i j (Some x)
    → LacksAt x greater lesser × ((y : ℕ) → y < x → IsMatchedAt y greater lesser)
merge_end greater lesser i j x hi hj m = (
  m.lacks,
  λ y lt. (
    λ e h is.
        let lt_i : h.0 < length greater = h.1 in
        let done : IsAtMost (Some x) e.u ⊎ Contains lesser e = subst (λ (z : Edge). IsAtMost (Some x) z.u ⊎ Contains lesser z) h.2 (m.greater_done h.0 e (omega arith)) in
        elim done [ inl low ↦ absurd (omega arith) | inr there ↦ there ],
    λ e h is.
        let lt_j : h.0 < length lesser = h.1 in
        let done : IsAtMost (Some x) e.v ⊎ Contains greater e = subst (λ (z : Edge). IsAtMost (Some x) z.v ⊎ Contains greater z) h.2 (m.lesser_done h.0 e (omega arith)) in
        elim done [ inl low ↦ absurd (omega arith) | inr there ↦ there ],
  ),
)

pub merge_some : (greater lesser : List Edge) (i j : ℕ) (found : Option ℕ) → length greater ≤ i → length lesser ≤ j → IsMergedTo greater lesser i j found
    → IfSome found (λ x. LacksAt x greater lesser × ((y : ℕ) → y < x → IsMatchedAt y greater lesser))
merge_some greater lesser i j None hi hj m = tt
merge_some greater lesser i j (Some x) hi hj m = merge_end greater lesser i j x hi hj m

-- what is known if nothing was found
pub never_none : (found : Option ℕ) (x : ℕ) (P : Type 0) → IsAtMost found x → IfNone found P
never_none None x P h = absurd h
never_none (Some f) x P h = tt

take_more : (xs : List Edge) (i : ℕ) (d : Edge) → i < length xs → take (i + 1) xs ≡ take i xs ++ get_or xs i d ∷ []
take_more xs i d h = grind (arith, common_steps)

pub same_more : (greater lesser : List Edge) (i j : ℕ) (found : Option ℕ) (d : Edge) → AreMates greater i lesser j → (get_or greater i d).w ≡ (get_or lesser j d).w
    → IfNone found ((i ≡ j) × (take i greater ≡ take j lesser)) → IfNone found ((i + 1 ≡ j + 1) × (take (i + 1) greater ≡ take (j + 1) lesser))
same_more greater lesser i j None d a w h =
    let same : get_or greater i d ≡ get_or lesser j d = same_edge (get_or greater i d) (get_or lesser j d) (a.same_u d) (a.same_v d) w in (
      ap (λ n. n + 1) h.0,
      take_more greater i d a.inside ∙ ap (λ xs. xs ++ get_or greater i d ∷ []) h.1 ∙ ap (λ e. take j lesser ++ e ∷ []) same ∙ sym (take_more lesser j d a.other_inside),
    )
same_more greater lesser i j (Some x) d a w h = tt
