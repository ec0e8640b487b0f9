-- How often a pair is in an ascending list of edges.
use Rattle.std.proofs.Common.{◌≡◌, ◌≤◌, ◌<◌, ◌-◌, ◌+◌, ◌⊎◌, ℕ, zero, suc, Bool, true, false, List, [], ◌∷◌, length, get_or, arith, Option, None, Some, IfNone, IfSome, inl, inr, subst, sym, ap, refl, ◌∙◌}
use Rattle.std.specs.Prelude.{if◌then◌else◌}
use Rattle.std.specs.List.{AllPairs}
use Rattle.std.proofs.lemmas.Bool.{cases_lt, cases_Bool}
use Rattle.std.proofs.lemmas.Bool.Decides.{nat_tests}
use Rattle.std.proofs.lemmas.List.{get_or_default}
use Rattle.std.proofs.lemmas.List.Sums.{sum_by-cons}
use Rattle.cut_definitions.specs.declared.edge_list.Edge.{Edge}
use Rattle.cut_definitions.specs.Graph.{IsBefore}
use Rattle.cut_definitions.proofs.Ascending.{IsBefore-irreflexive}
use Rattle.metis_reader.specs.declared.mates.End.{End}
use Rattle.metis_reader.specs.declared.mates.End.TheVariants.{Lesser, Greater}
use Rattle.metis_reader.specs.Mates.{IsAscending, end_of, is_pair, times, Repeats, IsOnce, RepeatsAt, IsOnceAt, IsAtMost, IsLesserOf, IsLesserOfBoth}
use Rattle.metis_reader.proofs.Ascending.{AllPairs-from_AscendsBelow}

pub is_pair_from : (u v : ℕ) (e : Edge) → is_pair u v e ≡ true → (e.u ≡ u) × (e.v ≡ v)
is_pair_from u v e h = (grind (arith, nat_tests), grind (arith, nat_tests))

pub is_pair_of : (u v : ℕ) (e : Edge) → e.u ≡ u → e.v ≡ v → is_pair u v e ≡ true
is_pair_of u v e p q = grind (arith, nat_tests)

pub times_cons : (u v : ℕ) (e : Edge) (xs : List Edge) (b : Bool) → is_pair u v e ≡ b → times u v (e ∷ xs) ≡ (if b then 1 else 0) + times u v xs
times_cons u v e xs b h =
    sum_by-cons (λ (e : Edge). if is_pair u v e then 1 else 0) e xs ∙ ap (λ (b : Bool). (if b then 1 else 0) + times u v xs) h

times_none : (u v : ℕ) (xs : List Edge) → ((k : ℕ) (d : Edge) → k < length xs → is_pair u v (get_or xs k d) ≡ true → ⊥) → times u v xs ≡ 0
times_none u v [] h = refl
times_none u v (e ∷ xs) h =
    let rest : times u v xs ≡ 0 = times_none u v xs (λ k d lt p. h (suc k) d (omega arith) p) in
    elim (cases_Bool (is_pair u v e)) [
      | inl t ↦ absurd (h 0 e (omega arith) t)
      | inr f ↦ let here : times u v (e ∷ xs) ≡ 0 + times u v xs = times_cons u v e xs false f in omega arith
    ]

-- a pair is there at most once if it is at no two places
pub times_once : (u v : ℕ) (xs : List Edge) → ((i j : ℕ) (d : Edge) → i < j → j < length xs → is_pair u v (get_or xs i d) ≡ true → is_pair u v (get_or xs j d) ≡ true → ⊥) → times u v xs ≤ 1
times_once u v [] h = omega arith
times_once u v (e ∷ xs) h =
    elim (cases_Bool (is_pair u v e)) [
      | inl t ↦
          let rest : times u v xs ≡ 0 = times_none u v xs (λ k d lt p. h 0 (suc k) d (omega arith) (omega arith) t p) in
          let here : times u v (e ∷ xs) ≡ 1 + times u v xs = times_cons u v e xs true t in
          omega arith
      | inr f ↦
          let rest : times u v xs ≤ 1 = times_once u v xs (λ i j d lt lt' p q. h (suc i) (suc j) d (omega arith) (omega arith) p q) in
          let here : times u v (e ∷ xs) ≡ 0 + times u v xs = times_cons u v e xs false f in
          omega arith
    ]

times_more : (u v : ℕ) (e : Edge) (xs : List Edge) → times u v xs ≤ times u v (e ∷ xs)
times_more u v e xs =
    elim (cases_Bool (is_pair u v e)) [
      | inl t ↦ let here : times u v (e ∷ xs) ≡ 1 + times u v xs = times_cons u v e xs true t in omega arith
      | inr f ↦ let here : times u v (e ∷ xs) ≡ 0 + times u v xs = times_cons u v e xs false f in omega arith
    ]

times_some : (u v : ℕ) (xs : List Edge) (k : ℕ) (d : Edge) → k < length xs → is_pair u v (get_or xs k d) ≡ true → 1 ≤ times u v xs
times_some u v [] k d lt p = absurd (omega arith)
times_some u v (e ∷ xs) zero d lt p = let here : times u v (e ∷ xs) ≡ 1 + times u v xs = times_cons u v e xs true p in omega arith
times_some u v (e ∷ xs) (suc k) d lt p =
    let rest : 1 ≤ times u v xs = times_some u v xs k d (omega arith) p in
    let more : times u v xs ≤ times u v (e ∷ xs) = times_more u v e xs in
    omega arith

-- and at least twice if it is at two
pub times_twice : (u v : ℕ) (xs : List Edge) (i j : ℕ) (d : Edge) → i < j → j < length xs → is_pair u v (get_or xs i d) ≡ true → is_pair u v (get_or xs j d) ≡ true → 2 ≤ times u v xs
times_twice u v [] i j d lt lt' p q = absurd (omega arith)
times_twice u v (e ∷ xs) i zero d lt lt' p q = absurd (omega arith)
times_twice u v (e ∷ xs) zero (suc j) d lt lt' p q =
    let rest : 1 ≤ times u v xs = times_some u v xs j d (omega arith) q in
    let here : times u v (e ∷ xs) ≡ 1 + times u v xs = times_cons u v e xs true p in
    omega arith
times_twice u v (e ∷ xs) (suc i) (suc j) d lt lt' p q =
    let rest : 2 ≤ times u v xs = times_twice u v xs i j d (omega arith) (omega arith) p q in
    let more : times u v xs ≤ times u v (e ∷ xs) = times_more u v e xs in
    omega arith

same_no_before : (u v : ℕ) (d e : Edge) → d.u ≡ u → d.v ≡ v → e.u ≡ u → e.v ≡ v → IsBefore d e → ⊥
same_no_before u v d e p q r s h = grind arith

-- in a strictly ascending list each pair is there at most once
pub once_strict : (xs : List Edge) → AllPairs IsBefore xs → (u v : ℕ) → times u v xs ≤ 1
once_strict xs up u v = times_once u v xs (λ i j d lt lt' p q.
    let a = is_pair_from u v (get_or xs i d) p in
    let b = is_pair_from u v (get_or xs j d) q in
    same_no_before u v (get_or xs i d) (get_or xs j d) a.0 a.1 b.0 b.1 (up i j d lt lt'))

-- The steps of a search for repeats.

not_before_same : (d e : Edge) → (IsBefore d e → ⊥) → (IsBefore e d → ⊥) → (d.u ≡ e.u) × (d.v ≡ e.v)
not_before_same d e p q = (grind arith, grind arith)

abbrev pub Steps : End → List Edge → ℕ → Option ℕ → Type 0
Steps end xs n found = (k : ℕ) (d : Edge) → 1 ≤ k → k < n → IsBefore (get_or xs (k - 1) d) (get_or xs k d) ⊎ IsAtMost found (end_of end (get_or xs k d).u (get_or xs k d).v)

-- the edge at i repeats the one before it
pub repeat_here : (end : End) (xs : List Edge) (i vertex : ℕ) (d : Edge) → IsAscending xs → 1 ≤ i → i < length xs → (IsBefore (get_or xs (i - 1) d) (get_or xs i d) → ⊥)
    → vertex ≡ end_of end (get_or xs i d).u (get_or xs i d).v → Repeats end vertex xs
repeat_here end xs i vertex d up one lt apart is =
    let next : i - 1 + 1 ≡ i = omega arith in
    let other : IsBefore (get_or xs i d) (get_or xs (i - 1) d) → ⊥ = subst (λ k. IsBefore (get_or xs k d) (get_or xs (i - 1) d) → ⊥) next (up (i - 1) d (omega arith)) in
    let same = not_before_same (get_or xs (i - 1) d) (get_or xs i d) apart other in
    let u : ℕ = (get_or xs i d).u in
    let v : ℕ = (get_or xs i d).v in
    (u, v, sym is, times_twice u v xs (i - 1) i d (omega arith) lt (is_pair_of u v (get_or xs (i - 1) d) same.0 same.1) (is_pair_of u v (get_or xs i d) refl refl))

weaker : (found lesser : Option ℕ) (vertex x : ℕ) (P : Type 0) → IsLesserOf found vertex lesser → P ⊎ IsAtMost found x → P ⊎ IsAtMost lesser x
weaker found lesser vertex x P is (inl p) = inl p
weaker found lesser vertex x P is (inr h) = inr (is.found_above x h)

pub steps_found : (end : End) (xs : List Edge) (i vertex : ℕ) (found lesser : Option ℕ) (d : Edge) → i < length xs → IsLesserOf found vertex lesser
    → vertex ≡ end_of end (get_or xs i d).u (get_or xs i d).v → Steps end xs i found → Steps end xs (i + 1) lesser
steps_found end xs i vertex found lesser d lt is v steps = λ k d' one lt'.
    elim (cases_lt k i) [
      | inl low ↦ weaker found lesser vertex (end_of end (get_or xs k d').u (get_or xs k d').v) (IsBefore (get_or xs (k - 1) d') (get_or xs k d')) is (steps k d' one low)
      | inr high ↦
          let same : i ≡ k = omega arith in
          let here : IsAtMost lesser (end_of end (get_or xs i d').u (get_or xs i d').v) =
          subst (λ (e : Edge). IsAtMost lesser (end_of end e.u e.v)) (get_or_default xs i d d' lt) (subst (λ (x : ℕ). IsAtMost lesser x) v is.vertex_above) in
          inr (subst (λ k. IsAtMost lesser (end_of end (get_or xs k d').u (get_or xs k d').v)) same here)
    ]

pub steps_before : (end : End) (xs : List Edge) (i : ℕ) (found : Option ℕ) (d : Edge) → 1 ≤ i → i < length xs → IsBefore (get_or xs (i - 1) d) (get_or xs i d) → Steps end xs i found → Steps end xs (i + 1) found
steps_before end xs i found d one' lt before steps = λ k d' one lt'.
    elim (cases_lt k i) [
      | inl low ↦ steps k d' one low
      | inr high ↦
          let same : i ≡ k = omega arith in
          let here : IsBefore (get_or xs (i - 1) d') (get_or xs i d') =
          subst (λ (e : Edge). IsBefore e (get_or xs i d')) (get_or_default xs (i - 1) d d' (omega arith)) (subst (λ (e : Edge). IsBefore (get_or xs (i - 1) d) e) (get_or_default xs i d d' lt) before) in
          inl (subst (λ k. IsBefore (get_or xs (k - 1) d') (get_or xs k d')) same here)
    ]

strict_from : (end : End) (xs : List Edge) (n : ℕ) (found : Option ℕ) → Steps end xs n found → IfNone found ((k : ℕ) (d : Edge) → 1 ≤ k → k < n → IsBefore (get_or xs (k - 1) d) (get_or xs k d))
strict_from end xs n None steps = λ k d one lt. elim (steps k d one lt) [ inl h ↦ h | inr none ↦ absurd none ]
strict_from end xs n (Some x) steps = tt

strict_all : (xs : List Edge) (n : ℕ) (found : Option ℕ) → length xs ≤ n → IfNone found ((k : ℕ) (d : Edge) → 1 ≤ k → k < n → IsBefore (get_or xs (k - 1) d) (get_or xs k d)) → IfNone found (AllPairs IsBefore xs)
strict_all xs n None le h = AllPairs-from_AscendsBelow xs n le h
strict_all xs n (Some x) le h = tt

pub steps_none : (end : End) (xs : List Edge) (n : ℕ) (found : Option ℕ) → length xs ≤ n → Steps end xs n found → IfNone found (AllPairs IsBefore xs)
steps_none end xs n found le steps = strict_all xs n found le (strict_from end xs n found steps)

-- between two equal pairs of an ascending list all pairs are equal
not_after : (xs : List Edge) → IsAscending xs → (gap i : ℕ) (d : Edge) → i + gap < length xs → IsBefore (get_or xs (i + gap) d) (get_or xs i d) → ⊥
not_after xs up zero i d lt h = let e : i + 0 ≡ i = omega arith in IsBefore-irreflexive (get_or xs i d) (subst (λ k. IsBefore (get_or xs k d) (get_or xs i d)) e h)
not_after xs up (suc gap) i d lt h =
    let e : i + suc gap ≡ (i + gap) + 1 = omega arith in
    further (get_or xs i d) (get_or xs (i + gap) d) (get_or xs (i + gap + 1) d) (not_after xs up gap i d (omega arith)) (up (i + gap) d (omega arith)) (subst (λ k. IsBefore (get_or xs k d) (get_or xs i d)) e h)
  where
    further : (c d e : Edge) → (IsBefore d c → ⊥) → (IsBefore e d → ⊥) → IsBefore e c → ⊥
    further c d e p q h = grind arith

next_same : (c d e : Edge) (u v : ℕ) → c.u ≡ u → c.v ≡ v → e.u ≡ u → e.v ≡ v → (IsBefore d c → ⊥) → (IsBefore e d → ⊥) → (d.u ≡ u) × (d.v ≡ v)
next_same c d e u v p q r s h k = (grind arith, grind arith)

pub steps_once : (end : End) (xs : List Edge) (n x : ℕ) → IsAscending xs → length xs ≤ n → Steps end xs n (Some x) → (y : ℕ) → y < x → IsOnce end y xs
steps_once end xs n x up le steps y lt u v at = times_once u v xs (λ i j d before inside p q.
    let a = is_pair_from u v (get_or xs i d) p in
    let b = is_pair_from u v (get_or xs j d) q in
    let gap_is : (i + 1) + (j - (i + 1)) ≡ j = omega arith in
    let low : IsBefore (get_or xs (i + 1) d) (get_or xs i d) → ⊥ = up i d (omega arith) in
    let high : IsBefore (get_or xs j d) (get_or xs (i + 1) d) → ⊥ = subst (λ k. IsBefore (get_or xs k d) (get_or xs (i + 1) d) → ⊥) gap_is (not_after xs up (j - (i + 1)) (i + 1) d (omega arith)) in
    let next = next_same (get_or xs i d) (get_or xs (i + 1) d) (get_or xs j d) u v a.0 a.1 b.0 b.1 low high in
    let back : i + 1 - 1 ≡ i = omega arith in
    elim (steps (i + 1) d (omega arith) (omega arith)) [
      | inl strict ↦ same_no_before u v (get_or xs i d) (get_or xs (i + 1) d) a.0 a.1 next.0 next.1 (subst (λ k. IsBefore (get_or xs k d) (get_or xs (i + 1) d)) back strict)
      | inr most ↦
          let here : end_of end (get_or xs (i + 1) d).u (get_or xs (i + 1) d).v ≡ y = ap (λ u. end_of end u (get_or xs (i + 1) d).v) next.0 ∙ ap (λ v. end_of end u v) next.1 ∙ at in
          absurd (omega arith)
    ])

pub steps_some : (end : End) (xs : List Edge) (n : ℕ) (found : Option ℕ) → IsAscending xs → length xs ≤ n → Steps end xs n found → IfSome found (λ x. Repeats end x xs)
    → IfSome found (λ x. Repeats end x xs × ((y : ℕ) → y < x → IsOnce end y xs))
steps_some end xs n None up le steps repeats = tt
steps_some end xs n (Some x) up le steps repeats = (repeats, steps_once end xs n x up le steps)

pub repeats_by : (end : End) (xs : List Edge) (found lesser : Option ℕ) (vertex : ℕ) → IsLesserOf found vertex lesser → IfSome found (λ x. Repeats end x xs) → Repeats end vertex xs → IfSome lesser (λ x. Repeats end x xs)
repeats_by end xs found lesser vertex is old new =
    elim is.either [ inl e ↦ subst (λ o. IfSome o (λ x. Repeats end x xs)) (sym e) old | inr e ↦ subst (λ o. IfSome o (λ x. Repeats end x xs)) (sym e) new ]

-- Both lists.

abbrev SearchNone : Option ℕ → List Edge → Type 0
SearchNone found xs = IfNone found (AllPairs IsBefore xs)

abbrev SearchSome : End → Option ℕ → List Edge → Type 0
SearchSome end found xs = IfSome found (λ x. Repeats end x xs × ((y : ℕ) → y < x → IsOnce end y xs))

once_below : (end : End) (found : Option ℕ) (xs : List Edge) (x : ℕ) → SearchNone found xs → SearchSome end found xs → ((f : ℕ) → IsAtMost found f → x ≤ f) → (y : ℕ) → y < x → IsOnce end y xs
once_below end None xs x none some above y lt = λ u v at. once_strict xs none u v
once_below end (Some f) xs x none some above y lt = let le : x ≤ f = above f (omega arith) in some.1 y (omega arith)

repeats_of : (end : End) (found : Option ℕ) (xs : List Edge) (x : ℕ) → SearchSome end found xs → found ≡ Some x → Repeats end x xs
repeats_of end found xs x some e = (subst (λ o. SearchSome end o xs) e some).0

pub both_some : (greater lesser : List Edge) (a b o : Option ℕ) (x : ℕ) → SearchNone a greater → SearchSome Lesser a greater → SearchNone b lesser → SearchSome Greater b lesser
    → IsLesserOfBoth a b o → o ≡ Some x → RepeatsAt x greater lesser × ((y : ℕ) → y < x → IsOnceAt y greater lesser)
both_some greater lesser a b o x none_a some_a none_b some_b is e = (
  elim is.either [ inl f ↦ inl (repeats_of Lesser a greater x some_a (sym f ∙ e)) | inr f ↦ inr (repeats_of Greater b lesser x some_b (sym f ∙ e)) ],
  λ y lt. (
    once_below Lesser a greater x none_a some_a (λ f h. subst (λ o. IsAtMost o f) e (is.found_above f h)) y lt,
    once_below Greater b lesser x none_b some_b (λ f h. subst (λ o. IsAtMost o f) e (is.other_above f h)) y lt,
  ),
)

none_of : (a o : Option ℕ) → ((x : ℕ) → IsAtMost a x → IsAtMost o x) → o ≡ None → a ≡ None
none_of None o above e = refl
none_of (Some f) o above e = absurd (subst (λ o. IsAtMost o f) e (above f (omega arith)))

strict_none : (a : Option ℕ) (xs : List Edge) → SearchNone a xs → a ≡ None → AllPairs IsBefore xs
strict_none a xs none e = subst (λ o. SearchNone o xs) e none

pub both_none : (greater lesser : List Edge) (a b o : Option ℕ) → SearchNone a greater → SearchNone b lesser → IsLesserOfBoth a b o → o ≡ None → AllPairs IsBefore greater × AllPairs IsBefore lesser
both_none greater lesser a b o none_a none_b is e = (strict_none a greater none_a (none_of a o is.found_above e), strict_none b lesser none_b (none_of b o is.other_above e))
