-- A list with the same members as a list of different ones, and no longer than that, has no member twice.
use Rattle.std.proofs.Common.{◌≡◌, ◌+◌, ◌≤◌, ◌⊎◌, inl, inr, List, [], ◌∷◌, length, sym, ◌∙◌, subst, arith}
use Rattle.std.specs.List.{Contains}
use Rattle.cut_definitions.proofs.Lists.{Contains-here, Contains-there, Contains-cons_cases, Contains-nil}
use Rattle.cut_definitions.specs.Members.{AreDifferent}

-- a list without one place at which it has the element
record Without {X : Type 0} (xs : List X) (x : X) : Type 0 where
  rest : List X
  cases : (y : X) → Contains xs y → (x ≡ y) ⊎ Contains rest y
  back : (y : X) → Contains rest y → Contains xs y
  long : length xs ≡ length rest + 1
  apart : AreDifferent xs → AreDifferent rest × (Contains rest x → ⊥)

without : {X : Type 0} (xs : List X) (x : X) → Contains xs x → Without xs x
without [] x c = absurd (Contains-nil x c)
without (z ∷ xs) x c = elim (Contains-cons_cases z xs x c) [
  | inl e ↦ record {
    rest = xs;
    cases = λ y h. elim (Contains-cons_cases z xs y h) [ inl f ↦ inl (sym e ∙ f) | inr k ↦ inr k ];
    back = λ y h. Contains-there z xs y h;
    long = omega arith;
    apart = λ d. (d.1, λ h. d.0 (subst (λ y. Contains xs y) (sym e) h));
  }
  | inr h ↦ (
      let r = without xs x h in
      record {
        rest = z ∷ r.rest;
        cases = λ y k. elim (Contains-cons_cases z xs y k) [
          | inl e ↦ inr (subst (λ u. Contains (z ∷ r.rest) u) e (Contains-here z r.rest))
          | inr i ↦ elim (r.cases y i) [ inl e ↦ inl e | inr j ↦ inr (Contains-there z r.rest y j) ]
        ];
        back = λ y k. elim (Contains-cons_cases z r.rest y k) [
          | inl e ↦ subst (λ u. Contains (z ∷ xs) u) e (Contains-here z xs)
          | inr j ↦ Contains-there z xs y (r.back y j)
        ];
        long = omega (arith, r.long);
        apart = λ d. (
          ((λ k. d.0 (r.back z k)), (r.apart d.1).0),
          λ k. elim (Contains-cons_cases z r.rest x k) [ inl e ↦ d.0 (subst (λ y. Contains xs y) (sym e) h) | inr j ↦ (r.apart d.1).1 j ],
        );
      })
]

-- a list that has all of several different elements is as long
as_long : {X : Type 0} (ds xs : List X) → AreDifferent ds → ((y : X) → Contains ds y → Contains xs y) → length ds ≤ length xs
as_long [] xs d h = omega arith
as_long (x ∷ ds) xs d h =
    let r = without xs x (h x (Contains-here x ds)) in
    let rest = as_long ds r.rest d.1 (λ y c. elim (r.cases y (h y (Contains-there x ds y c))) [ inl e ↦ absurd (d.0 (subst (λ u. Contains ds u) (sym e) c)) | inr k ↦ k ]) in
    omega (arith, rest, r.long)

pub all_different : {X : Type 0} (xs ds : List X) → AreDifferent ds → ((y : X) → Contains ds y → Contains xs y) → ((y : X) → Contains xs y → Contains ds y) → length xs ≤ length ds → AreDifferent xs
all_different [] ds d to from few = tt
all_different (x ∷ xs) ds d to from few =
    let once : Contains xs x → ⊥ = λ again.
    (let long = as_long ds xs d (λ y c. elim (Contains-cons_cases x xs y (to y c)) [ inl e ↦ subst (λ u. Contains xs u) e again | inr k ↦ k ]) in absurd (omega (arith, long, few))) in
    let r = without ds x (from x (Contains-here x xs)) in
    let apart = r.apart d in (
      once,
      all_different xs r.rest apart.0
          (λ y c. elim (Contains-cons_cases x xs y (to y (r.back y c))) [ inl e ↦ absurd (apart.1 (subst (λ u. Contains r.rest u) (sym e) c)) | inr k ↦ k ])
          (λ y c. elim (r.cases y (from y (Contains-there x xs y c))) [ inl e ↦ absurd (once (subst (λ u. Contains xs u) (sym e) c)) | inr k ↦ k ])
          (omega (arith, few, r.long)),
    )
