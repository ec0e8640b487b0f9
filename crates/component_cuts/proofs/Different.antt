-- Lists without repeats.
use Rattle.std.proofs.Common.{◌≡◌, ℕ, ◌≤◌, inl, inr, ⊎_elim, Bool, true, false, List, [], ◌∷◌, ◌++◌, length, length-append, map, sym, ◌∙◌, ap, subst, arith}
use Rattle.std.specs.Ordering.{nat_cmp, eq_by_cmp}
use Rattle.std.specs.Cmp.Lexicographic.{slice_cmp}
use Rattle.std.specs.List.{Contains, IsDistinct}
use Rattle.std.specs.List.Sorted.{IsPermutation}
use Rattle.std.proofs.lemmas.Bool.{cases_Bool, false≢true}
use Rattle.std.proofs.lemmas.Cmp.{nat_list_cmp_total, eq_by_cmp_equiv}
use Rattle.std.proofs.lemmas.List.Elements.{All-contains, All-contains_itself, All-weaker, All-from_recursion, recursion_from_All, Contains-append_left, Contains-append_right, Contains-append_cases}
use Rattle.std.proofs.lemmas.Map.Keys.{IsDistinct-from_sorted, IsDistinct-cons, IsDistinct-head, IsDistinct-tail, IsDistinct-IsPermutation}
use Rattle.std.proofs.lemmas.Map.Lookups.{exact_bytes}
use Rattle.cut_definitions.proofs.Lists.{Contains-here, Contains-there, Contains-nil, Contains-cons_cases, Contains-from_map}
use Rattle.cut_definitions.proofs.Orderings.{from_is_eq}
use Rattle.cut_definitions.specs.Members.{AreDifferent, IsAscending}

abbrev Lists : Type 0
Lists = List (List ℕ)

abbrev same_list : List ℕ → List ℕ → Bool
same_list = eq_by_cmp (slice_cmp nat_cmp)

not_same : (x y : List ℕ) → (x ≡ y → ⊥) → same_list x y ≡ false
not_same x y ne =
    ⊎_elim
    (λ (t : same_list x y ≡ true). absurd (ne (exact_bytes x y (from_is_eq (slice_cmp nat_cmp x y) t))))
    (λ (f : same_list x y ≡ false). f)
    (cases_Bool (same_list x y))

to_distinct : (xs : Lists) → AreDifferent xs → IsDistinct same_list xs
unfolding IsDistinct
to_distinct [] h = tt
to_distinct (x ∷ xs) h =
    IsDistinct-cons same_list x xs
    (recursion_from_All (λ y. same_list x y ≡ false) xs (All-weaker (Contains xs) (λ y. same_list x y ≡ false) (λ y c. not_same x y (λ e. h.0 (subst (Contains xs) (sym e) c))) xs (All-contains_itself xs)))
    (to_distinct xs h.1)

from_distinct : (xs : Lists) → IsDistinct same_list xs → AreDifferent xs
from_distinct [] h = tt
from_distinct (x ∷ xs) h = (
  λ c. false≢true (sym (All-contains (λ y. same_list x y ≡ false) xs x (All-from_recursion (λ y. same_list x y ≡ false) xs (IsDistinct-head same_list x xs h)) c) ∙ (eq_by_cmp_equiv nat_list_cmp_total).refl x),
  from_distinct xs (IsDistinct-tail same_list x xs h),
)

pub different_permuted : (xs ys : List (List ℕ)) → IsPermutation xs ys → AreDifferent xs → AreDifferent ys
different_permuted xs ys moved h = from_distinct ys (IsDistinct-IsPermutation same_list (eq_by_cmp_equiv nat_list_cmp_total).symm xs ys moved (to_distinct xs h))

pub different_ascending : (xs : List (List ℕ)) → IsAscending xs → AreDifferent xs
different_ascending xs up = from_distinct xs (IsDistinct-from_sorted (slice_cmp nat_cmp) xs up)

pub different_append : (xs ys : List (List ℕ)) → AreDifferent xs → AreDifferent ys → ((s : List ℕ) → Contains xs s → Contains ys s → ⊥) → AreDifferent (xs ++ ys)
different_append [] ys hx hy apart = hy
different_append (x ∷ xs) ys hx hy apart = (
  λ c. elim (Contains-append_cases xs ys x c) [ inl a ↦ hx.0 a | inr b ↦ apart x (Contains-here x xs) b ],
  different_append xs ys hx.1 hy (λ s a b. apart s (Contains-there x xs s a) b),
)

pub different_map : (f : List ℕ → List ℕ) (xs : List (List ℕ)) → ((s t : List ℕ) → Contains xs s → Contains xs t → f s ≡ f t → s ≡ t) → AreDifferent xs → AreDifferent (map f xs)
different_map f [] one h = tt
different_map f (x ∷ xs) one h = (
  λ c. let y = Contains-from_map f xs (f x) c in
      h.0 (subst (Contains xs) (one y.0 x (Contains-there x xs y.0 y.1) (Contains-here x xs) y.2) y.1),
  different_map f xs (λ s t a b. one s t (Contains-there x xs s a) (Contains-there x xs t b)) h.1,
)

-- ---- as many

-- what is before and after a member
record IsAround (ys : Lists) (x : List ℕ) : Type 0 where
  before : Lists
  after : Lists
  whole : ys ≡ before ++ (x ∷ after)

around : (ys : Lists) (x : List ℕ) → Contains ys x → IsAround ys x
around [] x c = absurd (Contains-nil x c)
around (y ∷ ys) x c = elim (Contains-cons_cases y ys x c) [
  | inl e ↦ record { before = []; after = ys; whole = ap (λ z. z ∷ ys) e }
  | inr t ↦ (let r = around ys x t in record { before = y ∷ r.before; after = r.after; whole = ap (λ zs. y ∷ zs) r.whole })
]

pub no_more : (xs ys : List (List ℕ)) → AreDifferent xs → ((s : List ℕ) → Contains xs s → Contains ys s) → length xs ≤ length ys
no_more [] ys h to = omega arith
no_more (x ∷ xs) ys h to =
    let r = around ys x (to x (Contains-here x xs)) in
    let rest = no_more xs (r.before ++ r.after) h.1
    (λ s c. elim (Contains-append_cases r.before (x ∷ r.after) s (subst (λ zs. Contains zs s) r.whole (to s (Contains-there x xs s c)))) [
      | inl a ↦ Contains-append_left r.before r.after s a
      | inr b ↦ elim (Contains-cons_cases x r.after s b) [
        | inl e ↦ absurd (h.0 (subst (Contains xs) (sym e) c))
        | inr d ↦ Contains-append_right r.before r.after s d
      ]
    ]) in
    omega (arith, ap length r.whole, length-append r.before (x ∷ r.after), length-append r.before r.after)
