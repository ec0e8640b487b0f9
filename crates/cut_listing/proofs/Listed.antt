-- Lists of lists in strict order: their members determine them, and the least different ones of a list do not depend on
-- the greater ones.
use Rattle.std.proofs.Common.{◌≡◌, ℕ, suc, Bool, true, List, [], ◌∷◌, ◌⊎◌, inl, inr, length, refl, sym, ◌∙◌, ap, subst}
use Rattle.std.specs.declared.cmp.Ordering.{Ordering}
use Rattle.std.specs.declared.cmp.Ordering.TheVariants.{Less, Equal, Greater}
use Rattle.std.specs.Ordering.{nat_cmp, ordering_reverse}
use Rattle.std.specs.Cmp.Lexicographic.{slice_cmp}
use Rattle.std.specs.List.{All, Contains, filter}
use Rattle.std.specs.List.Sorted.{IsStrictlySortedBy}
use Rattle.std.proofs.lemmas.Cmp.{nat_list_cmp_total}
use Rattle.std.proofs.lemmas.List.Elements.{All-nil, All-weaker, All-contains, All-contains_itself, All-from_recursion, recursion_from_All}
use Rattle.std.proofs.lemmas.Map.Keys.{sorted_head, sorted_tail}
use Rattle.std.proofs.lemmas.Map.Lookups.{exact_bytes}
use Rattle.cut_definitions.proofs.Lists.{Contains-here, Contains-there, Contains-cons_cases, Contains-nil}
use Rattle.cut_definitions.proofs.Orderings.{one_listed}
use Rattle.cut_definitions.specs.Members.{AreDifferent, IsAscending}
use Rattle.cut_listing.specs.Listings.{IsListing, put, put_by, different}

abbrev Lists : Type 0
Lists = List (List ℕ)

abbrev cmp : List ℕ → List ℕ → Ordering
cmp = slice_cmp nat_cmp

-- ---- the order
pub less_on : (x y z : List ℕ) → slice_cmp nat_cmp x y ≡ Less → slice_cmp nat_cmp y z ≡ Less → slice_cmp nat_cmp x z ≡ Less
less_on = nat_list_cmp_total.trans

greater_back : (x y : List ℕ) → cmp x y ≡ Greater → cmp y x ≡ Less
greater_back x y h = nat_list_cmp_total.antisymm y x ∙ ap ordering_reverse h

-- ---- ascending lists
pub all_from : (P : List ℕ → Type 0) (xs : Lists) → ((s : List ℕ) → Contains xs s → P s) → All P xs
all_from P xs h = All-weaker (Contains xs) P h xs (All-contains_itself xs)

pub ascending_cons : (x : List ℕ) (xs : Lists) → All (λ y. slice_cmp nat_cmp x y ≡ Less) xs → IsAscending xs → IsAscending (x ∷ xs)
unfolding IsStrictlySortedBy
ascending_cons x xs h rest = (recursion_from_All (λ y. cmp x y ≡ Less) xs h, rest)

pub ascending_nil : IsAscending []
unfolding IsStrictlySortedBy
ascending_nil = tt

pub all_after : (x : List ℕ) (xs : Lists) → IsAscending (x ∷ xs) → All (λ y. slice_cmp nat_cmp x y ≡ Less) xs
all_after x xs h = All-from_recursion (λ y. cmp x y ≡ Less) xs (sorted_head cmp x xs h)

pub after_head : (x : List ℕ) (xs : Lists) (s : List ℕ) → IsAscending (x ∷ xs) → Contains xs s → slice_cmp nat_cmp x s ≡ Less
after_head x xs s h c = All-contains (λ y. cmp x y ≡ Less) xs s (all_after x xs h) c

-- ---- putting a list into a listing
at_order_of : (P : Lists → Type 0) (x y : List ℕ) (ys more : Lists) (o : Ordering) → cmp x y ≡ o
    → (cmp x y ≡ Less → P (x ∷ (y ∷ ys))) → (cmp x y ≡ Equal → P (y ∷ ys)) → (cmp x y ≡ Greater → P (y ∷ more)) → P (put_by o x y ys more)
at_order_of P x y ys more Less e f g h = f e
at_order_of P x y ys more Equal e f g h = g e
at_order_of P x y ys more Greater e f g h = h e

at_order : (P : Lists → Type 0) (x y : List ℕ) (ys more : Lists)
    → (cmp x y ≡ Less → P (x ∷ (y ∷ ys))) → (cmp x y ≡ Equal → P (y ∷ ys)) → (cmp x y ≡ Greater → P (y ∷ more)) → P (put_by (cmp x y) x y ys more)
at_order P x y ys more = at_order_of P x y ys more (cmp x y) refl

put_from : (x : List ℕ) (ys : Lists) (s : List ℕ) → Contains (put x ys) s → (s ≡ x) ⊎ Contains ys s
put_from x [] s c = elim (Contains-cons_cases x [] s c) [ inl e ↦ inl (sym e) | inr d ↦ inr d ]
put_from x (y ∷ ys) s c = at_order (λ l. Contains l s → (s ≡ x) ⊎ Contains (y ∷ ys) s) x y ys (put x ys)
    (λ o c. elim (Contains-cons_cases x (y ∷ ys) s c) [ inl e ↦ inl (sym e) | inr d ↦ inr d ])
    (λ o c. inr c)
    (λ o c. elim (Contains-cons_cases y (put x ys) s c) [
      | inl e ↦ inr (subst (Contains (y ∷ ys)) e (Contains-here y ys))
      | inr d ↦ elim (put_from x ys s d) [ inl e ↦ inl e | inr f ↦ inr (Contains-there y ys s f) ]
    ])
    c

put_new : (x : List ℕ) (ys : Lists) → Contains (put x ys) x
put_new x [] = Contains-here x []
put_new x (y ∷ ys) = at_order (λ l. Contains l x) x y ys (put x ys)
    (λ o. Contains-here x (y ∷ ys))
    (λ o. subst (Contains (y ∷ ys)) (sym (exact_bytes x y o)) (Contains-here y ys))
    (λ o. Contains-there y (put x ys) x (put_new x ys))

put_old : (x : List ℕ) (ys : Lists) (s : List ℕ) → Contains ys s → Contains (put x ys) s
put_old x [] s c = absurd (Contains-nil s c)
put_old x (y ∷ ys) s c = at_order (λ l. Contains l s) x y ys (put x ys)
    (λ o. Contains-there x (y ∷ ys) s c)
    (λ o. c)
    (λ o. elim (Contains-cons_cases y ys s c) [
      | inl e ↦ subst (Contains (y ∷ put x ys)) e (Contains-here y (put x ys))
      | inr d ↦ Contains-there y (put x ys) s (put_old x ys s d)
    ])

put_ascending : (x : List ℕ) (ys : Lists) → IsAscending ys → IsAscending (put x ys)
put_ascending x [] h = ascending_cons x [] (All-nil (λ y. cmp x y ≡ Less)) ascending_nil
put_ascending x (y ∷ ys) h = at_order IsAscending x y ys (put x ys)
    (λ o. ascending_cons x (y ∷ ys)
    (all_from (λ s. cmp x s ≡ Less) (y ∷ ys) (λ s c. elim (Contains-cons_cases y ys s c) [
      | inl e ↦ subst (λ t. cmp x t ≡ Less) e o
      | inr d ↦ less_on x y s o (after_head y ys s h d)
    ]))
    h)
    (λ o. h)
    (λ o. ascending_cons y (put x ys)
    (all_from (λ s. cmp y s ≡ Less) (put x ys) (λ s c. elim (put_from x ys s c) [
      | inl e ↦ subst (λ t. cmp y t ≡ Less) (sym e) (greater_back x y o)
      | inr d ↦ after_head y ys s h d
    ]))
    (put_ascending x ys (sorted_tail cmp y ys h)))

pub put_fresh : (x : List ℕ) (ys : List (List ℕ)) → (Contains ys x → ⊥) → length (put x ys) ≡ suc (length ys)
put_fresh x [] h = refl
put_fresh x (y ∷ ys) h = at_order (λ l. length l ≡ suc (length (y ∷ ys))) x y ys (put x ys)
    (λ o. refl)
    (λ o. absurd (h (subst (Contains (y ∷ ys)) (sym (exact_bytes x y o)) (Contains-here y ys))))
    (λ o. ap suc (put_fresh x ys (λ c. h (Contains-there y ys x c))))

-- ---- the different ones of a list
pub different_ascending : (xs : List (List ℕ)) → IsAscending (different xs)
different_ascending [] = ascending_nil
different_ascending (x ∷ xs) = put_ascending x (different xs) (different_ascending xs)

pub different_from : (xs : List (List ℕ)) (s : List ℕ) → Contains (different xs) s → Contains xs s
different_from [] s c = c
different_from (x ∷ xs) s c = elim (put_from x (different xs) s c) [
  | inl e ↦ subst (Contains (x ∷ xs)) (sym e) (Contains-here x xs)
  | inr d ↦ Contains-there x xs s (different_from xs s d)
]

pub different_to : (xs : List (List ℕ)) (s : List ℕ) → Contains xs s → Contains (different xs) s
different_to [] s c = c
different_to (x ∷ xs) s c = elim (Contains-cons_cases x xs s c) [
  | inl e ↦ subst (Contains (put x (different xs))) e (put_new x (different xs))
  | inr d ↦ put_old x (different xs) s (different_to xs s d)
]

pub different_is_listing : (xs : List (List ℕ)) → IsListing xs (different xs)
different_is_listing xs = record { ascending = different_ascending xs; same = λ s. (different_from xs s, different_to xs s) }

-- an ascending list with the same members is the listing
pub is_different : (xs ys : List (List ℕ)) → IsAscending ys → ((s : List ℕ) → Contains ys s → Contains xs s) → ((s : List ℕ) → Contains xs s → Contains ys s) → ys ≡ different xs
is_different xs ys up from to = one_listed nat_list_cmp_total exact_bytes ys (different xs) up (different_ascending xs) (λ s. ((λ c. different_to xs s (from s c)), (λ c. to s (different_from xs s c))))

pub same_different : (xs ys : List (List ℕ)) → ((s : List ℕ) → Contains xs s → Contains ys s) → ((s : List ℕ) → Contains ys s → Contains xs s) → different xs ≡ different ys
same_different xs ys to from = is_different ys (different xs) (different_ascending xs) (λ s c. to s (different_from xs s c)) (λ s c. different_to xs s (from s c))

-- ---- a test that passes all
pass_all : (p : List ℕ → Bool) (xs : Lists) → ((s : List ℕ) → Contains xs s → p s ≡ true) → filter p xs ≡ xs
pass_all p [] h = refl
pass_all p (x ∷ xs) h = rw (h x (Contains-here x xs)) (ap (λ l. x ∷ l) (pass_all p xs (λ s c. h s (Contains-there x xs s c))))

pub pass_true : (xs : List (List ℕ)) → filter (λ (s : List ℕ). true) xs ≡ xs
pass_true xs = pass_all (λ s. true) xs (λ s c. refl)

-- ---- as many are different as a list of different ones has
pub all_different : (xs : List (List ℕ)) → AreDifferent xs → length (different xs) ≡ length xs
all_different [] d = refl
all_different (x ∷ xs) d = put_fresh x (different xs) (λ c. d.0 (different_from xs x c)) ∙ ap suc (all_different xs d.1)
