-- Small laws on lists, which many proofs use.
use Rattle.std.proofs.Common.{ℕ, max, ◌≤◌, Bool, true, false, cond, List, ◌∷◌, length, arith, ◌≡◌, ◌<◌, refl, [], get_or, suc, map, ap, ◌+◌, ◌++◌, take, ⊎_elim, set, ◌∙◌, ◌-◌, drop, ◌⊎◌, inl, inr, sym, subst, Option, Some, zero}
use Rattle.std.specs.List.{filter, Contains, All, AllPairs, sum_by, fold}
use Rattle.std.specs.Prelude.{option_to_list, slice_get}
use Rattle.std.proofs.Math.Seq.{take-append_seam, drop-append_seam}
use Rattle.std.proofs.lemmas.Bool.{cases_lt, cases_eq}
use Rattle.std.proofs.lemmas.Grind.{common_steps}
use Rattle.std.proofs.lemmas.List.{get_or-set_same, get_or-set_other, length-set, get_or_past}
use Rattle.std.proofs.lemmas.List.Elements.{All-append, All-head, All-tail, All-take, All-drop, All-weaker, All-contains_itself}
use Rattle.std.proofs.lemmas.List.Kept.{AllPairs-cons}
use Rattle.std.proofs.lemmas.List.Sums.{length-filter, count_by-le-length, sum_by-cons}
use Rattle.cut_definitions.specs.Contraction.{label}
use Rattle.cut_definitions.proofs.Lists.{Contains-cons_cases}

-- lengths
pub longer : (b : Bool) (l : List ℕ) (ls : List (List ℕ)) → length ls ≤ length (cond b (l ∷ ls) ls)
longer true l ls = omega arith
longer false l ls = omega arith

pub some_long : (side : List ℕ) → (side ≡ [] → ⊥) → 0 < length side
some_long [] some = absurd (some refl)
some_long (v ∷ vs) some = omega arith

pub one_left : (xs : List ℕ) → length xs ≡ 1 → xs ≡ get_or xs 0 0 ∷ []
one_left [] h = absurd (omega arith)
one_left (x ∷ []) h = refl
one_left (x ∷ (y ∷ ys)) h = absurd (omega arith)

pub length-filter_le : (p : ℕ → Bool) (xs : List ℕ) → length (filter p xs) ≤ length xs
length-filter_le p xs = omega (arith, length-filter p xs, count_by-le-length p xs)

pub mapped_length : {X Y : Type 0} (f : X → Y) (xs : List X) → length (map f xs) ≡ length xs
mapped_length f [] = refl
mapped_length f (x ∷ xs) = ap suc (mapped_length f xs)

-- entries of lists of numbers
pub take_next : (xs : List ℕ) (i : ℕ) → i < length xs → take (i + 1) xs ≡ take i xs ++ get_or xs i 0 ∷ []
take_next xs i h = grind (arith, common_steps)

pub entry_kept : (labels : List ℕ) (t v : ℕ) → 1 ≤ get_or (set labels t 0) v 0 → get_or (set labels t 0) v 0 ≡ get_or labels v 0
entry_kept labels t v h = ⊎_elim
    (λ (e : v ≡ t). ⊎_elim
    (λ (l : t < length labels).
    let z : get_or (set labels t 0) v 0 ≡ 0 = ap (λ (k : ℕ). get_or (set labels t 0) k 0) e ∙ get_or-set_same labels t 0 0 l in
    absurd (omega (arith, h, z)))
    (λ (l : length labels ≤ t).
    let z : get_or (set labels t 0) t 0 ≡ 0 = get_or_past (set labels t 0) t 0 (omega (arith, l, length-set labels t 0)) in
    let w : get_or (set labels t 0) v 0 ≡ 0 = ap (λ (k : ℕ). get_or (set labels t 0) k 0) e ∙ z in
    absurd (omega (arith, h, w)))
    (cases_lt t (length labels)))
    (λ ne. get_or-set_other labels t v 0 0 ne)
    (cases_eq v t)

pub labelled_to_n : (numbers : List ℕ) (n v : ℕ) → length numbers ≡ n + 1 → 1 ≤ get_or numbers v 0 → v ≤ n
labelled_to_n numbers n v long one = ⊎_elim
    (λ (l : v < n + 1). omega (arith, l))
    (λ (l : n + 1 ≤ v). let z = get_or_past numbers v 0 (omega (arith, l, long)) in absurd (omega (arith, z, one)))
    (cases_lt v (n + 1))

pub label_at : (classes : List ℕ) (i : ℕ) → label classes (i + 1) ≡ get_or classes i 0
label_at classes i = let e : i + 1 - 1 ≡ i = omega arith in ap (λ k. get_or classes k 0) e

pub at_drop : (a k : ℕ) (xs : List ℕ) → get_or (drop a xs) k 0 ≡ get_or xs (a + k) 0
at_drop a k xs = grind (arith, common_steps)

-- what a list holds
pub only : {X : Type 0} (x y : X) → x ∷ [] ≡ y ∷ [] → x ≡ y
only x y h = ap (λ l. (elim l [ [] ↦ x | (z ∷ zs) ↦ z ])) h

pub head_or_tail : {X : Type 0} (y : X) (xs : List X) (x : X) → Contains (y ∷ xs) x → (x ≡ y) ⊎ Contains xs x
head_or_tail y xs x h = elim (Contains-cons_cases y xs x h) [ inl e ↦ inl (sym e) | inr b ↦ inr b ]

-- what holds of all entries, or of all pairs, of a list and its parts
pub AllPairs-first : {X : Type 0} (R : X → X → Type 0) (x : X) (xs : List X) → AllPairs R (x ∷ xs) → All (R x) xs
AllPairs-first R x xs h k d l = h 0 (suc k) d (omega arith) (omega arith)

pub AllPairs-rest : {X : Type 0} (R : X → X → Type 0) (x : X) (xs : List X) → AllPairs R (x ∷ xs) → AllPairs R xs
AllPairs-rest R x xs h i j d l u = h (suc i) (suc j) d (omega arith) (omega arith)

pub AllPairs-append : {X : Type 0} (R : X → X → Type 0) (xs ys : List X) → AllPairs R xs → AllPairs R ys → All (λ x. All (R x) ys) xs → AllPairs R (xs ++ ys)
AllPairs-append R [] ys hx hy far = hy
AllPairs-append R (x ∷ xs) ys hx hy far =
    AllPairs-cons R x (xs ++ ys)
    (All-append (R x) xs ys (λ k d l. hx 0 (suc k) d (omega arith) (omega arith)) (All-head (λ z. All (R z) ys) x xs far))
    (AllPairs-append R xs ys (λ i j d l u. hx (suc i) (suc j) d (omega arith) (omega arith)) hy (All-tail (λ z. All (R z) ys) x xs far))

pub All-front : {X : Type 0} (P : X → Type 0) (xs ys : List X) → All P (xs ++ ys) → All P xs
All-front P xs ys h = subst (All P) (take-append_seam xs ys) (All-take P (length xs) (xs ++ ys) h)

pub All-back : {X : Type 0} (P : X → Type 0) (xs ys : List X) → All P (xs ++ ys) → All P ys
All-back P xs ys h = subst (All P) (drop-append_seam xs ys) (All-drop P (length xs) (xs ++ ys) h)

pub All-from_each : {X : Type 0} (P : X → Type 0) (l : List X) → ((x : X) → Contains l x → P x) → All P l
All-from_each P l f = All-weaker (Contains l) P f l (All-contains_itself l)

-- a sum of one term
pub sum_by-one : {X : Type 0} (h : X → ℕ) (x : X) → sum_by h (x ∷ []) ≡ h x
sum_by-one h x = omega (arith, sum_by-cons h x [])

-- lists put together and taken apart
pub append_none : {X : Type 0} (xs : List X) → xs ++ [] ≡ xs
append_none [] = refl
append_none (x ∷ xs) = ap (λ l. x ∷ l) (append_none xs)

pub popped_is : {X : Type 0} (cur new : List X) (r : Option X) (x : X) → cur ≡ new ++ option_to_list r → r ≡ Some x → cur ≡ new ++ x ∷ []
popped_is cur new r x p q = p ∙ ap (λ o. new ++ option_to_list o) q

pub drop_front : {X : Type 0} (b c : List X) → drop (length b) (b ++ c) ≡ c
drop_front [] c = refl
drop_front (x ∷ b) c = drop_front b c

pub taken : {X : Type 0} (xs : List X) (i : ℕ) (x : X) → slice_get xs i ≡ Some x → take (i + 1) xs ≡ take i xs ++ x ∷ []
taken [] i x e = cc
taken (y ∷ ys) zero x e =
    let h : y ≡ x = cc in ap (λ z. z ∷ []) h
taken (y ∷ ys) (suc i) x e =
    let next : suc i + 1 ≡ suc (i + 1) = omega arith in
    ap (λ k. take k (y ∷ ys)) next ∙ ap (λ l. y ∷ l) (taken ys i x e)

-- the greatest of some numbers is at most what each is at most
pub fold_max-bound : (xs : List ℕ) (a m : ℕ) → a ≤ m → ((k : ℕ) → k < length xs → get_or xs k 0 ≤ m) → fold max a xs ≤ m
fold_max-bound [] a m le all = le
fold_max-bound (x ∷ xs) a m le all =
    let first : x ≤ m = all 0 (omega arith) in
    fold_max-bound xs (max a x) m (omega arith) (λ k l. all (suc k) (omega arith))
