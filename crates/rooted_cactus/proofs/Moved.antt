-- Parts of a tree in another order: what is below them, their cuts, their lists.
use Rattle.std.proofs.Common.{◌≡◌, ℕ, ◌+◌, inl, inr, Bool, true, List, [], ◌∷◌, ◌++◌, length, ap, ◌∙◌, sym, refl, subst, length-append}
use Rattle.std.specs.Prelude.{sum_by}
use Rattle.std.specs.List.{Contains, filter, flat_map, list_all}
use Rattle.std.specs.List.Sorted.{IsPermutation}
use Rattle.std.proofs.lemmas.Bool.{and_parts, and_from, or_cases, or_left, or_right, false≢true}
use Rattle.std.proofs.lemmas.List.Elements.{Contains-append_left, Contains-append_right, Contains-append_cases, filter-append}
use Rattle.std.proofs.lemmas.List.Sums.{sum_by-cons}
use Rattle.std.proofs.lemmas.List.Sorted.{Contains-permutation, IsPermutation-sym, sum_by-IsPermutation}
use Rattle.cut_definitions.specs.Cuts.{has}
use Rattle.cut_definitions.proofs.Lists.{Contains-here, Contains-there, Contains-cons_cases, Contains-nil}
use Rattle.rooted_cactus.specs.Sides.{Part, all_of, belows}
use Rattle.rooted_cactus.proofs.Sets.{same_set}
use Rattle.rooted_cactus.specs.Trims.{count_with, SameLists}

-- ---- lists of lists
flat_there : {X Y : Type 0} (f : X → List Y) (xs : List X) (x : X) (y : Y) → Contains xs x → Contains (f x) y → Contains (flat_map f xs) y
flat_there f [] x y h k = absurd (Contains-nil x h)
flat_there f (z ∷ xs) x y h k = elim (Contains-cons_cases z xs x h) [
  | inl e ↦ Contains-append_left (f z) (flat_map f xs) y (subst (λ w. Contains (f w) y) (sym e) k)
  | inr t ↦ Contains-append_right (f z) (flat_map f xs) y (flat_there f xs x y t k)
]

flat_from : {X Y : Type 0} (f : X → List Y) (xs : List X) (y : Y) → Contains (flat_map f xs) y → (x : X) × Contains xs x × Contains (f x) y
flat_from f [] y h = absurd (Contains-nil y h)
flat_from f (z ∷ xs) y h = elim (Contains-append_cases (f z) (flat_map f xs) y h) [
  | inl k ↦ (z, Contains-here z xs, k)
  | inr k ↦ (let r = flat_from f xs y k in (r.0, Contains-there z xs r.0 r.1, r.2))
]

pub flat_moved : {X Y : Type 0} (f : X → List Y) (xs ys : List X) → IsPermutation xs ys → (y : Y) → Contains (flat_map f xs) y → Contains (flat_map f ys) y
flat_moved f xs ys p y h =
    let r = flat_from f xs y h in
    flat_there f ys r.0 y (Contains-permutation xs ys r.0 p r.1) r.2

-- ---- what is below several parts
any_there : (ps : List Part) (p : Part) (v : ℕ) → Contains ps p → p.below v ≡ true → all_of (belows ps) v ≡ true
any_there [] p v h k = absurd (Contains-nil p h)
any_there (q ∷ ps) p v h k = elim (Contains-cons_cases q ps p h) [
  | inl e ↦ or_left (q.below v) (all_of (belows ps) v) (ap (λ (w : Part). w.below v) e ∙ k)
  | inr t ↦ or_right (q.below v) (all_of (belows ps) v) (any_there ps p v t k)
]

any_from : (ps : List Part) (v : ℕ) → all_of (belows ps) v ≡ true → (p : Part) × Contains ps p × (p.below v ≡ true)
any_from [] v h = absurd (false≢true h)
any_from (q ∷ ps) v h = elim (or_cases (q.below v) (all_of (belows ps) v) h) [
  | inl k ↦ (q, Contains-here q ps, k)
  | inr k ↦ (let r = any_from ps v k in (r.0, Contains-there q ps r.0 r.1, r.2))
]

below_moved : (ps qs : List Part) → IsPermutation ps qs → (v : ℕ) → all_of (belows ps) v ≡ true → all_of (belows qs) v ≡ true
below_moved ps qs p v h =
    let r = any_from ps v h in
    any_there qs r.0 v (Contains-permutation ps qs r.0 p r.1) r.2

pub all_moved : (ps qs : List Part) → IsPermutation ps qs → all_of (belows ps) ≡ all_of (belows qs)
all_moved ps qs p = same_set (all_of (belows ps)) (all_of (belows qs)) (below_moved ps qs p) (below_moved qs ps (IsPermutation-sym ps qs p))

-- ---- tests of all
pub each_passes : {X : Type 0} (f : X → Bool) (xs : List X) → ((x : X) → Contains xs x → f x ≡ true) → list_all f xs ≡ true
each_passes f [] h = refl
each_passes f (x ∷ xs) h = and_from (f x) (list_all f xs) (h x (Contains-here x xs)) (each_passes f xs (λ y k. h y (Contains-there x xs y k)))

pub one_passes : {X : Type 0} (f : X → Bool) (xs : List X) (x : X) → list_all f xs ≡ true → Contains xs x → f x ≡ true
one_passes f [] x h k = absurd (Contains-nil x k)
one_passes f (y ∷ xs) x h k =
    let both = and_parts (f y) (list_all f xs) h in
    elim (Contains-cons_cases y xs x k) [
      | inl e ↦ subst (λ z. f z ≡ true) e both.0
      | inr t ↦ one_passes f xs x both.1 t
    ]

pub passes_moved : {X : Type 0} (f : X → Bool) (xs ys : List X) → IsPermutation xs ys → list_all f xs ≡ true → list_all f ys ≡ true
passes_moved f xs ys p h = each_passes f ys (λ y k. one_passes f xs y h (Contains-permutation ys xs y (IsPermutation-sym xs ys p) k))

-- ---- how often a vertex is there
pub count_both : (v : ℕ) (ls ms : List (List ℕ)) → count_with v (ls ++ ms) ≡ count_with v ls + count_with v ms
count_both v ls ms = ap length (filter-append (λ l. has l v) ls ms) ∙ length-append (filter (λ l. has l v) ls) (filter (λ l. has l v) ms)

count_flat : {X : Type 0} (v : ℕ) (f : X → List (List ℕ)) (xs : List X) → count_with v (flat_map f xs) ≡ sum_by (λ x. count_with v (f x)) xs
count_flat v f [] = refl
count_flat v f (x ∷ xs) = count_both v (f x) (flat_map f xs) ∙ ap (λ k. count_with v (f x) + k) (count_flat v f xs) ∙ sym (sum_by-cons (λ y. count_with v (f y)) x xs)

pub count_moved : {X : Type 0} (v : ℕ) (f : X → List (List ℕ)) (xs ys : List X) → IsPermutation xs ys → count_with v (flat_map f ys) ≡ count_with v (flat_map f xs)
count_moved v f xs ys p = count_flat v f ys ∙ sum_by-IsPermutation (λ x. count_with v (f x)) xs ys p ∙ sym (count_flat v f xs)

-- ---- lists with the same members
pub same_both : (ls ms ls' ms' : List (List ℕ)) → SameLists ls ms → SameLists ls' ms' → SameLists (ls ++ ls') (ms ++ ms')
same_both ls ms ls' ms' a b = record {
  often = λ v. count_both v ls ls' ∙ ap (λ k. k + count_with v ls') (a.often v) ∙ ap (λ k. count_with v ms + k) (b.often v) ∙ sym (count_both v ms ms');
  members = λ l h. elim (Contains-append_cases ls ls' l h) [
    | inl k ↦ elim (a.members l k) [ inl e ↦ inl e | inr t ↦ inr (Contains-append_left ms ms' l t) ]
    | inr k ↦ elim (b.members l k) [ inl e ↦ inl e | inr t ↦ inr (Contains-append_right ms ms' l t) ]
  ];
}

pub same_itself : (ls : List (List ℕ)) → SameLists ls ls
same_itself ls = record { often = λ v. refl; members = λ l h. inr h }

pub same_moved : {X : Type 0} (f : X → List (List ℕ)) (xs ys : List X) (ms : List (List ℕ)) → IsPermutation xs ys → SameLists (flat_map f xs) ms → SameLists (flat_map f ys) ms
same_moved f xs ys ms p s = record {
  often = λ v. count_moved v f xs ys p ∙ s.often v;
  members = λ l h. s.members l (flat_moved f ys xs (IsPermutation-sym xs ys p) l h);
}

-- an empty list more
pub same_without : (ls ms : List (List ℕ)) → SameLists ([] ∷ ls) ms → SameLists ls ms
same_without ls ms s = record { often = λ v. s.often v; members = λ l h. s.members l (Contains-there [] ls l h) }
