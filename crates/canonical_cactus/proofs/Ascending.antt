-- One more part at the end of a row: its least vertices, and whether they ascend.
use Rattle.std.proofs.Common.{◌≡◌, ℕ, zero, suc, ◌+◌, ◌<◌, min, inl, inr, true, ◌&&◌, ◌||◌, ◌==◌, Some, List, [], ◌∷◌, ◌++◌, length, take, map, ap, ◌∙◌, sym, refl, arith, append-nil}
use Rattle.std.specs.Prelude.{nat_lt, slice_get}
use Rattle.std.specs.List.{list_all, concat}
use Rattle.std.proofs.lemmas.Bool.{and_parts, and_from, ltb-true, lt-ltb, cases_eq, eq-eqb, ne_eqb}
use Rattle.std.proofs.lemmas.List.{map-append}
use Rattle.std.proofs.lemmas.List.Folds.{list_all-append, concat-append}
use Rattle.std.proofs.Math.Bool.{and-true}
use Rattle.cut_definitions.specs.Cuts.{least}
use Rattle.cut_definitions.proofs.ListLaws.{taken}
use Rattle.cut_definitions.proofs.Bools.{same_tests}
use Rattle.canonical_cactus.specs.Canonical.{Arranged, all_vertices, leasts, ascend, last_from}
use Rattle.canonical_cactus.specs.Standing.{least_in, lesser_of, or_zero}

abbrev pub first_or_zero : List ℕ → ℕ
first_or_zero [] = 0
first_or_zero (x ∷ xs) = x

abbrev pub last_or_zero : List ℕ → ℕ
last_or_zero [] = 0
last_or_zero (x ∷ xs) = last_from x xs

-- ---- lists
pub mapped : {X Y : Type 0} (f : X → Y) (xs : List X) (i : ℕ) (x : X) → slice_get xs i ≡ Some x → map f (take (i + 1) xs) ≡ map f (take i xs) ++ f x ∷ []
mapped f xs i x e = ap (map f) (taken xs i x e) ∙ map-append f (take i xs) (x ∷ [])

-- ---- least numbers
min_assoc : (a b c : ℕ) → min a (min b c) ≡ min (min a b) c
min_assoc a b c = omega arith

one_option : (a b : ℕ) → Some a ≡ Some b → a ≡ b
one_option a b e = cc

pub least_both : (xs ys : List ℕ) → least_in (xs ++ ys) ≡ lesser_of (least_in xs) (least_in ys)
least_both [] ys = refl
least_both (x ∷ []) [] = refl
least_both (x ∷ []) (y ∷ ys) = refl
least_both (x ∷ (z ∷ zs)) [] = ap least_in (append-nil (x ∷ (z ∷ zs)))
least_both (x ∷ (z ∷ zs)) (y ∷ ys) =
    let rest : least ((z ∷ zs) ++ (y ∷ ys)) ≡ min (least (z ∷ zs)) (least (y ∷ ys)) = one_option _ _ (least_both (z ∷ zs) (y ∷ ys)) in
    ap Some (ap (min x) rest ∙ min_assoc x (least (z ∷ zs)) (least (y ∷ ys)))

pub zero_least : (xs : List ℕ) → or_zero (least_in xs) ≡ least xs
zero_least [] = refl
zero_least (x ∷ xs) = refl

pub least_more : (xs : List Arranged) (a : Arranged) → least_in (all_vertices (xs ++ a ∷ [])) ≡ lesser_of (least_in (all_vertices xs)) (least_in a.vertices)
least_more xs a =
    ap (λ ls. least_in (concat ls)) (map-append (λ (b : Arranged). b.vertices) xs (a ∷ []))
    ∙ ap least_in (concat-append (map (λ (b : Arranged). b.vertices) xs) (a.vertices ∷ []))
    ∙ ap (λ l. least_in (all_vertices xs ++ l)) (append-nil a.vertices)
    ∙ least_both (all_vertices xs) a.vertices

pub leasts_more : (xs : List Arranged) (a : Arranged) → leasts (xs ++ a ∷ []) ≡ leasts xs ++ least a.vertices ∷ []
leasts_more xs a = map-append (λ (b : Arranged). least b.vertices) xs (a ∷ [])

pub last_more : (xs : List ℕ) (y : ℕ) → last_or_zero (xs ++ y ∷ []) ≡ y
last_more [] y = refl
last_more (x ∷ xs) y = last_of x xs y
  where
    last_of : (x : ℕ) (xs : List ℕ) (y : ℕ) → last_from x (xs ++ y ∷ []) ≡ y
    last_of x [] y = refl
    last_of x (z ∷ zs) y = last_of z zs y

pub each_more : (xs : List Arranged) (a : Arranged) → list_all (λ (b : Arranged). b.in_order) (xs ++ a ∷ []) ≡ (list_all (λ (b : Arranged). b.in_order) xs && a.in_order)
each_more xs a = list_all-append (λ (b : Arranged). b.in_order) xs (a ∷ []) ∙ ap (λ b. list_all (λ (b : Arranged). b.in_order) xs && b) (and-true a.in_order)

-- ---- ascending numbers
-- a number below all of a list is below its last
below_last : (u x : ℕ) (xs : List ℕ) → list_all (nat_lt u) (x ∷ xs) ≡ true → u < last_from x xs
below_last u x [] h = ltb-true u x (and_parts (nat_lt u x) true h).0
below_last u x (y ∷ ys) h = below_last u y ys (and_parts (nat_lt u x) (list_all (nat_lt u) (y ∷ ys)) h).1

all_more : (u : ℕ) (xs : List ℕ) (y : ℕ) → list_all (nat_lt u) xs ≡ true → u < y → list_all (nat_lt u) (xs ++ y ∷ []) ≡ true
all_more u [] y h l = and_from (nat_lt u y) true (lt-ltb u y l) refl
all_more u (x ∷ xs) y h l =
    let both = and_parts (nat_lt u x) (list_all (nat_lt u) xs) h in
    and_from (nat_lt u x) (list_all (nat_lt u) (xs ++ y ∷ [])) both.0 (all_more u xs y both.1 l)

all_fewer : (u : ℕ) (xs : List ℕ) (y : ℕ) → list_all (nat_lt u) (xs ++ y ∷ []) ≡ true → (list_all (nat_lt u) xs ≡ true) × (u < y)
all_fewer u [] y h = (refl, ltb-true u y (and_parts (nat_lt u y) true h).0)
all_fewer u (x ∷ xs) y h =
    let both = and_parts (nat_lt u x) (list_all (nat_lt u) (xs ++ y ∷ [])) h in
    let rest = all_fewer u xs y both.1 in
    (and_from (nat_lt u x) (list_all (nat_lt u) xs) both.0 rest.0, rest.1)

ascend_there : (x : ℕ) (xs : List ℕ) (y : ℕ) → ascend (x ∷ xs) ≡ true → last_from x xs < y → ascend ((x ∷ xs) ++ y ∷ []) ≡ true
ascend_there x [] y h l = and_from (list_all (nat_lt x) (y ∷ [])) true (all_more x [] y refl l) refl
ascend_there x (z ∷ zs) y h l =
    let both = and_parts (list_all (nat_lt x) (z ∷ zs)) (ascend (z ∷ zs)) h in
    and_from (list_all (nat_lt x) ((z ∷ zs) ++ y ∷ [])) (ascend ((z ∷ zs) ++ y ∷ []))
    (all_more x (z ∷ zs) y both.0 (omega (arith, below_last x z zs both.0, l)))
    (ascend_there z zs y both.1 l)

ascend_back : (x : ℕ) (xs : List ℕ) (y : ℕ) → ascend ((x ∷ xs) ++ y ∷ []) ≡ true → (ascend (x ∷ xs) ≡ true) × (last_from x xs < y)
ascend_back x [] y h = (refl, (all_fewer x [] y (and_parts (list_all (nat_lt x) (y ∷ [])) true h).0).1)
ascend_back x (z ∷ zs) y h =
    let both = and_parts (list_all (nat_lt x) ((z ∷ zs) ++ y ∷ [])) (ascend ((z ∷ zs) ++ y ∷ [])) h in
    let rest = ascend_back z zs y both.1 in
    (and_from (list_all (nat_lt x) (z ∷ zs)) (ascend (z ∷ zs)) (all_fewer x (z ∷ zs) y both.0).0 rest.0, rest.1)

-- one more number at the end of a list; i is 0 exactly if the list is empty
pub ascend_more : (xs : List ℕ) (i y : ℕ) → (i ≡ 0 → xs ≡ []) → (0 < i → 0 < length xs) → ascend (xs ++ y ∷ []) ≡ (ascend xs && ((i == 0) || nat_lt (last_or_zero xs) y))
ascend_more [] i y none some = elim (cases_eq i 0) [
  | inl e ↦ sym (ap (λ b. b || nat_lt 0 y) (eq-eqb i 0 e))
  | inr ne ↦ absurd (omega (arith, ne, some))
]
ascend_more (x ∷ xs) i y none some = elim (cases_eq i 0) [
  | inl e ↦ absurd (cons_none x xs (none e))
  | inr ne ↦ ascend_next x xs y ∙ sym (ap (λ b. ascend (x ∷ xs) && (b || nat_lt (last_from x xs) y)) (ne_eqb i 0 ne))
]
  where
    cons_none : (x : ℕ) (xs : List ℕ) → (x ∷ xs) ≡ [] → ⊥
    cons_none x xs e = cc

    ascend_next : (x : ℕ) (xs : List ℕ) (y : ℕ) → ascend ((x ∷ xs) ++ y ∷ []) ≡ (ascend (x ∷ xs) && nat_lt (last_from x xs) y)
    ascend_next x xs y =
        let next = last_from x xs in
        same_tests (ascend ((x ∷ xs) ++ y ∷ [])) (ascend (x ∷ xs) && nat_lt next y)
        (λ h. let r = ascend_back x xs y h in and_from (ascend (x ∷ xs)) (nat_lt next y) r.0 (lt-ltb next y r.1))
        (λ h. let both = and_parts (ascend (x ∷ xs)) (nat_lt next y) h in ascend_there x xs y both.0 (ltb-true next y both.1))

pub first_more : (xs : List ℕ) (y : ℕ) → 0 < length xs → first_or_zero (xs ++ y ∷ []) ≡ first_or_zero xs
first_more [] y h = absurd (omega (arith, h))
first_more (x ∷ xs) y h = refl

-- ---- the parts before a place
pub none_before : {X : Type 0} (f : X → Arranged) (xs : List X) (i : ℕ) → i ≡ 0 → leasts (map f (take i xs)) ≡ []
none_before f xs i e = ap (λ k. leasts (map f (take k xs))) e

pub some_before : {X : Type 0} (f : X → Arranged) (xs : List X) (i : ℕ) → i < length xs → 0 < i → 0 < length (leasts (map f (take i xs)))
some_before f [] i h k = absurd (omega (arith, h))
some_before f (x ∷ xs) zero h k = absurd (omega (arith, k))
some_before f (x ∷ xs) (suc i) h k = omega arith
