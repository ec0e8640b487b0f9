-- Least vertices of several parts in any order, and cycles that are faced by those at their ends.
use Rattle.std.proofs.Common.{◌≡◌, ℕ, zero, suc, ◌+◌, ◌<◌, ◌≤◌, Bool, true, false, cond, get_or, Some, List, [], ◌∷◌, ◌++◌, length, map, reverse, ap, ◌∙◌, sym, refl, arith}
use Rattle.std.specs.Prelude.{nat_lt}
use Rattle.std.specs.List.{Contains}
use Rattle.std.specs.List.Sorted.{IsPermutation, IsNonDecreasingBy}
use Rattle.std.proofs.lemmas.List.{length-map, length-reverse, get_or-map}
use Rattle.std.proofs.lemmas.List.Sorted.{Contains-permutation, IsPermutation-sym, IsPermutation-refl, IsPermutation-reverse, IsNonDecreasingBy-from_default}
use Rattle.cut_definitions.specs.Cuts.{least}
use Rattle.cut_definitions.proofs.Lists.{Contains-here, Contains-there, Contains-nil}
use Rattle.cut_definitions.proofs.Values.{least-le, Contains-least}
use Rattle.rooted_cactus.specs.Entries.{top_first}
use Rattle.rooted_cactus.specs.Trims.{Each}
use Rattle.rooted_cactus.proofs.Tops.{reversed_top, top_twice, top_map}
use Rattle.canonical_cactus.specs.Canonical.{Arranged, all_vertices}
use Rattle.canonical_cactus.specs.Standing.{least_in, lesser_of, or_zero}
use Rattle.canonical_cactus.specs.Making as Making
use Rattle.canonical_cactus.specs.Making.{ends_rise}
use Rattle.canonical_cactus.specs.declared.parts.Placed.{Placed}
use Rattle.canonical_cactus.proofs.Ascending.{least_both}
use Rattle.canonical_cactus.proofs.Ordered.{ends_at}
use Rattle.tree_flattening.specs.Arranged.{last_or, faced}

-- ---- lists
pub each_mapped : {X Y Z : Type 0} (P : X → Y → Type 0) (f : Z → X) (g : Z → Y) (zs : List Z) → ((z : Z) → Contains zs z → P (f z) (g z)) → Each P (map f zs) (map g zs)
each_mapped P f g [] h = tt
each_mapped P f g (z ∷ zs) h = (h z (Contains-here z zs), each_mapped P f g zs (λ y k. h y (Contains-there z zs y k)))

pub sorted_mapped : {X : Type 0} (g : X → ℕ) (f : ℕ → X) (key : ℕ → ℕ) (xs : List ℕ) → ((x : ℕ) → Contains xs x → g (f x) ≡ key x) → IsNonDecreasingBy key xs → IsNonDecreasingBy g (map f xs)
sorted_mapped g f key xs same sorted =
    let at : (k : ℕ) → k < length xs → g (get_or (map f xs) k (f 0)) ≡ key (get_or xs k 0) = λ k m. ap g (get_or-map f xs k 0 (f 0) m) ∙ same (get_or xs k 0) (k, m, same_at xs k m) in
    IsNonDecreasingBy-from_default g (map f xs) (f 0) (λ i j le lt.
    let below : j < length xs = omega (arith, lt, length-map xs f) in
    omega (arith, at i (omega (arith, le, below)), at j below, sorted i j 0 le below))
  where
    same_at : (xs : List ℕ) (k : ℕ) → k < length xs → get_or xs k (get_or xs k 0) ≡ get_or xs k 0
    same_at [] k m = absurd (omega (arith, m))
    same_at (x ∷ xs) zero m = refl
    same_at (x ∷ xs) (suc k) m = same_at xs k (omega (arith, m))

last_at : (x : ℕ) (xs : List ℕ) (d : ℕ) → get_or (x ∷ xs) (length xs) d ≡ last_or x xs
last_at x [] d = refl
last_at x (y ∷ ys) d =
    let many : length (y ∷ ys) ≡ suc (length ys) = omega arith in
    ap (λ k. get_or (x ∷ (y ∷ ys)) k d) many ∙ last_at y ys d

pub none_left : (xs : List ℕ) → length xs ≡ 0 → xs ≡ []
none_left [] h = refl
none_left (x ∷ xs) h =
    let no : ⊥ = omega (arith, h) in
    absurd no

pub last_in : (x : ℕ) (xs : List ℕ) → Contains (x ∷ xs) (last_or x xs)
last_in x [] = Contains-here x []
last_in x (y ∷ ys) = Contains-there x (y ∷ ys) (last_or y ys) (last_in y ys)

-- ---- least numbers
pub least_some : (xs : List ℕ) → 1 ≤ length xs → least_in xs ≡ Some (least xs)
least_some [] h = absurd (omega (arith, h))
least_some (x ∷ xs) h = refl

-- the least of numbers is that in any order
pub least_moved : (xs ys : List ℕ) → IsPermutation xs ys → least_in xs ≡ least_in ys
least_moved [] [] h = refl
least_moved [] (y ∷ ys) h = absurd (Contains-nil y (Contains-permutation (y ∷ ys) [] y (IsPermutation-sym [] (y ∷ ys) h) (Contains-here y ys)))
least_moved (x ∷ xs) [] h = absurd (Contains-nil x (Contains-permutation (x ∷ xs) [] x h (Contains-here x xs)))
least_moved (x ∷ xs) (y ∷ ys) h =
    let low : least (x ∷ xs) ≤ least (y ∷ ys) = least-le (x ∷ xs) (least (y ∷ ys)) (Contains-permutation (y ∷ ys) (x ∷ xs) _ (IsPermutation-sym (x ∷ xs) (y ∷ ys) h) (Contains-least y ys)) in
    let high : least (y ∷ ys) ≤ least (x ∷ xs) = least-le (y ∷ ys) (least (x ∷ xs)) (Contains-permutation (x ∷ xs) (y ∷ ys) _ h (Contains-least x xs)) in
    let same : least (x ∷ xs) ≡ least (y ∷ ys) = omega (arith, low, high) in
    ap Some same

-- the least vertex of all parts is the least of those of each
pub leasts_known : {X : Type 0} (f : X → Arranged) (k : X → ℕ) (xs : List X) → ((x : X) → Contains xs x → least_in (f x).vertices ≡ Some (k x)) → (vs : List ℕ) → least_in (vs ++ all_vertices (map f xs)) ≡ least_in (vs ++ map k xs)
leasts_known f k xs h vs = least_both vs (all_vertices (map f xs)) ∙ ap (lesser_of (least_in vs)) (alone f k xs h) ∙ sym (least_both vs (map k xs))
  where
    alone : {X : Type 0} (f : X → Arranged) (k : X → ℕ) (xs : List X) → ((x : X) → Contains xs x → least_in (f x).vertices ≡ Some (k x)) → least_in (all_vertices (map f xs)) ≡ least_in (map k xs)
    alone f k [] h = refl
    alone f k (x ∷ xs) h =
        least_both (f x).vertices (all_vertices (map f xs)) ∙ ap (λ o. lesser_of o (least_in (all_vertices (map f xs)))) (h x (Contains-here x xs))
        ∙ ap (lesser_of (Some (k x))) (alone f k xs (λ y m. h y (Contains-there x xs y m))) ∙ sym (least_both (k x ∷ []) (map k xs))

-- ---- cycles
pub faced_one : (f : ℕ → ℕ) (h : ℕ) → faced f h (h ∷ []) ≡ h ∷ []
faced_one f h = one (nat_lt (f h) (f h))
  where
    one : (b : Bool) → cond b (reverse (h ∷ [])) (h ∷ []) ≡ h ∷ []
    one true = refl
    one false = refl

pub faced_moves : (f : ℕ → ℕ) (h : ℕ) (xs : List ℕ) → IsPermutation xs (faced f h xs)
faced_moves f h xs = moves (nat_lt (f (last_or h xs)) (f h)) xs
  where
    moves : (b : Bool) (xs : List ℕ) → IsPermutation xs (cond b (reverse xs) xs)
    moves true xs = IsPermutation-reverse xs
    moves false xs = IsPermutation-refl xs

pub faced_long : (f : ℕ → ℕ) (h : ℕ) (xs : List ℕ) → length (faced f h xs) ≡ length xs
faced_long f h xs = long (nat_lt (f (last_or h xs)) (f h)) xs
  where
    long : (b : Bool) (xs : List ℕ) → length (cond b (reverse xs) xs) ≡ length xs
    long true xs = length-reverse xs
    long false xs = refl

-- children that were taken from the last on, turned by their ends
pub faces : (placed : ℕ → Placed) (f : ℕ → ℕ) (h : ℕ) (rest : List ℕ) → (placed h).least ≡ Some (f h) → (placed (last_or h rest)).least ≡ Some (f (last_or h rest)) →
    Making.faced (map placed (reverse (h ∷ rest))) ≡ map placed (faced f h (h ∷ rest))
faces placed f h rest first last =
    let run = h ∷ rest in
    let ps = map placed run in
    let long : length ps ≡ length rest + 1 = omega (arith, length-map run placed) in
    let at_last : get_or ps (length rest) (placed 0) ≡ placed (last_or h rest) = get_or-map placed run (length rest) 0 (placed 0) (omega arith) ∙ ap placed (last_at h rest 0) in
    let rise : nat_lt (f (last_or h rest)) (f h) ≡ ends_rise (top_first ps) =
    ends_at ps (placed 0) (placed 0) (f (last_or h rest)) (f h) (length rest) (omega (arith, long)) (omega (arith, long)) (sym (ap (λ (q : Placed). or_zero q.least) at_last ∙ ap or_zero last)) (sym (ap or_zero first)) in
    ap Making.faced (turned run) ∙ ap (λ b. cond b (top_first ps) (top_first (top_first ps))) (sym rise) ∙ closed run (nat_lt (f (last_or h rest)) (f h))
  where
    turned : (run : List ℕ) → map placed (reverse run) ≡ top_first (map placed run)
    turned run = ap (map placed) (reversed_top run) ∙ top_map placed run

    closed : (run : List ℕ) (b : Bool) → cond b (top_first (map placed run)) (top_first (top_first (map placed run))) ≡ map placed (cond b (reverse run) run)
    closed run true = sym (turned run)
    closed run false = top_twice (map placed run)
