-- The least of several numbers, one after another.
use Rattle.std.proofs.Common.{◌≡◌, ℕ, List, [], ◌∷◌, ◌++◌, ◌≤◌, length, get_or, min, ap, ◌∙◌, sym, refl, arith}
use Rattle.cut_definitions.specs.Cuts.{least}

pub least_swallow : (x y : ℕ) (zs : List ℕ) → least (x ∷ (y ∷ zs)) ≡ least (min x y ∷ zs)
least_swallow x y [] = refl
least_swallow x y (z ∷ zs) = omega arith

pub least_twice : (x : ℕ) (zs : List ℕ) → least (x ∷ (x ∷ zs)) ≡ least (x ∷ zs)
least_twice x zs = least_swallow x x zs ∙ ap (λ k. least (k ∷ zs)) (omega arith)

-- the least of a first part stands for it
pub least_front : (x : ℕ) (xs ys : List ℕ) → least (x ∷ (xs ++ ys)) ≡ least (least (x ∷ xs) ∷ ys)
least_front x [] ys = refl
least_front x (y ∷ xs) ys = least_swallow x y (xs ++ ys) ∙ least_front (min x y) xs ys ∙ ap (λ k. least (k ∷ ys)) (sym (least_swallow x y xs))

-- the least of some numbers, found from the first of them on
pub least_of_first : (xs ys : List ℕ) → 1 ≤ length xs → least (xs ++ ys) ≡ least (least (get_or xs 0 0 ∷ xs) ∷ ys)
least_of_first [] ys some = absurd (omega (arith, some))
least_of_first (x ∷ xs) ys some = least_front x xs ys ∙ ap (λ k. least (k ∷ ys)) (sym (least_twice x xs))
