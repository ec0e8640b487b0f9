-- Ends of lists, element by element.
use Rattle.std.proofs.Common.{◌≡◌, ℕ, zero, suc, ◌-◌, ◌≤◌, ◌<◌, List, [], ◌∷◌, ◌++◌, length, get_or, set, take, drop, ap, ◌∙◌, sym, refl, arith}
use Rattle.std.proofs.Math.Seq.{drop-cons}

pub drop_at : {X : Type 0} (xs : List X) (i : ℕ) (x : X) → 0 < i → i ≤ length xs → x ≡ get_or xs (i - 1) x → drop (i - 1) xs ≡ x ∷ drop i xs
drop_at xs i x some within is =
    let next : suc (i - 1) ≡ i = omega arith in
    drop-cons xs (i - 1) x (omega arith) ∙ ap (λ y. y ∷ drop (suc (i - 1)) xs) (sym is) ∙ ap (λ k. x ∷ drop k xs) next

-- a list whose end is that of another
pub late : (xs ys : List ℕ) (k j : ℕ) → length xs ≡ length ys → k ≤ j → get_or (take k xs ++ drop k ys) j 0 ≡ get_or ys j 0
late xs ys zero j e h = refl
late [] [] (suc k) j e h = refl
late [] (y ∷ ys) (suc k) j e h = absurd (omega (arith, e))
late (x ∷ xs) [] (suc k) j e h = absurd (omega (arith, e))
late (x ∷ xs) (y ∷ ys) (suc k) zero e h = absurd (omega (arith, h))
late (x ∷ xs) (y ∷ ys) (suc k) (suc j) e h = late xs ys k j (omega (arith, e)) (omega (arith, h))

pub early : (xs ys : List ℕ) (k j : ℕ) → length xs ≡ length ys → j < k → j < length xs → get_or (take k xs ++ drop k ys) j 0 ≡ get_or xs j 0
early xs ys zero j e h w = absurd (omega (arith, h))
early [] ys (suc k) j e h w = absurd (omega (arith, w))
early (x ∷ xs) [] (suc k) j e h w = absurd (omega (arith, e))
early (x ∷ xs) (y ∷ ys) (suc k) zero e h w = refl
early (x ∷ xs) (y ∷ ys) (suc k) (suc j) e h w = early xs ys k j (omega (arith, e)) (omega (arith, h)) (omega (arith, w))

pub joint_length : (xs ys : List ℕ) (k : ℕ) → length xs ≡ length ys → length (take k xs ++ drop k ys) ≡ length ys
joint_length xs ys zero e = refl
joint_length [] [] (suc k) e = refl
joint_length [] (y ∷ ys) (suc k) e = absurd (omega (arith, e))
joint_length (x ∷ xs) [] (suc k) e = absurd (omega (arith, e))
joint_length (x ∷ xs) (y ∷ ys) (suc k) e = ap suc (joint_length xs ys k (omega (arith, e)))

pub joint_set : (xs ys : List ℕ) (k : ℕ) → length xs ≡ length ys → k < length ys → set (take (suc k) xs ++ drop (suc k) ys) k (get_or ys k 0) ≡ take k xs ++ drop k ys
joint_set [] ys k e h = absurd (omega (arith, e, h))
joint_set (x ∷ xs) [] k e h = absurd (omega (arith, e))
joint_set (x ∷ xs) (y ∷ ys) zero e h = refl
joint_set (x ∷ xs) (y ∷ ys) (suc k) e h = ap (λ l. x ∷ l) (joint_set xs ys k (omega (arith, e)) (omega (arith, h)))
