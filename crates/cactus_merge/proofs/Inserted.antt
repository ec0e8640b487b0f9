-- A list with one number more, in its place by size.
use Rattle.std.proofs.Common.{◌≡◌, ℕ, Bool, ◌<◌, ◌≤◌, zero, suc, List, [], ◌∷◌, ◌++◌, length, take, drop, refl, ap, ◌∙◌, arith}
use Rattle.std.specs.Prelude.{slice_index, if◌then◌else◌}
use Rattle.std.proofs.lemmas.Bool.{lt-ltb, le-ltb}
use Rattle.cactus_merge.specs.Assembled.{inserted}

pub inserted_at : (x : ℕ) (l : List ℕ) (p : ℕ) → p ≤ length l → ((k : ℕ) → k < p → slice_index l k < x) → (p < length l → x ≤ slice_index l p) → inserted x l ≡ take p l ++ x ∷ drop p l
inserted_at x [] zero h b s = refl
inserted_at x [] (suc p) h b s = absurd (omega (arith, h))
inserted_at x (y ∷ ys) zero h b s = ap (λ (b : Bool). if b then y ∷ inserted x ys else x ∷ y ∷ ys) (le-ltb y x (s (omega arith)))
inserted_at x (y ∷ ys) (suc p) h b s =
    let rest : inserted x ys ≡ take p ys ++ x ∷ drop p ys = inserted_at x ys p (omega (arith, h)) (λ k q. b (suc k) (omega (arith, q))) (λ q. s (omega (arith, q))) in
    ap (λ (b : Bool). if b then y ∷ inserted x ys else x ∷ y ∷ ys) (lt-ltb y x (b 0 (omega arith))) ∙ ap (λ l. y ∷ l) rest
