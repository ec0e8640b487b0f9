-- How many vertices have not entered.
use Rattle.std.proofs.Common.{◌≡◌, ℕ, zero, suc, ◌<◌, ◌≤◌, List, [], ◌∷◌, length, get_or, set, ⊎_elim, refl, ◌∙◌, ap, arith, ltb}
use Rattle.std.specs.Prelude.{if◌then◌else◌}
use Rattle.std.specs.List.{sum_by}
use Rattle.std.proofs.lemmas.List.Sums.{sum_by-cons}
use Rattle.std.proofs.lemmas.Bool.Decides.{nat_tests}
use Rattle.region_sweep.proofs.Labelling.{lowered_set}

abbrev pub counts : ℕ → ℕ
counts label = if ltb 0 label then 1 else 0

abbrev pub left : List ℕ → ℕ
left labels = sum_by counts labels

counts_some : (x : ℕ) → 1 ≤ x → counts x ≡ 1
counts_some x one = grind (arith, nat_tests)

counts_le : (x y : ℕ) → (x ≡ 0 → y ≡ 0) → counts y ≤ counts x
counts_le zero y h = omega (arith, ap counts (h refl))
counts_le (suc x) zero h = omega arith
counts_le (suc x) (suc y) h = omega (arith, counts_some (suc x) (omega arith), counts_some (suc y) (omega arith))

-- who has entered stays entered
abbrev pub Stays : List ℕ → List ℕ → Type 0
Stays xs ys = (v : ℕ) → get_or xs v 0 ≡ 0 → get_or ys v 0 ≡ 0

pub entering_stays : (xs ys : List ℕ) (t : ℕ) → ys ≡ set xs t 0 → Stays xs ys
entering_stays xs ys t is v e = ap (λ (l : List ℕ). get_or l v 0) is ∙ ⊎_elim
    (λ (same : get_or (set xs t 0) v 0 ≡ get_or xs v 0). same ∙ e)
    (λ z. z)
    (lowered_set xs t v)

left_le : (xs ys : List ℕ) → length ys ≡ length xs → Stays xs ys → left ys ≤ left xs
left_le [] [] long stays = omega arith
left_le [] (y ∷ ys) long stays = absurd (omega arith)
left_le (x ∷ xs) [] long stays = absurd (omega arith)
left_le (x ∷ xs) (y ∷ ys) long stays =
    omega (arith, sum_by-cons counts x xs, sum_by-cons counts y ys, counts_le x y (stays 0), left_le xs ys (omega arith) (λ v. stays (suc v)))

-- fewer are left after one more has entered
pub left_falls : (xs ys : List ℕ) (t : ℕ) → length ys ≡ length xs → Stays xs ys → 1 ≤ get_or xs t 0 → get_or ys t 0 ≡ 0 → left ys < left xs
left_falls [] ys t long stays some none = absurd (omega arith)
left_falls (x ∷ xs) [] t long stays some none = absurd (omega arith)
left_falls (x ∷ xs) (y ∷ ys) zero long stays some none =
    omega (arith, sum_by-cons counts x xs, sum_by-cons counts y ys, counts_some x some, ap counts none, left_le xs ys (omega arith) (λ v. stays (suc v)))
left_falls (x ∷ xs) (y ∷ ys) (suc t) long stays some none =
    omega (arith, sum_by-cons counts x xs, sum_by-cons counts y ys, counts_le x y (stays 0), left_falls xs ys t (omega arith) (λ v. stays (suc v)) some none)
