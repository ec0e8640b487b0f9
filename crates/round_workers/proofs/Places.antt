-- The places of a share, a step apart.
use Rattle.std.proofs.Common.{◌≡◌, ℕ, ◌+◌, ◌*◌, ◌/◌, ◌%◌, ◌<◌, ◌≤◌, ⊎_elim, sym, ◌∙◌, ap, subst, arith}
use Rattle.std.specs.Prelude.{◌≢◌}
use Rattle.std.proofs.lemmas.Bool.{cases_lt}
use Rattle.std.proofs.lemmas.Nat.{div-add-mod'}
use Rattle.std.proofs.Math.Nat.{mod-eq_of_lt, mul-le-mul_right, add-mul-mod_self_right}

-- less than a step apart, two places of one share are the same
pub same_place : (w a e : ℕ) → a ≤ e → e < a + w → e % w ≡ a % w → e ≡ a
same_place w a e le lt same =
    let ea : e / w * w + e % w ≡ e = div-add-mod' e w in
    let aa : a / w * w + a % w ≡ a = div-add-mod' a w in
    ⊎_elim
    (λ (l : e / w < a / w). absurd (let m : (e / w + 1) * w ≤ a / w * w = mul-le-mul_right w (omega arith) in grind arith))
    (λ (ge : a / w ≤ e / w). ⊎_elim
    (λ (l : a / w < e / w). absurd (let m : (a / w + 1) * w ≤ e / w * w = mul-le-mul_right w (omega arith) in grind arith))
    (λ (k : e / w ≤ a / w). let q : e / w ≡ a / w = omega arith in sym ea ∙ (ap (λ (k : ℕ). k * w + e % w) q ∙ (ap (λ (k : ℕ). a / w * w + k) same ∙ aa)))
    (cases_lt (a / w) (e / w)))
    (cases_lt (e / w) (a / w))

pub next_place : (share shares edge : ℕ) → edge % shares ≡ share → (edge + shares) % shares ≡ share
next_place share shares edge at =
    let e : edge + 1 * shares ≡ edge + shares = omega arith in
    subst (λ (k : ℕ). k % shares ≡ share) e (add-mul-mod_self_right edge 1 shares ∙ at)

pub below_step : (share shares edge e : ℕ) → edge % shares ≡ share → e < edge + shares → e % shares ≡ share → e ≢ edge → e < edge
below_step share shares edge e at l is ne =
    ⊎_elim (λ (lt : e < edge). lt) (λ (ge : edge ≤ e). absurd (ne (same_place shares edge e ge l (is ∙ sym at)))) (cases_lt e edge)

pub no_place : (share shares e : ℕ) → share < shares → e < share → e % shares ≡ share → ⊥
no_place share shares e lt l is = let same : e % shares ≡ e = mod-eq_of_lt (omega arith) in omega (arith, same, is)
