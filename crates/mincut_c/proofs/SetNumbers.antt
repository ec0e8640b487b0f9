-- Numbers of sets that are written one set after another.
use Rattle.std.proofs.Common.{◌≡◌, ℕ, ◌+◌, ◌<◌, ◌≤◌, Bool, true, false, List, [], inl, inr, length, get_or, sym, ◌∙◌, subst, arith, true≢false}
use Rattle.std.specs.Prelude.{◌↔◌, if◌then◌else◌}
use Rattle.std.specs.List.{AllPairs}
use Rattle.std.proofs.lemmas.Bool.{cases_lt}
use Rattle.cut_definitions.specs.Cuts.{has}
use Rattle.edge_augment.specs.Laws.{AreDisjoint}

-- the numbers of the first sets
abbrev pub TellsSetsTo : ℕ → ℕ → List (List ℕ) → List ℕ → Type 0
TellsSetsTo n k sets set_of = ((v : ℕ) → v < n → get_or set_of v 0 ≤ k) × ((v j : ℕ) → v < n → j < k → (get_or set_of v 0 ≡ j + 1) ↔ (has (get_or sets j []) (v + 1) ≡ true))

-- what the number of a vertex becomes with the next set
next_small : (b : Bool) (k x y : ℕ) → x ≤ k → y ≡ (if b then k + 1 else x) → y ≤ k + 1
next_small true k x y small is = omega (arith, is)
next_small false k x y small is = omega (arith, is, small)

next_here : (b : Bool) (k x y : ℕ) → x ≤ k → y ≡ (if b then k + 1 else x) → (y ≡ k + 1) ↔ (b ≡ true)
next_here true k x y small is = (λ e. λ i. true, λ e. is)
next_here false k x y small is = (λ e. absurd (omega (arith, is, small, e)), λ e. absurd (true≢false (sym e)))

next_there : (b : Bool) (c : Bool) (j k x y : ℕ) → j < k → (b ≡ true → c ≡ true → ⊥) → (x ≡ j + 1) ↔ (c ≡ true) → y ≡ (if b then k + 1 else x) → (y ≡ j + 1) ↔ (c ≡ true)
next_there true c j k x y lt apart told is = (λ e. absurd (omega (arith, is, e, lt)), λ e. absurd (apart (λ i. true) e))
next_there false c j k x y lt apart told is = (λ e. told.0 (sym is ∙ e), λ e. is ∙ told.1 e)

-- a set more
pub set_more : (n k : ℕ) (sets : List (List ℕ)) (old new : List ℕ) → AllPairs AreDisjoint sets → k < length sets → TellsSetsTo n k sets old →
    ((v : ℕ) → v < n → get_or new v 0 ≡ (if has (get_or sets k []) (v + 1) then k + 1 else get_or old v 0)) → TellsSetsTo n (k + 1) sets new
set_more n k sets old new disjoint there told is = (
  λ v lt. next_small (has (get_or sets k []) (v + 1)) k (get_or old v 0) (get_or new v 0) (told.0 v lt) (is v lt),
  λ v j lt below. elim (cases_lt j k) [
    | inl before ↦ next_there (has (get_or sets k []) (v + 1)) (has (get_or sets j []) (v + 1)) j k (get_or old v 0) (get_or new v 0) before
        (λ here first. disjoint j k [] before there (v + 1) first here) (told.1 v j lt before) (is v lt)
    | inr after ↦ (let same : k ≡ j = omega arith in
        subst (λ (i : ℕ). (get_or new v 0 ≡ i + 1) ↔ (has (get_or sets i []) (v + 1) ≡ true)) same (next_here (has (get_or sets k []) (v + 1)) k (get_or old v 0) (get_or new v 0) (told.0 v lt) (is v lt)))
  ],
)
