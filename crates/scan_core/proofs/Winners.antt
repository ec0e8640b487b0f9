-- Who won a vertex, and who marked an edge.
use Rattle.std.proofs.Common.{◌≡◌, ◌≢◌, ℕ, zero, suc, ◌<◌, Bool, true, false, if◌then◌else◌, List, [], ◌∷◌, length, get_or, refl, sym, ap, ◌∙◌, subst, arith}
use Rattle.std.specs.Prelude.{Contains}
use Rattle.std.proofs.lemmas.List.{get_or_past}
use Rattle.std.proofs.lemmas.List.Sums.{sum_by-cons, get_or-le-sum_by}
use Rattle.std.specs.Prelude.{sum_by}
use mathlib.Core.Logic.{dite}
use native.Mathlib.Decide.{dec_le}
use Rattle.scan_core.specs.Machine.{Knows, Machine, ended, seat_at, times, IsLive, IsKept}
use Rattle.scan_core.specs.Laws.{LawOfWinners, LawOfMarkers}
use Rattle.scan_core.proofs.Keeps.{at_or, or_at}

module _ (f : Knows → ℕ) (none : f ended ≡ 0) where
  -- if the sum is 0, each is 0
  all_none : (l : List Knows) → sum_by f l ≡ 0 → (j : ℕ) → f (get_or l j ended) ≡ 0
  all_none l sum j = dite (dec_le (length l) j)
      (λ past. ap f (get_or_past l j ended past) ∙ none)
      (λ within. let le = get_or-le-sum_by f l j ended (omega arith) in omega arith)

  -- if the sum is 1, one is 1 and all others are 0
  only_one : (l : List Knows) → sum_by f l ≡ 1 → (k : ℕ) × (k < length l) × (f (get_or l k ended) ≡ 1) × ((j : ℕ) → j ≢ k → f (get_or l j ended) ≡ 0)
  only_one [] sum = absurd (omega arith)
  only_one (x ∷ xs) sum = first (f x) refl (λ rest. only_one xs rest)
    where
      first : (n : ℕ) → f x ≡ n → (sum_by f xs ≡ 1 → (k : ℕ) × (k < length xs) × (f (get_or xs k ended) ≡ 1) × ((j : ℕ) → j ≢ k → f (get_or xs j ended) ≡ 0)) → (k : ℕ) × (k < length (x ∷ xs)) × (f (get_or (x ∷ xs) k ended) ≡ 1) × ((j : ℕ) → j ≢ k → f (get_or (x ∷ xs) j ended) ≡ 0)
      first zero is again =
          let all = sum_by-cons f x xs in
          let r = again (omega arith) in
          let lt : r.0 < length xs = r.1 in
          (suc r.0, omega arith, r.2, others r.0 r.3)
        where
          others : (k : ℕ) → ((j : ℕ) → j ≢ k → f (get_or xs j ended) ≡ 0) → (j : ℕ) → j ≢ suc k → f (get_or (x ∷ xs) j ended) ≡ 0
          others k h zero apart = is
          others k h (suc j) apart = h j (λ e. apart (ap suc e))
      first (suc zero) is again =
          let all = sum_by-cons f x xs in (0, omega arith, is, others (omega arith))
        where
          others : sum_by f xs ≡ 0 → (j : ℕ) → j ≢ 0 → f (get_or (x ∷ xs) j ended) ≡ 0
          others rest zero apart = absurd (apart refl)
          others rest (suc j) apart = all_none xs rest j
      first (suc (suc n)) is again = let all = sum_by-cons f x xs in absurd (omega arith)

-- a seat that has something is live
is_live : (m : Machine) (k : ℕ) → IsKept m → k < length m.seats → (seat_at m k ≢ ended) → IsLive m k
is_live m k kept lt not = (lt, cases (seat_at m k).live refl)
  where
    cases : (b : Bool) → (seat_at m k).live ≡ b → (seat_at m k).live ≡ true
    cases true is = is
    cases false is = absurd (not (kept.gone k (seat_at m k) (at_or m.seats k ended lt) is))

pub law_of_winners : LawOfWinners
law_of_winners m kept v taken =
    let f : Knows → ℕ = λ s. times v s.won in
    let one : sum_by f m.seats ≡ 1 = kept.once v ∙ ap (λ (b : Bool). if b then 1 else 0) taken in
    let r = only_one f refl m.seats one in
    let won : f (seat_at m r.0) ≡ 1 = r.2 in
    (r.0, is_live m r.0 kept r.1 (λ e. let zero_is : f (seat_at m r.0) ≡ 0 = ap f e in absurd (omega arith)), r.2, r.3)

pub law_of_markers : LawOfMarkers
law_of_markers m kept e marked =
    let h = kept.marker e marked in
    let r = or_at m.seats h.0 h.1 ended h.2 in
    let has : Contains (seat_at m h.0).own e = subst (λ (x : Knows). Contains x.own e) (sym r.1) h.3 in
    (h.0, is_live m h.0 kept r.0 (λ same. let none : Contains [] e = subst (λ (x : Knows). Contains x.own e) same has in let lt = none.1 in absurd (omega arith)), has)
