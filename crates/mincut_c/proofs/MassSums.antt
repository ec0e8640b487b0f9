-- What all vertices weigh together, and that no balance is more.
use Rattle.std.proofs.Common.{◌≡◌, ℕ, zero, suc, ◌-◌, ◌≤◌, true, List, length, take, get_or, ap, ◌∙◌, subst, sym, refl, arith, add-one}
use Rattle.std.specs.Prelude.{sum}
use Rattle.std.specs.List.{sum_by}
use Rattle.std.proofs.Math.Seq.{take-length}
use Rattle.std.proofs.lemmas.List.Sums.{sum_by_more}
use Rattle.balanced_cut.proofs.Gathered.{all_among, held_among, mass_among}
use Rattle.cut_definitions.specs.Balance.{IsBest, balance, mass}
use Rattle.cut_definitions.specs.Members.{SameMembers}
use Rattle.cut_definitions.proofs.ListLaws.{All-from_each}
use Rattle.std.proofs.lemmas.List.Elements.{All-contains}
use Rattle.cut_definitions.specs.Cuts.{has}
use Rattle.cut_definitions.specs.Weight.{VertexSet}
use Rattle.cut_definitions.proofs.Masses.{mass-complement}

abbrev everything : VertexSet
everything v = true

among_sum : (masses : List ℕ) (k : ℕ) → k ≤ length masses → mass_among masses everything k ≡ sum_by (λ x. x) (take k masses)
among_sum masses zero h = refl
among_sum masses (suc k) h =
    let k_is : suc k - 1 ≡ k = omega arith in
    omega (
      arith,
      held_among masses everything (suc k) (omega arith) refl,
      ap (mass_among masses everything) k_is,
      ap (λ i. get_or masses i 0) k_is,
      among_sum masses k (omega (arith, h)),
      sum_by_more (λ x. x) masses k 0 (omega (arith, h)),
      ap (λ i. sum_by (λ x. x) (take i masses)) (add-one k),
    )

whole : (masses : List ℕ) → mass masses everything ≡ sum masses
whole masses =
    sym (all_among masses everything (length masses) refl)
    ∙ among_sum masses (length masses) (omega arith)
    ∙ ap (sum_by (λ x. x)) (take-length masses)

-- a balance is at most what all vertices weigh together
pub balance_within : (masses side : List ℕ) → balance masses side ≤ sum masses
balance_within masses side = omega (arith, mass-complement masses (has side), whole masses)

-- a best side of one list is one of a list with the same members
pub best_as : (masses ms side : List ℕ) (xs ys : List (List ℕ)) → ms ≡ masses → SameMembers xs ys → IsBest ms xs side → IsBest masses ys side
best_as masses ms side xs ys e same b =
    subst (λ (ws : List ℕ). IsBest ws ys side) e (record {
      member = (same side).0 b.member;
      none_greater = All-from_each (λ (other : List ℕ). balance ms other ≤ balance ms side) ys
          (λ other at. All-contains (λ (o : List ℕ). balance ms o ≤ balance ms side) xs other b.none_greater ((same other).1 at));
    })
