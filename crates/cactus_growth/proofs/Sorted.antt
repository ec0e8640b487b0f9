-- A list in ascending order, each of its numbers once.
use Rattle.std.proofs.Common.{◌≡◌, ℕ, ◌≤◌, List, [], ◌∷◌, IsPermutation, eqb, sym, subst}
use Rattle.std.specs.List.{Contains}
use Rattle.cactus_growth.specs.Growth.{AreWithin}
use Rattle.std.specs.List.Sorted.{IsStrictlyIncreasing, IsSorted}
use Rattle.std.specs.List.Retain.{IsFiltered, DiffersFromLast}
use Rattle.std.specs.Ordering.{nat_cmp}
use Rattle.std.proofs.lemmas.List.Filters.{dedup_is}
use Rattle.std.proofs.lemmas.List.Kept.{Contains-dedup_nat, Contains-from_dedup}
use Rattle.std.proofs.lemmas.List.Sorted.{Contains-permutation, IsPermutation-sym}
use Rattle.std.proofs.lemmas.Map.Keys.{IsStrictlyIncreasing-dedup}
use Rattle.std.proofs.lemmas.List.Elements.{All-weaker, All-contains, All-contains_itself}
use Rattle.std.specs.List.{dedup}
use Rattle.cut_definitions.specs.Cuts.{has, IsAscendingWithin}
use Rattle.cut_definitions.proofs.Lists.{Contains-here}
use Rattle.rooted_cactus.proofs.Groups.{same_members, ascending_from}

rising_is : (n : ℕ) (xs : List ℕ) → IsStrictlyIncreasing xs → ((v : ℕ) → Contains xs v → (1 ≤ v) × (v ≤ n)) → IsAscendingWithin 1 n xs
rising_is n [] up h = tt
rising_is n (x ∷ xs) up h =
    ascending_from 1 n x xs (h x (Contains-here x xs)).0 up
    (All-weaker (Contains (x ∷ xs)) (λ v. v ≤ n) (λ v c. (h v c).1) (x ∷ xs) (All-contains_itself (x ∷ xs)))

module _ (list sorted once : List ℕ) (moved : IsPermutation list sorted) (up : IsSorted nat_cmp sorted) (kept : IsFiltered (DiffersFromLast eqb) [] sorted once) where
  is : once ≡ dedup eqb sorted
  is = dedup_is eqb sorted once kept

  forth : (v : ℕ) → Contains once v → Contains list v
  forth v h = Contains-permutation sorted list v (IsPermutation-sym list sorted moved) (Contains-from_dedup eqb sorted v (subst (λ l. Contains l v) is h))

  back : (v : ℕ) → Contains list v → Contains once v
  back v h = subst (λ l. Contains l v) (sym is) (Contains-dedup_nat sorted v (Contains-permutation list sorted v moved h))

  pub sorted_members : (v : ℕ) → has once v ≡ has list v
  sorted_members v = same_members once list v (forth v) (back v)

  pub sorted_ascending : (n : ℕ) → AreWithin n list → IsAscendingWithin 1 n once
  sorted_ascending n a = rising_is n once (subst IsStrictlyIncreasing (sym is) (IsStrictlyIncreasing-dedup sorted up))
      (λ v c. All-contains (λ w. (1 ≤ w) × (w ≤ n)) list v a (forth v c))
