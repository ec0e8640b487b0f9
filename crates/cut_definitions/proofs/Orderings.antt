-- Small laws on orderings and on the order of lists of numbers.
use Rattle.std.proofs.Common.{◌≡◌, ℕ, List, sym, ap, ◌<◌, ◌∷◌, refl, true≢false, subst, true}
use Rattle.std.specs.Cmp.{nat_cmp_is, IsTotalOrder}
use Rattle.std.specs.Cmp.Lexicographic.{slice_cmp}
use Rattle.std.specs.Ordering.{nat_cmp, is_eq, ordering_then, is_lt}
use Rattle.std.specs.declared.cmp.Ordering.{Ordering}
use Rattle.std.specs.declared.cmp.Ordering.TheVariants.{Less, Equal, Greater}
use Rattle.std.proofs.lemmas.Cmp.{nat_cmp_total, tied_itself}
use Rattle.std.specs.BTreeSet.{BTreeSet}
use Rattle.std.specs.List.{Contains}
use Rattle.std.specs.List.Sorted.{IsStrictlySortedBy}
use Rattle.std.specs.Prelude.{◌↔◌}
use Rattle.std.proofs.lemmas.Map.Lookups.{CmpEqualImpliesEq, btree_set_from_contains}
use Rattle.std.proofs.lemmas.Map.Views.{btree_set_contains_iff}
use Rattle.cut_definitions.proofs.Bools.{same_tests}

pub lesser_first : (v w : ℕ) (s t : List ℕ) → v < w → slice_cmp nat_cmp (v ∷ s) (w ∷ t) ≡ Less
lesser_first v w s t h = let e : Less ≡ nat_cmp v w = nat_cmp_is v w Less h in rw (← e) refl

-- one ordering and then another
pub then_less : (o p : Ordering) → o ≡ Less → ordering_then o p ≡ Less
then_less o p e = ap (λ q. ordering_then q p) e

pub then_parts : (o p : Ordering) → ordering_then o p ≡ Equal → (o ≡ Equal) × (p ≡ Equal)
then_parts Less p e = absurd (true≢false (ap is_lt e))
then_parts Equal p e = (refl, e)
then_parts Greater p e = absurd (true≢false (ap (λ o. is_eq o) (sym e)))

pub then_same : (o : Ordering) (v w : ℕ) → v ≡ w → ordering_then o (nat_cmp v w) ≡ o
then_same Less v w e = refl
then_same Equal v w e = subst (λ u. nat_cmp v u ≡ Equal) e (tied_itself nat_cmp_total v)
then_same Greater v w e = refl

pub from_is_eq : (o : Ordering) → is_eq o ≡ true → o ≡ Equal
from_is_eq Less e = absurd (true≢false (sym e))
from_is_eq Equal e = refl
from_is_eq Greater e = absurd (true≢false (sym e))

-- two lists in strict order with the same members are one
pub one_listed : {K : Type 0} {R : K → K → Ordering} → IsTotalOrder R → CmpEqualImpliesEq R → (xs ys : List K) → IsStrictlySortedBy R xs → IsStrictlySortedBy R ys →
    ((k : K) → Contains xs k ↔ Contains ys k) → xs ≡ ys
one_listed {K} {R} o exact xs ys a b h =
    let s : BTreeSet K = record { keys = xs } in
    let t : BTreeSet K = record { keys = ys } in
    btree_set_from_contains o s t a b
    (λ q. same_tests _ _
    (λ e. (btree_set_contains_iff o exact t q).1 ((h q).0 ((btree_set_contains_iff o exact s q).0 e)))
    (λ e. (btree_set_contains_iff o exact s q).1 ((h q).1 ((btree_set_contains_iff o exact t q).0 e))))
    exact
