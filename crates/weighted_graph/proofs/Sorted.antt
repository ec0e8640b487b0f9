-- What it says that one pair of numbers is not less than another.
use Rattle.std.proofs.Common.{◌≡◌, ℕ, ◌<◌, ◌≤◌, ◌⊎◌, inl, inr, ⊎_elim, false, eqb, sym, arith, is_lt}
use Rattle.std.proofs.Common.{List, ◌+◌, get_or}
use Rattle.cut_definitions.specs.declared.edge_list.Edge.{Edge}
use Rattle.weighted_graph.specs.Merging.{AscendByEnds, IsSortedByEnds}
use denote.Ref.{Bor}
use denote.Param.Members.{Mut}
use Rattle.std.specs.Fn.{Called, ComputesKey}
use Rattle.std.specs.List.Sorted.{IsSortedByKey}
use Rattle.std.proofs.lemmas.Fn.{always_returns_same}
use Rattle.std.specs.Ordering.{nat_cmp, ordering_then}
use Rattle.std.specs.Cmp.{nat_cmp_is}
use Rattle.std.specs.declared.cmp.Ordering.TheVariants.{Less, Equal}
use Rattle.std.proofs.lemmas.Bool.{cases_order, cases_lt, false≢true}
use Rattle.std.proofs.lemmas.Bool.Decides.{nat_tests}

pub ends_from_cmp : (a b c d : ℕ) → is_lt (ordering_then (nat_cmp a c) (nat_cmp b d)) ≡ false → (c < a) ⊎ ((c ≡ a) × (d ≤ b))
ends_from_cmp a b c d h =
    ⊎_elim
    (λ (e : a ≡ c).
    let first : nat_cmp a c ≡ Equal = sym (nat_cmp_is a c Equal e) in
    let second = (rw first at h) in
    ⊎_elim
    (λ (l : b < d). let less : nat_cmp b d ≡ Less = sym (nat_cmp_is b d Less l) in
    let no = (rw less at second) in absurd (false≢true (sym no)))
    (λ (g : d ≤ b). inr (sym e, g))
    (cases_lt b d))
    (⊎_elim
    (λ (l : a < c). let less : nat_cmp a c ≡ Less = sym (nat_cmp_is a c Less l) in
    let no = (rw less at h) in absurd (false≢true (sym no)))
    (λ (g : c < a). inl g))
    (cases_order a c)

pub not_empty : (n : ℕ) → eqb n 0 ≡ false → 0 < n
not_empty n h = grind (arith, nat_tests)

pub ascend_from_sorted : (es : List Edge) → IsSortedByEnds es → AscendByEnds es
ascend_from_sorted es h k d l =
    ends_from_cmp (get_or es (k + 1) d).u (get_or es (k + 1) d).v (get_or es k d).u (get_or es k d).v (h k d (omega arith) l)

pub IsSortedByEnds-from_sort : {F : Type 0} {g : Mut F (Bor Edge × Unit {0}) (ℕ × ℕ)} {f : F} (xs : List Edge) →
    ((key : Edge → ℕ × ℕ) → ComputesKey g key f → IsSortedByKey key (λ (p q : ℕ × ℕ). ordering_then (nat_cmp p.0 q.0) (nat_cmp p.1 q.1)) xs) →
    ((a : Bor Edge × Unit {0}) (r : ℕ × ℕ) (f' : F) → Called g f a r f' → (r ≡ (a.0.now.u, a.0.now.v)) × (f' ≡ f)) → IsSortedByEnds xs
IsSortedByEnds-from_sort {g = g} {f = f} xs up h = up (λ e. (e.u, e.v)) (always_returns_same g (λ a r. r ≡ (a.0.now.u, a.0.now.v)) f h)
