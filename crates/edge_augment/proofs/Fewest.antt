-- Pairs that part every side have an end in each end set, so they are at least half as many.
use Rattle.std.proofs.Common.{◌≡◌, ℕ, ◌+◌, ◌*◌, ◌≤◌, ◌⊎◌, inl, inr, Bool, true, false, not, List, [], ◌∷◌, length, refl, ap, ◌∙◌, sym, subst, arith}
use Rattle.std.specs.Prelude.{if◌then◌else◌}
use Rattle.std.specs.List.{Contains, filter}
use Rattle.std.proofs.lemmas.Bool.{cases_Bool, false≢true}
use Rattle.std.proofs.lemmas.List.Elements.{All-contains}
use Rattle.cut_definitions.specs.Cuts.{has, side_of}
use Rattle.cut_definitions.proofs.Bridge.{has-side_of}
use Rattle.cut_definitions.proofs.Lists.{Contains-here, Contains-there, Contains-cons_cases, Contains-nil, Contains-from_filter}
use Rattle.cut_definitions.proofs.Bools.{not_then_never}
use Rattle.cut_definitions.specs.Graph.{IsVertex}
use Rattle.edge_augment.specs.Ends.{end_sets}
use Rattle.edge_augment.specs.Laws.{LawOfFewest}
use Rattle.rooted_cactus.proofs.Clean.{count}
use Rattle.edge_augment.proofs.Leaves.{count_more, first_of, ends_once}
use Rattle.edge_augment.proofs.EndSets.{end_is_set}

abbrev Lists : Type 0
Lists = List (List ℕ)

-- the lists that lack a number
abbrev lacking : ℕ → Lists → Lists
lacking w xs = filter (λ l. not (has l w)) xs

lacking_cons : (w : ℕ) (x : List ℕ) (xs : Lists) → ((has x w ≡ true) × (lacking w (x ∷ xs) ≡ lacking w xs)) ⊎ ((has x w ≡ false) × (lacking w (x ∷ xs) ≡ x ∷ lacking w xs))
lacking_cons w x xs = elim (cases_Bool (has x w)) [ inl e ↦ inl (e, rw e refl) | inr e ↦ inr (e, rw e refl) ]

lacking_long : (w : ℕ) (xs : Lists) → length xs ≡ length (lacking w xs) + count w xs
lacking_long w [] = refl
lacking_long w (x ∷ xs) = elim (lacking_cons w x xs) [
  | inl h ↦ (let one : first_of (has x w) ≡ 1 = rw h.0 refl in omega (arith, one, count_more w x xs, ap length h.1, lacking_long w xs))
  | inr h ↦ (let none : first_of (has x w) ≡ 0 = rw h.0 refl in omega (arith, none, count_more w x xs, ap length h.1, lacking_long w xs))
]

lacking_count : (v w : ℕ) (xs : Lists) → count v (lacking w xs) ≤ count v xs
lacking_count v w [] = omega arith
lacking_count v w (x ∷ xs) = elim (lacking_cons w x xs) [
  | inl h ↦ omega (arith, ap (count v) h.1, count_more v x xs, lacking_count v w xs)
  | inr h ↦ omega (arith, ap (count v) h.1, count_more v x xs, count_more v x (lacking w xs), lacking_count v w xs)
]

-- one of the numbers is in the list
abbrev IsHit : List ℕ → List ℕ → Type 0
IsHit ends l = (w : ℕ) × Contains ends w × (has l w ≡ true)

hit_rest : (w : ℕ) (ws l : List ℕ) → not (has l w) ≡ true → IsHit (w ∷ ws) l → IsHit ws l
hit_rest w ws l n h = elim (Contains-cons_cases w ws h.0 h.1) [
  | inl e ↦ absurd (not_then_never (has l w) n (subst (λ v. has l v ≡ true) (sym e) h.2))
  | inr k ↦ (h.0, k, h.2)
]

-- lists that share no number, each with one of the numbers, are no more than these
hit_count : (ends : List ℕ) (xs : Lists) → ((v : ℕ) → count v xs ≤ 1) → ((l : List ℕ) → Contains xs l → IsHit ends l) → length xs ≤ length ends
hit_count [] [] once hits = omega arith
hit_count [] (x ∷ xs) once hits = (let h = hits x (Contains-here x xs) in absurd (Contains-nil h.0 h.1))
hit_count (w ∷ ws) xs once hits =
    let rest = hit_count ws (lacking w xs) (λ v. omega (arith, lacking_count v w xs, once v))
    (λ l c. let r = Contains-from_filter (λ m. not (has m w)) xs l c in hit_rest w ws l r.1 (hits l r.0)) in
    omega (arith, rest, lacking_long w xs, once w)

ends_of_pairs : List (ℕ × ℕ) → List ℕ
ends_of_pairs [] = []
ends_of_pairs (p ∷ ps) = p.0 ∷ (p.1 ∷ ends_of_pairs ps)

pairs_long : (ps : List (ℕ × ℕ)) → length (ends_of_pairs ps) ≡ 2 * length ps
unfolding ends_of_pairs
pairs_long [] = refl
pairs_long (p ∷ ps) = omega (arith, pairs_long ps)

first_end : (ps : List (ℕ × ℕ)) (p : ℕ × ℕ) → Contains ps p → Contains (ends_of_pairs ps) p.0 × Contains (ends_of_pairs ps) p.1
unfolding ends_of_pairs
first_end [] p c = absurd (Contains-nil p c)
first_end (q ∷ ps) p c = elim (Contains-cons_cases q ps p c) [
  | inl e ↦ (
    subst (λ z. Contains (ends_of_pairs (q ∷ ps)) z) (ap (λ (z : ℕ × ℕ). z.0) e) (Contains-here q.0 (q.1 ∷ ends_of_pairs ps)),
    subst (λ z. Contains (ends_of_pairs (q ∷ ps)) z) (ap (λ (z : ℕ × ℕ). z.1) e) (Contains-there q.0 (q.1 ∷ ends_of_pairs ps) q.1 (Contains-here q.1 (ends_of_pairs ps))),
  )
  | inr k ↦ (let r = first_end ps p k in (
    Contains-there q.0 (q.1 ∷ ends_of_pairs ps) p.0 (Contains-there q.1 (ends_of_pairs ps) p.0 r.0),
    Contains-there q.0 (q.1 ∷ ends_of_pairs ps) p.1 (Contains-there q.1 (ends_of_pairs ps) p.1 r.1),
  ))
]

parted_one : (one a b c d : Bool) → c ≡ (if one then not a else a) → d ≡ (if one then not b else b) → (if c then not d else d) ≡ true → (a ≡ true) ⊎ (b ≡ true)
parted_one one true b c d e f h = inl refl
parted_one one false true c d e f h = inr refl
parted_one true false false c d e f h = absurd (false≢true (sym (rw (e, f) refl) ∙ h))
parted_one false false false c d e f h = absurd (false≢true (sym (rw (e, f) refl) ∙ h))

pub fewest : LawOfFewest
fewest n root h k pairs vertices each =
    let hits = λ (l : List ℕ) (c : Contains (end_sets root) l).
    let set = end_is_set n root h k l c in
    let r = each (side_of n (has l)) set.is_side in
    let w = All-contains (λ p. IsVertex n p.0 × IsVertex n p.1) pairs r.0 vertices r.1 in
    let e = first_end pairs r.0 r.1 in
    let hit : IsHit (ends_of_pairs pairs) l = elim (parted_one (has l 1) (has l r.0.0) (has l r.0.1) (has (side_of n (has l)) r.0.0) (has (side_of n (has l)) r.0.1)
    (has-side_of n (has l) r.0.0 w.0.0 w.0.1) (has-side_of n (has l) r.0.1 w.1.0 w.1.1) r.2) [ inl a ↦ (r.0.0, e.0, a) | inr a ↦ (r.0.1, e.1, a) ] in hit in
    omega (arith, hit_count (ends_of_pairs pairs) (end_sets root) (ends_once n root h) hits, pairs_long pairs)
