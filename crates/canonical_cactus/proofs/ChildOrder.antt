-- Cycles: the order of the children after the first one, from the sets of the cuts alone.
use Rattle.std.proofs.Common.{◌≡◌, inl, inr, List, [], ◌∷◌, sym, refl, ◌∙◌, ap, subst}
use Rattle.std.specs.List.{Contains}
use Rattle.std.proofs.lemmas.Bool.{or_cases, or_left, or_right}
use Rattle.cut_definitions.specs.Weight.{VertexSet, either}
use Rattle.cut_definitions.proofs.Lists.{Contains-there, Contains-cons_cases, Contains-nil}
use Rattle.rooted_cactus.specs.Sides.{Part, all_of, belows, from_here}
use Rattle.rooted_cactus.proofs.Sets.{IsIn, Apart, SameFamily, same_set}
use Rattle.rooted_cactus.proofs.Rows.{IsRow}
use Rattle.rooted_cactus.proofs.Cycles.{cycle_cuts, cycle_cases, cycle_here, cycle_within, here_first, here_above}
use Rattle.rooted_cactus.proofs.Distinct.{grown_apart}

module _ (p q : Part) (ps qs : List Part) (rp : IsRow (p ∷ ps)) (rq : IsRow (q ∷ qs))
    (f : (s : VertexSet) → Contains (cycle_cuts (p ∷ ps)) s → Contains (cycle_cuts (q ∷ qs)) s)
    (there : IsIn p.below q.below) (back : IsIn q.below p.below) where
  -- the cuts that have the first child are the intervals that begin with it
  begun_cuts : (s : VertexSet) → Contains (from_here p.below (belows ps)) s → Contains (from_here q.below (belows qs)) s
  begun_cuts s h = elim (cycle_cases q qs s (f s (cycle_here p ps s h))) [
    | inl k ↦ k
    | inr m ↦ elim m [
      | inl k ↦ subst (λ y. Contains (from_here q.below (belows qs)) y) (same_set q.below s (λ v e. here_above p.below (belows ps) s h v (back v e)) (rq.0.within s k)) (here_first q.below (belows qs))
      | inr k ↦ (let w = rp.1 in absurd (rq.2 w.0 (there w.0 w.1) (cycle_within qs rq.3 s k w.0 (here_above p.below (belows ps) s h w.0 w.1))))
    ]
  ]

-- sets that grow by parts in turn give the parts
no_more : (s : VertexSet) (q : Part) (qs : List Part) → IsRow (q ∷ qs) → Apart s (all_of (belows (q ∷ qs))) → Contains (s ∷ []) (either s q.below) → ⊥
no_more s q qs r a c = elim (Contains-cons_cases s [] (either s q.below) c) [
  | inl e ↦ (let w = r.1 in a w.0 (ap (λ (t : VertexSet). t w.0) e ∙ or_right (s w.0) (q.below w.0) w.1) (or_left (q.below w.0) (all_of (belows qs) w.0) w.1))
  | inr h ↦ Contains-nil (either s q.below) h
]

longer : (s : VertexSet) (p q : Part) (ps qs : List Part) → IsRow (p ∷ ps) → Apart s (all_of (belows (p ∷ ps))) →
    ((x : VertexSet) → Contains (from_here s (belows (p ∷ ps))) x → Contains (from_here s (belows (q ∷ qs))) x) →
    (x : VertexSet) → Contains (from_here (either s p.below) (belows ps)) x → Contains (from_here (either s q.below) (belows qs)) x
longer s p q ps qs r a f x c = elim (Contains-cons_cases s (from_here (either s q.below) (belows qs)) x (f x (Contains-there s (from_here (either s p.below) (belows ps)) x c))) [
  | inl e ↦ (let w = r.1 in absurd (a w.0 (ap (λ (t : VertexSet). t w.0) e ∙ here_above (either s p.below) (belows ps) x c w.0 (or_right (s w.0) (p.below w.0) w.1)) (or_left (p.below w.0) (all_of (belows ps) w.0) w.1)))
  | inr h ↦ h
]

next_in : (s : VertexSet) (p q : Part) (ps : List Part) → Apart s (all_of (belows (p ∷ ps))) → IsIn (either s p.below) (either s q.below) → IsIn p.below q.below
next_in s p q ps a h v e = elim (or_cases (s v) (q.below v) (h v (or_right (s v) (p.below v) e))) [
  | inl k ↦ absurd (a v k (or_left (p.below v) (all_of (belows ps) v) e))
  | inr k ↦ k
]

pub grown : (s : VertexSet) (ps qs : List Part) → IsRow ps → IsRow qs → Apart s (all_of (belows ps)) → Apart s (all_of (belows qs)) →
    SameFamily (from_here s (belows ps)) (from_here s (belows qs)) → belows ps ≡ belows qs
grown s [] [] rp rq ap' aq f = refl
grown s [] (q ∷ qs) rp rq ap' aq f =
    absurd (no_more s q qs rq aq ((f (either s q.below)).1 (Contains-there s (from_here (either s q.below) (belows qs)) (either s q.below) (here_first (either s q.below) (belows qs)))))
grown s (p ∷ ps) [] rp rq ap' aq f =
    absurd (no_more s p ps rp ap' ((f (either s p.below)).0 (Contains-there s (from_here (either s p.below) (belows ps)) (either s p.below) (here_first (either s p.below) (belows ps)))))
grown s (p ∷ ps) (q ∷ qs) rp rq ap' aq f =
    let s1 = either s p.below in
    let s2 = either s q.below in
    let g : SameFamily (from_here s1 (belows ps)) (from_here s2 (belows qs)) = λ x. (longer s p q ps qs rp ap' (λ t. (f t).0) x, longer s q p qs ps rq aq (λ t. (f t).1) x) in
    let back : IsIn s2 s1 = here_above s2 (belows qs) s1 ((g s1).0 (here_first s1 (belows ps))) in
    let there : IsIn s1 s2 = here_above s1 (belows ps) s2 ((g s2).1 (here_first s2 (belows qs))) in
    let e : p.below ≡ q.below = same_set p.below q.below (next_in s p q ps ap' there) (next_in s q p qs aq back) in
    let h : SameFamily (from_here s1 (belows ps)) (from_here s1 (belows qs)) = subst (λ b. SameFamily (from_here s1 (belows ps)) (from_here b (belows qs))) (same_set s2 s1 back there) g in
    let aq1 : Apart s1 (all_of (belows qs)) = subst (λ b. Apart b (all_of (belows qs))) (same_set s2 s1 back there) (grown_apart s q qs rq aq) in
    let rest : belows ps ≡ belows qs = grown s1 ps qs rp.3 rq.3 (grown_apart s p ps rp ap') aq1 h in
    ap (λ b. b ∷ belows ps) e ∙ ap (λ bs. q.below ∷ bs) rest

-- the children after the first one, by the cuts that have the first
pub cycle_order : (p q : Part) (ps qs : List Part) → IsRow (p ∷ ps) → IsRow (q ∷ qs) → p.below ≡ q.below → SameFamily (cycle_cuts (p ∷ ps)) (cycle_cuts (q ∷ qs)) → belows ps ≡ belows qs
cycle_order p q ps qs rp rq e f =
    let there : IsIn p.below q.below = λ v h. sym (ap (λ (s : VertexSet). s v) e) ∙ h in
    let back : IsIn q.below p.below = λ v h. ap (λ (s : VertexSet). s v) e ∙ h in
    let g : SameFamily (from_here p.below (belows ps)) (from_here q.below (belows qs)) =
    λ s. (begun_cuts p q ps qs rp rq (λ t. (f t).0) there back s, begun_cuts q p qs ps rq rp (λ t. (f t).1) back there s) in
    grown p.below ps qs rp.3 rq.3 rp.2 (λ v h k. rq.2 v (there v h) k) (subst (λ b. SameFamily (from_here p.below (belows ps)) (from_here b (belows qs))) (sym e) g)
