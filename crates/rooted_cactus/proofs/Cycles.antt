-- Cycles: what the sets of the cuts of one alone say of its children.
use Rattle.std.proofs.Common.{◌≡◌, ◌⊎◌, inl, inr, false, List, [], ◌∷◌, ◌++◌, sym, ◌∙◌, ap, subst}
use Rattle.std.specs.List.{Contains}
use Rattle.std.proofs.lemmas.Bool.{or_left, or_right}
use Rattle.std.proofs.lemmas.List.Elements.{Contains-append_left, Contains-append_right, Contains-append_cases}
use Rattle.cut_definitions.specs.Weight.{VertexSet, either}
use Rattle.cut_definitions.proofs.Lists.{Contains-here, Contains-there, Contains-cons_cases, Contains-nil}
use Rattle.rooted_cactus.specs.Sides.{Part, nothing, all_of, belows, all_cuts, from_here, intervals}
use Rattle.rooted_cactus.proofs.Parts.{either_assoc, either_nothing}
use Rattle.rooted_cactus.proofs.Sets.{IsIn, HasOne, SameFamily, same_set, or_back}
use Rattle.rooted_cactus.proofs.Rows.{IsRow}

-- ---- intervals that begin at one place
pub here_first : (s : VertexSet) (ts : List VertexSet) → Contains (from_here s ts) s
here_first s [] = Contains-here s []
here_first s (t ∷ ts) = Contains-here s (from_here (either s t) ts)

pub here_above : (s : VertexSet) (ts : List VertexSet) (x : VertexSet) → Contains (from_here s ts) x → IsIn s x
here_above s [] x c = elim (Contains-cons_cases s [] x c) [
  | inl e ↦ subst (λ y. IsIn s y) e (λ v h. h)
  | inr h ↦ absurd (Contains-nil x h)
]
here_above s (t ∷ ts) x c = elim (Contains-cons_cases s (from_here (either s t) ts) x c) [
  | inl e ↦ subst (λ y. IsIn s y) e (λ v h. h)
  | inr h ↦ λ v e. here_above (either s t) ts x h v (or_left (s v) (t v) e)
]

pub here_within : (s : VertexSet) (ts : List VertexSet) (x : VertexSet) → Contains (from_here s ts) x → IsIn x (either s (all_of ts))
here_within s [] x c = elim (Contains-cons_cases s [] x c) [
  | inl e ↦ subst (λ y. IsIn y (either s nothing)) e (λ v h. or_left (s v) false h)
  | inr h ↦ absurd (Contains-nil x h)
]
here_within s (t ∷ ts) x c = elim (Contains-cons_cases s (from_here (either s t) ts) x c) [
  | inl e ↦ subst (λ y. IsIn y (either s (all_of (t ∷ ts)))) e (λ v h. or_left (s v) (all_of (t ∷ ts) v) h)
  | inr h ↦ λ v e. or_back (s v) (t v) (all_of ts v) (here_within (either s t) ts x h v e)
]

pub here_whole : (s : VertexSet) (ts : List VertexSet) → Contains (from_here s ts) (either s (all_of ts))
here_whole s [] = subst (λ y. Contains (s ∷ []) y) (sym (either_nothing s)) (Contains-here s [])
here_whole s (t ∷ ts) =
    Contains-there s (from_here (either s t) ts) (either s (either t (all_of ts)))
    (subst (λ y. Contains (from_here (either s t) ts) y) (sym (either_assoc s t (all_of ts))) (here_whole (either s t) ts))

-- ---- the cuts of a cycle
abbrev pub cycle_cuts : List Part → List VertexSet
cycle_cuts ps = intervals (belows ps) ++ all_cuts ps

pub cycle_cases : (p : Part) (ps : List Part) (s : VertexSet) → Contains (cycle_cuts (p ∷ ps)) s →
    Contains (from_here p.below (belows ps)) s ⊎ (Contains p.cuts s ⊎ Contains (cycle_cuts ps) s)
cycle_cases p ps s c =
    let begun = from_here p.below (belows ps) in
    let later = intervals (belows ps) in
    elim (Contains-append_cases (begun ++ later) (p.cuts ++ all_cuts ps) s c) [
      | inl a ↦ elim (Contains-append_cases begun later s a) [
        | inl h ↦ inl h
        | inr h ↦ inr (inr (Contains-append_left later (all_cuts ps) s h))
      ]
      | inr b ↦ elim (Contains-append_cases p.cuts (all_cuts ps) s b) [
        | inl h ↦ inr (inl h)
        | inr h ↦ inr (inr (Contains-append_right later (all_cuts ps) s h))
      ]
    ]

pub cycle_here : (p : Part) (ps : List Part) (s : VertexSet) → Contains (from_here p.below (belows ps)) s → Contains (cycle_cuts (p ∷ ps)) s
cycle_here p ps s c =
    let begun = from_here p.below (belows ps) in
    let later = intervals (belows ps) in
    Contains-append_left (begun ++ later) (p.cuts ++ all_cuts ps) s (Contains-append_left begun later s c)

pub cycle_own : (p : Part) (ps : List Part) (s : VertexSet) → Contains p.cuts s → Contains (cycle_cuts (p ∷ ps)) s
cycle_own p ps s c =
    let begun = from_here p.below (belows ps) in
    let later = intervals (belows ps) in
    Contains-append_right (begun ++ later) (p.cuts ++ all_cuts ps) s (Contains-append_left p.cuts (all_cuts ps) s c)

pub cycle_rest : (p : Part) (ps : List Part) (s : VertexSet) → Contains (cycle_cuts ps) s → Contains (cycle_cuts (p ∷ ps)) s
cycle_rest p ps s c =
    let begun = from_here p.below (belows ps) in
    let later = intervals (belows ps) in
    elim (Contains-append_cases later (all_cuts ps) s c) [
      | inl h ↦ Contains-append_left (begun ++ later) (p.cuts ++ all_cuts ps) s (Contains-append_right begun later s h)
      | inr h ↦ Contains-append_right (begun ++ later) (p.cuts ++ all_cuts ps) s (Contains-append_right p.cuts (all_cuts ps) s h)
    ]

pub cycle_within : (ps : List Part) → IsRow ps → (s : VertexSet) → Contains (cycle_cuts ps) s → IsIn s (all_of (belows ps))
cycle_within [] r s c = absurd (Contains-nil s c)
cycle_within (p ∷ ps) r s c = elim (cycle_cases p ps s c) [
  | inl h ↦ here_within p.below (belows ps) s h
  | inr k ↦ elim k [
    | inl h ↦ λ v e. or_left (p.below v) (all_of (belows ps) v) (r.0.within s h v e)
    | inr h ↦ λ v e. or_right (p.below v) (all_of (belows ps) v) (cycle_within ps r.3 s h v e)
  ]
]

pub cycle_nonempty : (ps : List Part) → IsRow ps → (s : VertexSet) → Contains (cycle_cuts ps) s → HasOne s
cycle_nonempty [] r s c = absurd (Contains-nil s c)
cycle_nonempty (p ∷ ps) r s c = elim (cycle_cases p ps s c) [
  | inl h ↦ (r.1.0, here_above p.below (belows ps) s h r.1.0 r.1.1)
  | inr k ↦ elim k [
    | inl h ↦ r.0.nonempty s h
    | inr h ↦ cycle_nonempty ps r.3 s h
  ]
]

pub cycle_whole : (p : Part) (ps : List Part) → Contains (cycle_cuts (p ∷ ps)) (all_of (belows (p ∷ ps)))
cycle_whole p ps = cycle_here p ps (either p.below (all_of (belows ps))) (here_whole p.below (belows ps))

-- ---- one child and those behind it
module _ (p q : Part) (ps qs : List Part) (rp : IsRow (p ∷ ps)) (rq : IsRow (q ∷ qs))
    (f : (s : VertexSet) → Contains (cycle_cuts (p ∷ ps)) s → Contains (cycle_cuts (q ∷ qs)) s)
    (there : IsIn p.below q.below) (back : IsIn q.below p.below) where
  child_cuts : (s : VertexSet) → Contains (p.below ∷ p.cuts) s → Contains (q.below ∷ q.cuts) s
  child_cuts s c = elim (Contains-cons_cases p.below p.cuts s c) [
    | inl e ↦ subst (λ y. Contains (q.below ∷ q.cuts) y) (same_set q.below p.below back there ∙ e) (Contains-here q.below q.cuts)
    | inr h ↦ elim (cycle_cases q qs s (f s (cycle_own p ps s h))) [
      | inl k ↦ subst (λ y. Contains (q.below ∷ q.cuts) y) (same_set q.below s (here_above q.below (belows qs) s k) (λ v e. there v (rp.0.within s h v e))) (Contains-here q.below q.cuts)
      | inr m ↦ elim m [
        | inl k ↦ Contains-there q.below q.cuts s k
        | inr k ↦ (let w = rp.0.nonempty s h in absurd (rq.2 w.0 (there w.0 (rp.0.within s h w.0 w.1)) (cycle_within qs rq.3 s k w.0 w.1)))
      ]
    ]
  ]

  later_cuts : (s : VertexSet) → Contains (cycle_cuts ps) s → Contains (cycle_cuts qs) s
  later_cuts s h = elim (cycle_cases q qs s (f s (cycle_rest p ps s h))) [
    | inl k ↦ (let w = rq.1 in absurd (rp.2 w.0 (back w.0 w.1) (cycle_within ps rp.3 s h w.0 (here_above q.below (belows qs) s k w.0 w.1))))
    | inr m ↦ elim m [
      | inl k ↦ (let w = cycle_nonempty ps rp.3 s h in absurd (rp.2 w.0 (back w.0 (rq.0.within s k w.0 w.1)) (cycle_within ps rp.3 s h w.0 w.1)))
      | inr k ↦ k
    ]
  ]

  -- the cuts that have the first child are the intervals that begin with it
  begun_cuts : (s : VertexSet) → Contains (from_here p.below (belows ps)) s → Contains (from_here q.below (belows qs)) s
  begun_cuts s h = elim (cycle_cases q qs s (f s (cycle_here p ps s h))) [
    | inl k ↦ k
    | inr m ↦ elim m [
      | inl k ↦ subst (λ y. Contains (from_here q.below (belows qs)) y) (same_set q.below s (λ v e. here_above p.below (belows ps) s h v (back v e)) (rq.0.within s k)) (here_first q.below (belows qs))
      | inr k ↦ (let w = rp.1 in absurd (rq.2 w.0 (there w.0 w.1) (cycle_within qs rq.3 s k w.0 (here_above p.below (belows ps) s h w.0 w.1))))
    ]
  ]

pub cycle_head : (p q : Part) (ps qs : List Part) → IsRow (p ∷ ps) → IsRow (q ∷ qs) → p.below ≡ q.below → SameFamily (cycle_cuts (p ∷ ps)) (cycle_cuts (q ∷ qs)) →
    SameFamily (p.below ∷ p.cuts) (q.below ∷ q.cuts) × SameFamily (cycle_cuts ps) (cycle_cuts qs)
cycle_head p q ps qs rp rq e f =
    let there : IsIn p.below q.below = λ v h. sym (ap (λ (s : VertexSet). s v) e) ∙ h in
    let back : IsIn q.below p.below = λ v h. ap (λ (s : VertexSet). s v) e ∙ h in (
      (λ s. (child_cuts p q ps qs rp rq (λ t. (f t).0) there back s, child_cuts q p qs ps rq rp (λ t. (f t).1) back there s)),
      (λ s. (later_cuts p q ps qs rp rq (λ t. (f t).0) there back s, later_cuts q p qs ps rq rp (λ t. (f t).1) back there s)),
    )
