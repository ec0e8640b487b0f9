-- A cycle that is reversed has the same cuts.
use Rattle.std.proofs.Common.{◌≡◌, ℕ, inl, inr, true, List, [], ◌∷◌, ◌++◌, ap, ◌∙◌, sym, subst}
use Rattle.std.specs.List.{Contains}
use Rattle.std.proofs.lemmas.Bool.{or_cases, or_left, or_right}
use Rattle.std.proofs.lemmas.List.{append_assoc}
use Rattle.std.proofs.lemmas.List.Elements.{Contains-append_left, Contains-append_right, Contains-append_cases}
use Rattle.cut_definitions.specs.Weight.{VertexSet, either}
use Rattle.cut_definitions.proofs.Lists.{Contains-here, Contains-there, Contains-cons_cases, Contains-nil}
use Rattle.rooted_cactus.specs.Sides.{Part, all_of, belows, all_cuts, from_here, intervals}
use Rattle.rooted_cactus.specs.Entries.{top_first}
use Rattle.rooted_cactus.proofs.Tops.{top_twice, top_map}
use Rattle.rooted_cactus.specs.Trims.{SameSets}
use Rattle.rooted_cactus.proofs.Parts.{either_nothing, all_cuts_push}
use Rattle.rooted_cactus.proofs.Sets.{same_set}
use Rattle.rooted_cactus.proofs.Cycles.{cycle_cuts, here_whole}

-- ---- lists turned round

-- ---- intervals
either_turned : (s t : VertexSet) → either s t ≡ either t s
either_turned s t = same_set (either s t) (either t s) (swapped s t) (swapped t s)
  where
    swapped : (s t : VertexSet) (v : ℕ) → either s t v ≡ true → either t s v ≡ true
    swapped s t v h = elim (or_cases (s v) (t v) h) [ inl k ↦ or_right (t v) (s v) k | inr k ↦ or_left (t v) (s v) k ]

-- what begins at a place is there still where more sets follow
here_longer : (s : VertexSet) (ss ts : List VertexSet) (t : VertexSet) → Contains (from_here s ss) t → Contains (from_here s (ss ++ ts)) t
here_longer s [] [] t h = h
here_longer s [] (u ∷ ts) t h = elim (Contains-cons_cases s [] t h) [
  | inl e ↦ subst (λ w. Contains (from_here s (u ∷ ts)) w) e (Contains-here s (from_here (either s u) ts))
  | inr k ↦ absurd (Contains-nil t k)
]
here_longer s (x ∷ ss) ts t h = elim (Contains-cons_cases s (from_here (either s x) ss) t h) [
  | inl e ↦ subst (λ w. Contains (from_here s ((x ∷ ss) ++ ts)) w) e (Contains-here s (from_here (either s x) (ss ++ ts)))
  | inr k ↦ Contains-there s (from_here (either s x) (ss ++ ts)) t (here_longer (either s x) ss ts t k)
]

front_intervals : (ss ts : List VertexSet) (t : VertexSet) → Contains (intervals ss) t → Contains (intervals (ss ++ ts)) t
front_intervals [] ts t h = absurd (Contains-nil t h)
front_intervals (s ∷ ss) ts t h = elim (Contains-append_cases (from_here s ss) (intervals ss) t h) [
  | inl k ↦ Contains-append_left (from_here s (ss ++ ts)) (intervals (ss ++ ts)) t (here_longer s ss ts t k)
  | inr k ↦ Contains-append_right (from_here s (ss ++ ts)) (intervals (ss ++ ts)) t (front_intervals ss ts t k)
]

back_intervals : (ss ts : List VertexSet) (t : VertexSet) → Contains (intervals ts) t → Contains (intervals (ss ++ ts)) t
back_intervals [] ts t h = h
back_intervals (s ∷ ss) ts t h = Contains-append_right (from_here s (ss ++ ts)) (intervals (ss ++ ts)) t (back_intervals ss ts t h)

whole_interval : (z : VertexSet) (zs : List VertexSet) → Contains (intervals (z ∷ zs)) (all_of (z ∷ zs))
whole_interval z zs = Contains-append_left (from_here z zs) (intervals zs) (all_of (z ∷ zs)) (here_whole z zs)

-- the intervals that begin with the union of sets at the end of the turned list
begun_turned : (u : VertexSet) (ss : List VertexSet) (z : VertexSet) (zs : List VertexSet) → all_of (z ∷ zs) ≡ u → (t : VertexSet) → Contains (from_here u ss) t → Contains (intervals (top_first ss ++ (z ∷ zs))) t
begun_turned u [] z zs e t h = elim (Contains-cons_cases u [] t h) [
  | inl k ↦ subst (λ w. Contains (intervals (z ∷ zs)) w) (e ∙ k) (whole_interval z zs)
  | inr k ↦ absurd (Contains-nil t k)
]
begun_turned u (s ∷ ss) z zs e t h =
    let shift : (top_first ss ++ s ∷ []) ++ (z ∷ zs) ≡ top_first ss ++ (s ∷ (z ∷ zs)) = append_assoc (top_first ss) (s ∷ []) (z ∷ zs) in
    elim (Contains-cons_cases u (from_here (either u s) ss) t h) [
      | inl k ↦ back_intervals (top_first (s ∷ ss)) (z ∷ zs) t (subst (λ w. Contains (intervals (z ∷ zs)) w) (e ∙ k) (whole_interval z zs))
      | inr k ↦ subst (λ l. Contains (intervals l) t) (sym shift) (begun_turned (either u s) ss s (z ∷ zs) (ap (either s) e ∙ either_turned s u) t k)
    ]

intervals_turned : (ss : List VertexSet) (t : VertexSet) → Contains (intervals ss) t → Contains (intervals (top_first ss)) t
intervals_turned [] t h = h
intervals_turned (s ∷ ss) t h = elim (Contains-append_cases (from_here s ss) (intervals ss) t h) [
  | inl k ↦ begun_turned s ss s [] (either_nothing s) t k
  | inr k ↦ front_intervals (top_first ss) (s ∷ []) t (intervals_turned ss t k)
]

-- ---- the cuts of a cycle
cuts_turned : (ps : List Part) (t : VertexSet) → Contains (all_cuts ps) t → Contains (all_cuts (top_first ps)) t
cuts_turned [] t h = h
cuts_turned (p ∷ ps) t h =
    let both : all_cuts (top_first ps ++ p ∷ []) ≡ all_cuts (top_first ps) ++ p.cuts = all_cuts_push (top_first ps) p in
    subst (λ l. Contains l t) (sym both) (elim (Contains-append_cases p.cuts (all_cuts ps) t h) [
      | inl k ↦ Contains-append_right (all_cuts (top_first ps)) p.cuts t k
      | inr k ↦ Contains-append_left (all_cuts (top_first ps)) p.cuts t (cuts_turned ps t k)
    ])

one_way : (ps : List Part) (t : VertexSet) → Contains (cycle_cuts ps) t → Contains (cycle_cuts (top_first ps)) t
one_way ps t h =
    let same : belows (top_first ps) ≡ top_first (belows ps) = top_map (λ (p : Part). p.below) ps in
    elim (Contains-append_cases (intervals (belows ps)) (all_cuts ps) t h) [
      | inl k ↦ Contains-append_left (intervals (belows (top_first ps))) (all_cuts (top_first ps)) t (subst (λ l. Contains (intervals l) t) (sym same) (intervals_turned (belows ps) t k))
      | inr k ↦ Contains-append_right (intervals (belows (top_first ps))) (all_cuts (top_first ps)) t (cuts_turned ps t k)
    ]

pub cycle_turned : (ps : List Part) → SameSets (cycle_cuts (top_first ps)) (cycle_cuts ps)
cycle_turned ps = λ t. (λ h. subst (λ l. Contains (cycle_cuts l) t) (top_twice ps) (one_way (top_first ps) t h), one_way ps t)
