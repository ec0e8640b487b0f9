-- Runs of sets in which some that follow one another become one.
use Rattle.std.proofs.Common.{◌≡◌, ℕ, inl, inr, true, false, List, [], ◌∷◌, ◌++◌, sym, ◌∙◌, ap, subst}
use Rattle.std.specs.List.{Contains}
use Rattle.std.proofs.lemmas.Bool.{false≢true, or_from}
use Rattle.cut_definitions.specs.Weight.{VertexSet, either}
use Rattle.cut_definitions.proofs.Lists.{Contains-there, Contains-cons_cases}
use Rattle.cut_definitions.proofs.Bools.{no_left, no_right}
use Rattle.rooted_cactus.specs.Sides.{all_of, from_here}
use Rattle.rooted_cactus.proofs.Parts.{either_assoc, either_nothing}
use Rattle.rooted_cactus.proofs.Cycles.{here_first}

-- the union of a set and those that follow it
abbrev pub along : VertexSet → List VertexSet → VertexSet
along t [] = t
along t (m ∷ ms) = along (either t m) ms

pub along_is : (t : VertexSet) (ms : List VertexSet) → along t ms ≡ either t (all_of ms)
along_is t [] = sym (either_nothing t)
along_is t (m ∷ ms) = along_is (either t m) ms ∙ sym (either_assoc t m (all_of ms))

along_from : (t n : VertexSet) (ms : List VertexSet) → along (either t n) ms ≡ either t (along n ms)
along_from t n ms = along_is (either t n) ms ∙ sym (either_assoc t n (all_of ms)) ∙ ap (either t) (sym (along_is n ms))

whole : (t n : VertexSet) (ms : List VertexSet) (f j : VertexSet) → j ≡ either (along n ms) f → either t j ≡ either (along (either t n) ms) f
whole t n ms f j e = ap (either t) e ∙ either_assoc t (along n ms) f ∙ ap (λ z. either z f) (sym (along_from t n ms))

-- the unions that end at a set or after it
pub past : (t : VertexSet) (ms : List VertexSet) (j : VertexSet) (qs : List VertexSet) (s : VertexSet) → Contains (from_here (either (along t ms) j) qs) s → Contains (from_here t (ms ++ j ∷ qs)) s
past t [] j qs s c = Contains-there t (from_here (either t j) qs) s c
past t (m ∷ ms) j qs s c = Contains-there t (from_here (either t m) (ms ++ j ∷ qs)) s (past (either t m) ms j qs s c)

-- are those that have a vertex of the set, if it is in none before
pub reached : (t : VertexSet) (ms : List VertexSet) (f : VertexSet) (qs : List VertexSet) (v : ℕ) → t v ≡ false → all_of ms v ≡ false → (s : VertexSet) → s v ≡ true →
    Contains (from_here t (ms ++ f ∷ qs)) s → Contains (from_here (either (along t ms) f) qs) s
reached t [] f qs v out none s inside c = elim (Contains-cons_cases t (from_here (either t f) qs) s c) [
  | inl e ↦ absurd (false≢true (sym out ∙ ap (λ (x : VertexSet). x v) e ∙ inside))
  | inr k ↦ k
]
reached t (m ∷ ms) f qs v out none s inside c = elim (Contains-cons_cases t (from_here (either t m) (ms ++ f ∷ qs)) s c) [
  | inl e ↦ absurd (false≢true (sym out ∙ ap (λ (x : VertexSet). x v) e ∙ inside))
  | inr k ↦ reached (either t m) ms f qs v (or_from (t v) (m v) out (no_left (m v) (all_of ms v) none)) (no_right (m v) (all_of ms v) none) s inside k
]

module _ (n : VertexSet) (ms : List VertexSet) (f : VertexSet) (qs : List VertexSet) (j : VertexSet) (is : j ≡ either (along n ms) f) where
  -- one set in place of those from one to another: each union is one of them
  pub opened : (t : VertexSet) (ps : List VertexSet) (s : VertexSet) → Contains (from_here t (ps ++ j ∷ qs)) s → Contains (from_here t (ps ++ n ∷ (ms ++ f ∷ qs))) s
  opened t [] s c = elim (Contains-cons_cases t (from_here (either t j) qs) s c) [
    | inl k ↦ subst (λ z. Contains (from_here t (n ∷ (ms ++ f ∷ qs))) z) k (here_first t (n ∷ (ms ++ f ∷ qs)))
    | inr k ↦ past t (n ∷ ms) f qs s (subst (λ z. Contains (from_here z qs) s) (whole t n ms f j is) k)
  ]
  opened t (p ∷ ps) s c = elim (Contains-cons_cases t (from_here (either t p) (ps ++ j ∷ qs)) s c) [
    | inl k ↦ subst (λ z. Contains (from_here t (p ∷ (ps ++ n ∷ (ms ++ f ∷ qs)))) z) k (here_first t (p ∷ (ps ++ n ∷ (ms ++ f ∷ qs))))
    | inr k ↦ Contains-there t (from_here (either t p) (ps ++ n ∷ (ms ++ f ∷ qs))) s (opened (either t p) ps s k)
  ]

  -- and each that reaches the last of them
  pub joined : (v : ℕ) → n v ≡ false → all_of ms v ≡ false → (t : VertexSet) (ps : List VertexSet) → t v ≡ false → all_of ps v ≡ false → (s : VertexSet) → s v ≡ true →
      Contains (from_here t (ps ++ n ∷ (ms ++ f ∷ qs))) s → Contains (from_here t (ps ++ j ∷ qs)) s
  joined v a b t [] out none s inside c =
      Contains-there t (from_here (either t j) qs) s (subst (λ z. Contains (from_here z qs) s) (sym (whole t n ms f j is)) (reached t (n ∷ ms) f qs v out (or_from (n v) (all_of ms v) a b) s inside c))
  joined v a b t (p ∷ ps) out none s inside c = elim (Contains-cons_cases t (from_here (either t p) (ps ++ n ∷ (ms ++ f ∷ qs))) s c) [
    | inl e ↦ absurd (false≢true (sym out ∙ ap (λ (x : VertexSet). x v) e ∙ inside))
    | inr k ↦ Contains-there t (from_here (either t p) (ps ++ j ∷ qs)) s
        (joined v a b (either t p) ps (or_from (t v) (p v) out (no_left (p v) (all_of ps v) none)) (no_right (p v) (all_of ps v) none) s inside k)
  ]
