-- Parts side by side, apart from one another: what their cuts alone say of them.
use Rattle.std.proofs.Common.{◌≡◌, ℕ, ◌≤◌, inl, inr, true, false, List, [], ◌∷◌, length, arith}
use Rattle.std.specs.Prelude.{⊤}
use Rattle.std.specs.List.{Contains}
use Rattle.std.proofs.lemmas.Bool.{or_cases, or_left, or_right, false_from_ne_true, false≢true}
use Rattle.std.proofs.lemmas.List.Elements.{Contains-append_left, Contains-append_right, Contains-append_cases}
use Rattle.cut_definitions.specs.Weight.{VertexSet}
use Rattle.cut_definitions.proofs.Lists.{Contains-nil}
use Rattle.rooted_cactus.specs.Sides.{Part, all_of, belows, all_cuts}
use Rattle.rooted_cactus.proofs.Sets.{IsIn, HasOne, Apart, SameFamily, same_set}

-- the cuts of a part are nonempty, and within it
pub record IsSound (p : Part) : Type 0 where
  pub within : (s : VertexSet) → Contains p.cuts s → IsIn s p.below
  pub nonempty : (s : VertexSet) → Contains p.cuts s → HasOne s

-- sound parts, none empty, each apart from those behind it
abbrev pub IsRow : List Part → Type 0
IsRow [] = ⊤
IsRow (p ∷ ps) = IsSound p × HasOne p.below × Apart p.below (all_of (belows ps)) × IsRow ps

pub row_within : (ps : List Part) → IsRow ps → (s : VertexSet) → Contains (all_cuts ps) s → IsIn s (all_of (belows ps))
row_within [] r s c = absurd (Contains-nil s c)
row_within (p ∷ ps) r s c = elim (Contains-append_cases p.cuts (all_cuts ps) s c) [
  | inl h ↦ λ v e. or_left (p.below v) (all_of (belows ps) v) (r.0.within s h v e)
  | inr h ↦ λ v e. or_right (p.below v) (all_of (belows ps) v) (row_within ps r.3 s h v e)
]

pub row_nonempty : (ps : List Part) → IsRow ps → (s : VertexSet) → Contains (all_cuts ps) s → HasOne s
row_nonempty [] r s c = absurd (Contains-nil s c)
row_nonempty (p ∷ ps) r s c = elim (Contains-append_cases p.cuts (all_cuts ps) s c) [
  | inl h ↦ r.0.nonempty s h
  | inr h ↦ row_nonempty ps r.3 s h
]

-- each part has its vertices below as a cut
abbrev pub HaveOwn : List Part → Type 0
HaveOwn [] = ⊤
HaveOwn (p ∷ ps) = Contains p.cuts p.below × HaveOwn ps

-- a vertex of parts is in a cut of them
pub in_some_cut : (ps : List Part) → HaveOwn ps → (v : ℕ) → all_of (belows ps) v ≡ true → (s : VertexSet) × Contains (all_cuts ps) s × (s v ≡ true)
in_some_cut [] o v e = absurd (false≢true e)
in_some_cut (p ∷ ps) o v e = elim (or_cases (p.below v) (all_of (belows ps) v) e) [
  | inl h ↦ (p.below, Contains-append_left p.cuts (all_cuts ps) p.below o.0, h)
  | inr h ↦ let r = in_some_cut ps o.1 v h in (r.0, Contains-append_right p.cuts (all_cuts ps) r.0 r.1, r.2)
]

-- a cut that has a vertex of the first part is a cut of it
pub head_cut : (q : Part) (qs : List Part) → IsRow (q ∷ qs) → (s : VertexSet) → Contains (all_cuts (q ∷ qs)) s → (u : ℕ) → s u ≡ true → q.below u ≡ true → Contains q.cuts s
head_cut q qs r s c u su qu = elim (Contains-append_cases q.cuts (all_cuts qs) s c) [
  | inl h ↦ h
  | inr h ↦ absurd (r.2 u qu (row_within qs r.3 s h u su))
]

-- ---- two rows with the same cuts, whose first parts share a vertex
module _ (p q : Part) (ps qs : List Part) (rp : IsRow (p ∷ ps)) (rq : IsRow (q ∷ qs))
    (f : (s : VertexSet) → Contains (all_cuts (p ∷ ps)) s → Contains (all_cuts (q ∷ qs)) s) where
  head_within : Contains p.cuts p.below → (u : ℕ) → p.below u ≡ true → q.below u ≡ true → IsIn p.below q.below
  head_within own u pu qu = rq.0.within p.below (head_cut q qs rq p.below (f p.below (Contains-append_left p.cuts (all_cuts ps) p.below own)) u pu qu)

  head_cuts : IsIn p.below q.below → (s : VertexSet) → Contains p.cuts s → Contains q.cuts s
  head_cuts below s h =
      let w = rp.0.nonempty s h in
      head_cut q qs rq s (f s (Contains-append_left p.cuts (all_cuts ps) s h)) w.0 w.1 (below w.0 (rp.0.within s h w.0 w.1))

  rest_cuts : IsIn q.below p.below → (s : VertexSet) → Contains (all_cuts ps) s → Contains (all_cuts qs) s
  rest_cuts below s h = elim (Contains-append_cases q.cuts (all_cuts qs) s (f s (Contains-append_right p.cuts (all_cuts ps) s h))) [
    | inl k ↦ (let w = row_nonempty ps rp.3 s h in absurd (rp.2 w.0 (below w.0 (rq.0.within s k w.0 w.1)) (row_within ps rp.3 s h w.0 w.1)))
    | inr k ↦ k
  ]

pub row_head : (p q : Part) (ps qs : List Part) → IsRow (p ∷ ps) → IsRow (q ∷ qs) → Contains p.cuts p.below → Contains q.cuts q.below →
    (u : ℕ) → p.below u ≡ true → q.below u ≡ true → SameFamily (all_cuts (p ∷ ps)) (all_cuts (q ∷ qs)) →
    (p.below ≡ q.below) × SameFamily p.cuts q.cuts × SameFamily (all_cuts ps) (all_cuts qs)
row_head p q ps qs rp rq op oq u pu qu f =
    let there : IsIn p.below q.below = head_within p q ps qs rp rq (λ s. (f s).0) op u pu qu in
    let back : IsIn q.below p.below = head_within q p qs ps rq rp (λ s. (f s).1) oq u qu pu in (
      same_set p.below q.below there back,
      (λ s. (head_cuts p q ps qs rp rq (λ t. (f t).0) there s, head_cuts q p qs ps rq rp (λ t. (f t).1) back s)),
      (λ s. (rest_cuts p q ps qs rp rq (λ t. (f t).0) back s, rest_cuts q p qs ps rq rp (λ t. (f t).1) there s)),
    )

-- two cuts of two or more parts that share a vertex leave one out
pub one_left_out : (ps : List Part) → IsRow ps → 2 ≤ length ps → (s t : VertexSet) → Contains (all_cuts ps) s → Contains (all_cuts ps) t →
    (w : ℕ) → s w ≡ true → t w ≡ true → (u : ℕ) × (all_of (belows ps) u ≡ true) × (s u ≡ false) × (t u ≡ false)
one_left_out [] r k s t cs ct w sw tw = absurd (omega (arith, k))
one_left_out (p ∷ []) r k s t cs ct w sw tw = absurd (omega (arith, k))
one_left_out (p ∷ (q ∷ qs)) r k s t cs ct w sw tw = elim (Contains-append_cases p.cuts (all_cuts (q ∷ qs)) s cs) [
  | inl h ↦ (
      let u : HasOne q.below = r.3.1 in
      let there : all_of (belows (q ∷ qs)) u.0 ≡ true = or_left (q.below u.0) (all_of (belows qs) u.0) u.1 in
      let ht : Contains p.cuts t = head_cut p (q ∷ qs) r t ct w tw (r.0.within s h w sw) in (
        u.0,
        or_right (p.below u.0) (all_of (belows (q ∷ qs)) u.0) there,
        false_from_ne_true (s u.0) (λ e. r.2 u.0 (r.0.within s h u.0 e) there),
        false_from_ne_true (t u.0) (λ e. r.2 u.0 (r.0.within t ht u.0 e) there),
      ))
  | inr h ↦ (
      let u : HasOne p.below = r.1 in
      let late : (x : VertexSet) → Contains (all_cuts (q ∷ qs)) x → x u.0 ≡ false = λ x c. false_from_ne_true (x u.0) (λ e. r.2 u.0 u.1 (row_within (q ∷ qs) r.3 x c u.0 e)) in
      let ht : Contains (all_cuts (q ∷ qs)) t = elim (Contains-append_cases p.cuts (all_cuts (q ∷ qs)) t ct) [
        | inl k ↦ absurd (r.2 w (r.0.within t k w tw) (row_within (q ∷ qs) r.3 s h w sw))
        | inr k ↦ k
      ] in (
        u.0,
        or_left (p.below u.0) (all_of (belows (q ∷ qs)) u.0) u.1,
        late s h,
        late t ht,
      ))
]
