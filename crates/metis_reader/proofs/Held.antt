-- Which entries wait, when a place is filled, emptied or added.
use Rattle.std.proofs.Common.{◌≡◌, ◌≢◌, ◌≤◌, ◌<◌, ◌+◌, ◌*◌, ◌/◌, ◌%◌, ◌-◌, ℕ, zero, suc, List, [], ◌∷◌, ◌++◌, length, drop, get_or, set, arith, inl, inr, refl, subst, sym, ap, ◌∙◌}
use Rattle.std.specs.Prelude.{◌==◌, ◌⊎◌, replicate, if◌then◌else◌}
use Rattle.std.specs.List.Sorted.{IsPermutation}
use Rattle.std.proofs.lemmas.Bool.{eq-eqb, ne_eqb, cases_eq, cases_Bool}
use Rattle.std.proofs.lemmas.Grind.{common_steps}
use Rattle.std.proofs.lemmas.List.{drop_more, drop_all, set-set, set-get_or, get_or-set_same}
use Rattle.std.proofs.lemmas.List.Sorted.{IsPermutation-refl, IsPermutation-sym, IsPermutation-cons, IsPermutation-trans, IsPermutation-middle, IsPermutation-append_left, IsPermutation-append_right, length_permutation}
use Rattle.cut_definitions.specs.declared.edge_list.Edge.{Edge}
use Rattle.metis_reader.specs.Regions.{entry_at, waiting_from}

abbrev held : ℕ → Edge → List Edge → List Edge
held p e es = if p == 0 then es else e ∷ es

-- the same entries are at these places
abbrev pub SameAt : ℕ → List ℕ → List ℕ → List ℕ → List ℕ → List ℕ → Type 0
SameAt place owners weights others heavies ps = (i : ℕ) → i < length ps
    → (get_or ps i 0 ≡ 0) ⊎ (entry_at others heavies (place + i) (get_or ps i 0) ≡ entry_at owners weights (place + i) (get_or ps i 0))

pub same_held : (place : ℕ) (owners weights others heavies ps : List ℕ) → SameAt place owners weights others heavies ps
    → waiting_from place others heavies ps ≡ waiting_from place owners weights ps
same_held place owners weights others heavies [] same = refl
same_held place owners weights others heavies (p ∷ ps) same =
    let none : place + 0 ≡ place = omega arith in
    let rest : waiting_from (suc place) others heavies ps ≡ waiting_from (suc place) owners weights ps =
    same_held (suc place) owners weights others heavies ps (λ i lt.
    let at : place + suc i ≡ suc place + i = omega arith in
    subst (λ k. (get_or ps i 0 ≡ 0) ⊎ (entry_at others heavies k (get_or ps i 0) ≡ entry_at owners weights k (get_or ps i 0))) at (same (suc i) (omega arith))) in
    elim (same 0 (omega arith)) [
      | inl empty ↦ rw (eq-eqb p 0 empty) rest
      | inr is ↦
          let here : entry_at others heavies place p ≡ entry_at owners weights place p = subst (λ k. entry_at others heavies k p ≡ entry_at owners weights k p) none is in
          ap (λ es. held p (entry_at others heavies place p) es) rest ∙ ap (λ e. held p e (waiting_from (suc place) owners weights ps)) here
    ]

-- A place is filled.

under : (p : ℕ) (e x : Edge) (r s : List Edge) → IsPermutation (e ∷ r) s → IsPermutation (e ∷ held p x r) (held p x s)
under p e x r s h = elim (cases_eq p 0) [
  | inl none ↦ rw (eq-eqb p 0 none) h
  | inr some ↦ rw (ne_eqb p 0 some)
      (IsPermutation-trans (e ∷ x ∷ r) (x ∷ e ∷ r) (x ∷ s)
      (IsPermutation-sym (x ∷ e ∷ r) (e ∷ x ∷ r) (IsPermutation-middle (x ∷ []) e r)) (IsPermutation-cons x (e ∷ r) s h))
]

pub filled : (place : ℕ) (owners weights ps : List ℕ) (i p : ℕ) → i < length ps → get_or ps i 0 ≡ 0 → p ≢ 0
    → IsPermutation (entry_at owners weights (place + i) p ∷ waiting_from place owners weights ps) (waiting_from place owners weights (set ps i p))
filled place owners weights [] i p lt empty some = absurd (omega arith)
filled place owners weights (q ∷ ps) zero p lt empty some =
    let none : place + 0 ≡ place = omega arith in
    subst (λ k. IsPermutation (entry_at owners weights k p ∷ waiting_from place owners weights (q ∷ ps)) (waiting_from place owners weights (p ∷ ps))) (sym none)
    (rw (eq-eqb q 0 empty, ne_eqb p 0 some) (IsPermutation-refl (entry_at owners weights place p ∷ waiting_from (suc place) owners weights ps)))
filled place owners weights (q ∷ ps) (suc i) p lt empty some =
    let at : suc place + i ≡ place + suc i = omega arith in
    under q (entry_at owners weights (place + suc i) p) (entry_at owners weights place q) (waiting_from (suc place) owners weights ps) (waiting_from (suc place) owners weights (set ps i p))
    (subst (λ k. IsPermutation (entry_at owners weights k p ∷ waiting_from (suc place) owners weights ps) (waiting_from (suc place) owners weights (set ps i p))) at
    (filled (suc place) owners weights ps i p (omega arith) empty some))

-- and emptied
pub emptied : (place : ℕ) (owners weights ps : List ℕ) (i : ℕ) → i < length ps → get_or ps i 0 ≢ 0
    → IsPermutation (entry_at owners weights (place + i) (get_or ps i 0) ∷ waiting_from place owners weights (set ps i 0)) (waiting_from place owners weights ps)
emptied place owners weights ps i lt some =
    let long : i < length (set ps i 0) = grind (arith, common_steps) in
    let back : set (set ps i 0) i (get_or ps i 0) ≡ ps = set-set ps i 0 (get_or ps i 0) ∙ set-get_or ps i 0 in
    subst (λ qs. IsPermutation (entry_at owners weights (place + i) (get_or ps i 0) ∷ waiting_from place owners weights (set ps i 0)) (waiting_from place owners weights qs)) back
    (filled place owners weights (set ps i 0) i (get_or ps i 0) long (get_or-set_same ps i 0 0 lt) some)

-- Places come.

pub more_places : (place : ℕ) (owners weights ps : List ℕ) (n : ℕ) → waiting_from place owners weights (ps ++ replicate n 0) ≡ waiting_from place owners weights ps
more_places place owners weights [] zero = refl
more_places place owners weights [] (suc n) = more_places (suc place) owners weights [] n
more_places place owners weights (p ∷ ps) n = ap (λ es. held p (entry_at owners weights place p) es) (more_places (suc place) owners weights ps n)

pub beyond : (ws : List ℕ) (n i : ℕ) → get_or (ws ++ replicate n 1) i 1 ≡ get_or ws i 1
beyond [] zero i = refl
beyond [] (suc n) zero = refl
beyond [] (suc n) (suc i) = beyond [] n i
beyond (w ∷ ws) n zero = refl
beyond (w ∷ ws) n (suc i) = beyond ws n i

-- the same entry of other lists
entry_is : (owners weights others heavies : List ℕ) (place p : ℕ) → get_or others (place / 1024) 0 ≡ get_or owners (place / 1024) 0 → get_or heavies place 1 ≡ get_or weights place 1
    → entry_at others heavies place p ≡ entry_at owners weights place p
entry_is owners weights others heavies place p o w =
    ap (λ (o : ℕ). record { u = o * 1024 + p / 4194304 + 1; v = p % 4194304 + 1; w = get_or heavies place 1 }) o
    ∙ ap (λ (w : ℕ). record { u = get_or owners (place / 1024) 0 * 1024 + p / 4194304 + 1; v = p % 4194304 + 1; w = w }) w

pub more_room : (owners weights heavies ps : List ℕ) (owner n : ℕ) → length ps ≤ 1024 * length owners → ((k : ℕ) → get_or heavies k 1 ≡ get_or weights k 1)
    → waiting_from 0 (owners ++ owner ∷ []) heavies (ps ++ replicate n 0) ≡ waiting_from 0 owners weights ps
more_room owners weights heavies ps owner n few same =
    more_places 0 (owners ++ owner ∷ []) heavies ps n
    ∙ same_held 0 owners weights (owners ++ owner ∷ []) heavies ps
    (λ i lt. inr (entry_is owners weights (owners ++ owner ∷ []) heavies (0 + i) (get_or ps i 0) (old (0 + i) (omega arith)) (same (0 + i))))
  where
    old : (k : ℕ) → k < 1024 * length owners → get_or (owners ++ owner ∷ []) (k / 1024) 0 ≡ get_or owners (k / 1024) 0
    old k lt = let inside : k / 1024 < length owners = omega arith in grind (arith, common_steps)

-- No more wait than there are places.
pub few_held : (place : ℕ) (owners weights ps : List ℕ) → length (waiting_from place owners weights ps) ≤ length ps
few_held place owners weights [] = omega arith
few_held place owners weights (p ∷ ps) =
    let rest : length (waiting_from (suc place) owners weights ps) ≤ length ps = few_held (suc place) owners weights ps in
    elim (cases_Bool (p == 0)) [ inl t ↦ rw t (omega arith) | inr f ↦ rw f (omega arith) ]

-- A weight is written at an empty place, and then the entry.

pub weight_written : (owners weights heavies ps : List ℕ) (i : ℕ) → get_or ps i 0 ≡ 0 → ((j : ℕ) → j ≢ i → get_or heavies j 1 ≡ get_or weights j 1)
    → waiting_from 0 owners heavies ps ≡ waiting_from 0 owners weights ps
weight_written owners weights heavies ps i empty same =
    same_held 0 owners weights owners heavies ps (λ j lt. elim (cases_eq j i) [
      | inl here ↦ inl (ap (λ k. get_or ps k 0) here ∙ empty)
      | inr other ↦ inr (entry_is owners weights owners heavies (0 + j) (get_or ps j 0) refl (same (0 + j) (λ e. other (omega arith))))
    ])

lesser_end : (owner u v : ℕ) → owner ≡ (u - 1) / 1024 → 1 ≤ u → 1 ≤ v → v ≤ 4194304 → owner * 1024 + ((u - 1) % 1024 * 4194304 + (v - 1)) / 4194304 + 1 ≡ u
lesser_end owner u v is one some most = omega arith

greater_end : (u v : ℕ) → 1 ≤ v → v ≤ 4194304 → ((u - 1) % 1024 * 4194304 + (v - 1)) % 4194304 + 1 ≡ v
greater_end u v some most = omega arith

edge_is : (a b : Edge) → a.u ≡ b.u → a.v ≡ b.v → a.w ≡ b.w → a ≡ b
edge_is a b u v w = ap (λ (u : ℕ). record { u = u; v = a.v; w = a.w }) u ∙ ap (λ (v : ℕ). record { u = b.u; v = v; w = a.w }) v ∙ ap (λ (w : ℕ). record { u = b.u; v = b.v; w = w }) w

pub packed_is : (owners weights : List ℕ) (place : ℕ) (e : Edge) → get_or owners (place / 1024) 0 ≡ (e.u - 1) / 1024 → get_or weights place 1 ≡ e.w → 1 ≤ e.u → e.u < e.v → e.v ≤ 4194304
    → entry_at owners weights place ((e.u - 1) % 1024 * 4194304 + (e.v - 1)) ≡ e
packed_is owners weights place e owner weight one rises most =
    edge_is (entry_at owners weights place ((e.u - 1) % 1024 * 4194304 + (e.v - 1))) e
    (lesser_end (get_or owners (place / 1024) 0) e.u e.v owner one (omega arith) most) (greater_end e.u e.v (omega arith) most) weight

pub put_there : (owners weights heavies ps : List ℕ) (place number : ℕ) (e : Edge) → place < length ps → get_or ps place 0 ≡ 0 → number ≡ (e.u - 1) % 1024 * 4194304 + (e.v - 1)
    → get_or owners (place / 1024) 0 ≡ (e.u - 1) / 1024 → get_or heavies place 1 ≡ e.w → ((k : ℕ) → k ≢ place → get_or heavies k 1 ≡ get_or weights k 1)
    → 1 ≤ e.u → e.u < e.v → e.v ≤ 4194304
    → IsPermutation (e ∷ waiting_from 0 owners weights ps) (waiting_from 0 owners heavies (set ps place number))
put_there owners weights heavies ps place number e lt empty is owner weight others one rises most =
    let none : 0 + place ≡ place = omega arith in
    let there : entry_at owners heavies (0 + place) number ≡ e =
    ap (λ k. entry_at owners heavies k number) none ∙ ap (λ p. entry_at owners heavies place p) is ∙ packed_is owners heavies place e owner weight one rises most in
    subst (λ x. IsPermutation (x ∷ waiting_from 0 owners weights ps) (waiting_from 0 owners heavies (set ps place number))) there
    (subst (λ es. IsPermutation (entry_at owners heavies (0 + place) number ∷ es) (waiting_from 0 owners heavies (set ps place number)))
    (weight_written owners weights heavies ps place empty others)
    (filled 0 owners heavies ps place number lt empty (λ h. omega arith)))

-- An entry that waits is met.
pub met_waiting : (base met now rest left : List Edge) (e : Edge) → IsPermutation base (met ++ rest) → IsPermutation (e ∷ met) now → IsPermutation (e ∷ left) rest → IsPermutation base (now ++ left)
met_waiting base met now rest left e h m r =
    IsPermutation-trans base (met ++ rest) (now ++ left) h
    (IsPermutation-trans (met ++ rest) (met ++ e ∷ left) (now ++ left)
    (IsPermutation-append_right met rest (e ∷ left) (IsPermutation-sym (e ∷ left) rest r))
    (IsPermutation-trans (met ++ e ∷ left) (e ∷ met ++ left) (now ++ left) (IsPermutation-middle met e left) (IsPermutation-append_left left (e ∷ met) now m)))

-- The entries from a place on.

pub next_empty : (i : ℕ) (owners weights ps : List ℕ) → i < length ps → get_or ps i 0 ≡ 0
    → waiting_from i owners weights (drop i ps) ≡ waiting_from (i + 1) owners weights (drop (i + 1) ps)
next_empty i owners weights ps lt empty =
    let one : suc i ≡ i + 1 = omega arith in
    ap (λ qs. waiting_from i owners weights qs) (drop_more ps i 0 lt)
    ∙ rw (eq-eqb (get_or ps i 0) 0 empty) (ap (λ k. waiting_from k owners weights (drop (i + 1) ps)) one)

pub next_some : (i : ℕ) (owners weights ps : List ℕ) → i < length ps → get_or ps i 0 ≢ 0
    → waiting_from i owners weights (drop i ps) ≡ entry_at owners weights i (get_or ps i 0) ∷ waiting_from (i + 1) owners weights (drop (i + 1) ps)
next_some i owners weights ps lt some =
    let one : suc i ≡ i + 1 = omega arith in
    ap (λ qs. waiting_from i owners weights qs) (drop_more ps i 0 lt)
    ∙ rw (ne_eqb (get_or ps i 0) 0 some) (ap (λ k. entry_at owners weights i (get_or ps i 0) ∷ waiting_from k owners weights (drop (i + 1) ps)) one)

pub none_behind : (i : ℕ) (owners weights ps : List ℕ) → length ps ≤ i → waiting_from i owners weights (drop i ps) ≡ []
none_behind i owners weights ps le = ap (λ qs. waiting_from i owners weights qs) (drop_all i ps le)

-- What the table keeps, when an entry comes.
pub one_more_held : (held : ℕ) (o o' w w0 w' wn p p0 p' pn : List ℕ) (e : Edge) → held ≡ length (waiting_from 0 o w p) → o' ≡ o → w0 ≡ w → p0 ≡ p → wn ≡ w' → pn ≡ p'
    → IsPermutation (e ∷ waiting_from 0 o' w0 p0) (waiting_from 0 o' w' p') → held + 1 ≡ length (waiting_from 0 o wn pn)
one_more_held held o o' w w0 w' wn p p0 p' pn e counted is_o is_w is_p is_wn is_pn moved =
    let len : length (waiting_from 0 o' w' p') ≡ suc (length (waiting_from 0 o' w0 p0)) = length_permutation _ _ moved in
    let old : length (waiting_from 0 o' w0 p0) ≡ length (waiting_from 0 o w p) =
    ap (λ o. length (waiting_from 0 o w0 p0)) is_o ∙ ap (λ w. length (waiting_from 0 o w p0)) is_w ∙ ap (λ p. length (waiting_from 0 o w p)) is_p in
    let new : length (waiting_from 0 o wn pn) ≡ length (waiting_from 0 o' w' p') =
    ap (λ w. length (waiting_from 0 o w pn)) is_wn ∙ ap (λ p. length (waiting_from 0 o w' p)) is_pn ∙ ap (λ o. length (waiting_from 0 o w' p')) (sym is_o) in
    omega arith
