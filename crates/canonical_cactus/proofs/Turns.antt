-- The ends of a cycle: its first child, and two overlapping cuts that make up the whole.
use Rattle.std.proofs.Common.{◌≡◌, ℕ, ◌≤◌, ◌<◌, ◌⊎◌, inl, inr, Bool, true, false, ◌||◌, List, [], ◌∷◌, refl, subst, arith}
use Rattle.std.specs.List.{Contains}
use Rattle.std.proofs.lemmas.Bool.{or_cases, or_left, or_right}
use Rattle.cut_definitions.specs.Weight.{VertexSet, either}
use Rattle.cut_definitions.proofs.Lists.{Contains-here, Contains-there, Contains-cons_cases, Contains-nil}
use Rattle.rooted_cactus.specs.Sides.{Part, nothing, all_of, belows, from_here}
use Rattle.rooted_cactus.proofs.Sets.{IsIn, HasOne, Apart, IsLeast, SameFamily, same_set, or_forth}
use Rattle.rooted_cactus.proofs.Rows.{IsRow}
use Rattle.rooted_cactus.proofs.Cycles.{cycle_cuts, cycle_cases, cycle_here, cycle_rest, cycle_within, cycle_whole, here_above}
use Rattle.rooted_cactus.proofs.Distinct.{grown_apart}

-- the last of several parts
abbrev pub last_part : Part → List Part → Part
last_part p [] = p
last_part p (q ∷ qs) = last_part q qs

pub last_in : (p : Part) (ps : List Part) → IsIn (last_part p ps).below (all_of (belows (p ∷ ps)))
last_in p [] v e = or_left (p.below v) false e
last_in p (q ∷ qs) v e = or_right (p.below v) (all_of (belows (q ∷ qs)) v) (last_in q qs v e)

pub last_one : (p : Part) (ps : List Part) → IsRow (p ∷ ps) → HasOne (last_part p ps).below
last_one p [] r = r.1
last_one p (q ∷ qs) r = last_one q qs r.3

without_none : (a b : Bool) → (a || (b || false)) ≡ true → (a || b) ≡ true
without_none true b h = refl
without_none false true h = refl
without_none false false h = h

turned : (a b : Bool) → (a || (b || false)) ≡ true → (b || a) ≡ true
turned true true h = refl
turned true false h = refl
turned false true h = refl
turned false false h = h

-- ---- intervals that begin at one place: the whole, or all without the last
here_short : (s : VertexSet) (p : Part) (ps : List Part) → IsRow (p ∷ ps) → Apart s (all_of (belows (p ∷ ps))) → (x : VertexSet) → Contains (from_here s (belows (p ∷ ps))) x →
    IsIn (either s (all_of (belows (p ∷ ps)))) x ⊎ Apart x (last_part p ps).below
here_short s p [] r a x c = elim (Contains-cons_cases s (from_here (either s p.below) []) x c) [
  | inl e ↦ inr (subst (λ y. Apart y p.below) e (λ v h k. a v h (or_left (p.below v) false k)))
  | inr h ↦ elim (Contains-cons_cases (either s p.below) [] x h) [
    | inl e ↦ inl (subst (λ y. IsIn (either s (either p.below nothing)) y) e (λ v k. without_none (s v) (p.below v) k))
    | inr n ↦ absurd (Contains-nil x n)
  ]
]
here_short s p (q ∷ qs) r a x c = elim (Contains-cons_cases s (from_here (either s p.below) (belows (q ∷ qs))) x c) [
  | inl e ↦ inr (subst (λ y. Apart y (last_part q qs).below) e (λ v h k. a v h (last_in p (q ∷ qs) v k)))
  | inr h ↦ elim (here_short (either s p.below) q qs r.3 (grown_apart s p (q ∷ qs) r a) x h) [
    | inl k ↦ inl (λ v e. k v (or_forth (s v) (p.below v) (all_of (belows (q ∷ qs)) v) e))
    | inr k ↦ inr k
  ]
]

-- a cut of a cycle is the whole, or lacks the first child or the last
pub cut_ends : (p q : Part) (qs : List Part) → IsRow (p ∷ (q ∷ qs)) → (s : VertexSet) → Contains (cycle_cuts (p ∷ (q ∷ qs))) s →
    IsIn (all_of (belows (p ∷ (q ∷ qs)))) s ⊎ (Apart s p.below ⊎ Apart s (last_part q qs).below)
cut_ends p q qs r s c = elim (cycle_cases p (q ∷ qs) s c) [
  | inl h ↦ elim (here_short p.below q qs r.3 r.2 s h) [ inl k ↦ inl k | inr k ↦ inr (inr k) ]
  | inr m ↦ elim m [
    | inl h ↦ inr (inr (λ v e k. r.2 v (r.0.within s h v e) (last_in q qs v k)))
    | inr h ↦ inr (inl (λ v e k. r.2 v k (cycle_within (q ∷ qs) r.3 s h v e)))
  ]
]

-- ---- all children but the last
abbrev pub front : VertexSet → Part → List Part → VertexSet
front s p [] = s
front s p (q ∷ qs) = front (either s p.below) q qs

pub front_cut : (s : VertexSet) (p : Part) (ps : List Part) → Contains (from_here s (belows (p ∷ ps))) (front s p ps)
front_cut s p [] = Contains-here s (from_here (either s p.below) [])
front_cut s p (q ∷ qs) = Contains-there s (from_here (either s p.below) (belows (q ∷ qs))) (front (either s p.below) q qs) (front_cut (either s p.below) q qs)

pub front_apart : (s : VertexSet) (p : Part) (ps : List Part) → IsRow (p ∷ ps) → Apart s (all_of (belows (p ∷ ps))) → Apart (front s p ps) (last_part p ps).below
front_apart s p [] r a v h k = a v h (or_left (p.below v) false k)
front_apart s p (q ∷ qs) r a v h k = front_apart (either s p.below) q qs r.3 (grown_apart s p (q ∷ qs) r a) v h k

pub front_rest : (s : VertexSet) (p : Part) (ps : List Part) → IsIn (either s (all_of (belows (p ∷ ps)))) (either (last_part p ps).below (front s p ps))
front_rest s p [] v e = turned (s v) (p.below v) e
front_rest s p (q ∷ qs) v e = front_rest (either s p.below) q qs v (or_forth (s v) (p.below v) (all_of (belows (q ∷ qs)) v) e)

-- ---- the first child
-- a set whose complement in the whole is a cut has the first child or the last
corner : (p q : Part) (qs : List Part) → IsRow (p ∷ (q ∷ qs)) → (s e : VertexSet) → Contains (cycle_cuts (p ∷ (q ∷ qs))) s → Apart s e → HasOne e →
    IsIn e (all_of (belows (p ∷ (q ∷ qs)))) → IsIn (all_of (belows (p ∷ (q ∷ qs)))) (either e s) → IsIn p.below e ⊎ IsIn (last_part q qs).below e
corner p q qs r s e c a one inside whole = elim (cut_ends p q qs r s c) [
  | inl k ↦ absurd (a one.0 (k one.0 (inside one.0 one.1)) one.1)
  | inr m ↦ elim m [
    | inl k ↦ inl (λ v h. elim (or_cases (e v) (s v) (whole v (or_left (p.below v) (all_of (belows (q ∷ qs)) v) h))) [ inl t ↦ t | inr t ↦ absurd (k v t h) ])
    | inr k ↦ inr (λ v h. elim (or_cases (e v) (s v) (whole v (last_in p (q ∷ qs) v h))) [ inl t ↦ t | inr t ↦ absurd (k v t h) ])
  ]
]

-- each end of one cycle has an end of another with the same cuts
record MeetEnds (first last first' last' : VertexSet) : Type 0 where
  at_first : IsIn first' first ⊎ IsIn last' first
  at_last : IsIn first' last ⊎ IsIn last' last

ends_meet : (p q p' q' : Part) (qs qs' : List Part) → IsRow (p ∷ (q ∷ qs)) → IsRow (p' ∷ (q' ∷ qs')) →
    IsIn (all_of (belows (p ∷ (q ∷ qs)))) (all_of (belows (p' ∷ (q' ∷ qs')))) → IsIn (all_of (belows (p' ∷ (q' ∷ qs')))) (all_of (belows (p ∷ (q ∷ qs)))) →
    ((s : VertexSet) → Contains (cycle_cuts (p ∷ (q ∷ qs))) s → Contains (cycle_cuts (p' ∷ (q' ∷ qs'))) s) →
    MeetEnds p.below (last_part q qs).below p'.below (last_part q' qs').below
ends_meet p q p' q' qs qs' r r' there back f =
    let behind : VertexSet = all_of (belows (q ∷ qs)) in
    let before : VertexSet = front p.below q qs in
    record {
      at_first = corner p' q' qs' r' behind p.below (f behind (cycle_rest p (q ∷ qs) behind (cycle_whole q qs)))
          (λ v h k. r.2 v k h) r.1 (λ v h. there v (or_left (p.below v) (behind v) h)) (λ v h. back v h);
      at_last = corner p' q' qs' r' before (last_part q qs).below (f before (cycle_here p (q ∷ qs) before (front_cut p.below q qs)))
          (front_apart p.below q qs r.3 r.2) (last_one q qs r.3) (λ v h. there v (last_in p (q ∷ qs) v h)) (λ v h. front_rest p.below q qs v (back v h));
    }

meet_first : (f l f' l' : VertexSet) (a b a' b' : ℕ) → Apart f l → HasOne f → HasOne l → IsLeast f a → IsLeast l b → IsLeast f' a' → IsLeast l' b' → a < b → a' < b' →
    MeetEnds f l f' l' → MeetEnds f' l' f l → f ≡ f'
meet_first f l f' l' a b a' b' apart one_f one_l fa lb fa' lb' ab ab' m m' = elim m.at_first [
  | inl x ↦ elim m'.at_first [
    | inl y ↦ same_set f f' y x
    | inr y ↦ absurd (apart one_l.0 (x one_l.0 (y one_l.0 one_l.1)) one_l.1)
  ]
  | inr x ↦ elim m'.at_last [
    | inl y ↦ elim m.at_last [
      | inl z ↦ (let p : b ≤ a' = lb.1 a' (z a' fa'.0) in let q : b' ≤ a = lb'.1 a (y a fa.0) in absurd (omega (arith, p, q, ab, ab')))
      | inr z ↦ absurd (apart one_f.0 one_f.1 (z one_f.0 (y one_f.0 one_f.1)))
    ]
    | inr y ↦ absurd (apart one_l.0 (x one_l.0 (y one_l.0 one_l.1)) one_l.1)
  ]
]

pub first_same : (p q p' q' : Part) (qs qs' : List Part) → IsRow (p ∷ (q ∷ qs)) → IsRow (p' ∷ (q' ∷ qs')) →
    IsIn (all_of (belows (p ∷ (q ∷ qs)))) (all_of (belows (p' ∷ (q' ∷ qs')))) → IsIn (all_of (belows (p' ∷ (q' ∷ qs')))) (all_of (belows (p ∷ (q ∷ qs)))) →
    SameFamily (cycle_cuts (p ∷ (q ∷ qs))) (cycle_cuts (p' ∷ (q' ∷ qs'))) →
    (a b a' b' : ℕ) → IsLeast p.below a → IsLeast (last_part q qs).below b → IsLeast p'.below a' → IsLeast (last_part q' qs').below b' → a < b → a' < b' → p.below ≡ p'.below
first_same p q p' q' qs qs' r r' there back f a b a' b' fa lb fa' lb' ab ab' =
    meet_first p.below (last_part q qs).below p'.below (last_part q' qs').below a b a' b'
    (λ v h k. r.2 v h (last_in q qs v k)) r.1 (last_one q qs r.3) fa lb fa' lb' ab ab'
    (ends_meet p q p' q' qs qs' r r' there back (λ s. (f s).0)) (ends_meet p' q' p q qs' qs r' r back there (λ s. (f s).1))

-- ---- two overlapping cuts that make up the whole, neither of which is it
pub record IsTorn (below : VertexSet) (cuts : List VertexSet) : Type 0 where
  pub one : VertexSet
  pub other : VertexSet
  pub one_cut : Contains cuts one
  pub other_cut : Contains cuts other
  pub shared : ℕ
  pub in_one : one shared ≡ true
  pub in_other : other shared ≡ true
  pub outside_one : ℕ
  pub below_one : below outside_one ≡ true
  pub not_one : one outside_one ≡ true → ⊥
  pub outside_other : ℕ
  pub below_other : below outside_other ≡ true
  pub not_other : other outside_other ≡ true → ⊥
  pub whole : IsIn below (either one other)

pub cycle_torn : (p q z : Part) (zs : List Part) → IsRow (p ∷ (q ∷ (z ∷ zs))) → IsTorn (all_of (belows (p ∷ (q ∷ (z ∷ zs))))) (cycle_cuts (p ∷ (q ∷ (z ∷ zs))))
cycle_torn p q z zs r =
    let rest = q ∷ (z ∷ zs) in
    let before : VertexSet = front p.below q (z ∷ zs) in
    let behind : VertexSet = all_of (belows rest) in
    let last : VertexSet = (last_part z zs).below in
    let w : HasOne q.below = r.3.1 in
    let u : HasOne last = last_one z zs r.3.3 in
    let x : HasOne p.below = r.1 in
    let begun : Contains (from_here p.below (belows rest)) before = front_cut p.below q (z ∷ zs) in
    let next : Contains (from_here (either p.below q.below) (belows (z ∷ zs))) before = front_cut (either p.below q.below) z zs in
    record {
      one = before;
      other = behind;
      one_cut = cycle_here p rest before begun;
      other_cut = cycle_rest p rest behind (cycle_whole q (z ∷ zs));
      shared = w.0;
      in_one = here_above (either p.below q.below) (belows (z ∷ zs)) before next w.0 (or_right (p.below w.0) (q.below w.0) w.1);
      in_other = or_left (q.below w.0) (all_of (belows (z ∷ zs)) w.0) w.1;
      outside_one = u.0;
      below_one = last_in p rest u.0 u.1;
      not_one = λ h. front_apart p.below q (z ∷ zs) r.3 r.2 u.0 h u.1;
      outside_other = x.0;
      below_other = or_left (p.below x.0) (behind x.0) x.1;
      not_other = λ h. r.2 x.0 x.1 h;
      whole = λ v h. elim (or_cases (p.below v) (behind v) h) [
        | inl k ↦ or_left (before v) (behind v) (here_above p.below (belows rest) before begun v k)
        | inr k ↦ or_right (before v) (behind v) k
      ];
    }
