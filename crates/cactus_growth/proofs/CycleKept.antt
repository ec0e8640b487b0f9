-- Cycles in which a child changes or some children become one: which cuts are kept.
use Rattle.std.proofs.Common.{◌≡◌, ℕ, ◌⊎◌, ◌↔◌, inl, inr, true, false, ◌||◌, List, [], ◌∷◌, ◌++◌, map, refl, sym, ◌∙◌, ap, subst}
use Rattle.std.specs.List.{All, Contains}
use Rattle.std.proofs.lemmas.Bool.{cases_Bool, false≢true, false_from_ne_true}
use Rattle.std.proofs.lemmas.List.{map-append}
use Rattle.std.proofs.lemmas.List.Elements.{All-nil, All-cons, All-head, All-tail, All-append}
use Rattle.cut_definitions.specs.Weight.{VertexSet, either}
use Rattle.cut_definitions.proofs.Lists.{Contains-cons_cases, Contains-nil}
use Rattle.cut_definitions.proofs.Bools.{no_left, no_right}
use Rattle.rooted_cactus.specs.Sides.{Part, part, all_of, belows, from_here}
use Rattle.rooted_cactus.specs.Entered.{entered}
use Rattle.rooted_cactus.specs.declared.tree.Node.{Node}
use Rattle.rooted_cactus.proofs.Cycles.{cycle_cuts, cycle_cases, cycle_here, cycle_own, cycle_rest}
use Rattle.rooted_cactus.proofs.Layouts.{laid_out}
use Rattle.rooted_cactus.proofs.Sets.{IsIn}
use Rattle.cactus_growth.proofs.Runs.{along, past, reached, opened, joined}
use Rattle.rooted_cactus.proofs.Within.{segment_within}
use Rattle.cactus_growth.proofs.Without.{cycle_lacks, cycle_without, cycle_before, cycle_behind, cycle_child}

-- ---- sets that have both of two vertices or neither
abbrev pub IsEven : ℕ → ℕ → Part → Type 0
IsEven u v p = (p.below u ≡ p.below v) × ((s : VertexSet) → Contains p.cuts s → s u ≡ s v)

run_even : (u v : ℕ) (t : VertexSet) (ps : List Part) (s : VertexSet) → t u ≡ t v → All (IsEven u v) ps → Contains (from_here t (belows ps)) s → s u ≡ s v
run_even u v t [] s e a c = elim (Contains-cons_cases t [] s c) [
  | inl k ↦ subst (λ (z : VertexSet). z u ≡ z v) k e
  | inr k ↦ absurd (Contains-nil s k)
]
run_even u v t (p ∷ ps) s e a c = elim (Contains-cons_cases t (from_here (either t p.below) (belows ps)) s c) [
  | inl k ↦ subst (λ (z : VertexSet). z u ≡ z v) k e
  | inr k ↦ run_even u v (either t p.below) ps s (ap (λ b. b || p.below u) e ∙ ap (λ b. t v || b) (All-head (IsEven u v) p ps a).0) (All-tail (IsEven u v) p ps a) k
]

pub cycle_even : (u v : ℕ) (ps : List Part) (s : VertexSet) → All (IsEven u v) ps → Contains (cycle_cuts ps) s → s u ≡ s v
cycle_even u v [] s a c = absurd (Contains-nil s c)
cycle_even u v (p ∷ ps) s a c = elim (cycle_cases p ps s c) [
  | inl k ↦ run_even u v p.below ps s (All-head (IsEven u v) p ps a).0 (All-tail (IsEven u v) p ps a) k
  | inr m ↦ elim m [
    | inl k ↦ (All-head (IsEven u v) p ps a).1 s k
    | inr k ↦ cycle_even u v ps s (All-tail (IsEven u v) p ps a) k
  ]
]

-- a cut below a node is within what is below it
pub node_inside : (x : Node) (s : VertexSet) → Contains (part x).cuts s → IsIn s (part x).below
node_inside x s c v e = ap (λ (t : VertexSet). t v) (laid_out x).below ∙ segment_within (entered x) s ((laid_out x).cuts s c) v e

pub node_lacks : (x : Node) (v : ℕ) → (part x).below v ≡ false → (s : VertexSet) → Contains (part x).cuts s → s v ≡ false
node_lacks x v h s c = false_from_ne_true (s v) (λ e. false≢true (sym h ∙ node_inside x s c v e))

pub lacking_even : (u v : ℕ) (xs : List Node) → all_of (belows (map part xs)) u ≡ false → all_of (belows (map part xs)) v ≡ false → All (IsEven u v) (map part xs)
lacking_even u v [] a b = All-nil (IsEven u v)
lacking_even u v (x ∷ xs) a b =
    let a0 = no_left ((part x).below u) (all_of (belows (map part xs)) u) a in
    let b0 = no_left ((part x).below v) (all_of (belows (map part xs)) v) b in
    All-cons (IsEven u v) (part x) (map part xs) (a0 ∙ sym b0, λ s c. node_lacks x u a0 s c ∙ sym (node_lacks x v b0 s c))
    (lacking_even u v xs (no_right ((part x).below u) (all_of (belows (map part xs)) u) a) (no_right ((part x).below v) (all_of (belows (map part xs)) v) b))

-- ---- another child in place of one
same_belows : (ps : List Part) (p q : Part) (qs : List Part) → p.below ≡ q.below → belows (ps ++ p ∷ qs) ≡ belows (ps ++ q ∷ qs)
same_belows [] p q qs e = ap (λ b. b ∷ belows qs) e
same_belows (x ∷ ps) p q qs e = ap (λ l. x.below ∷ l) (same_belows ps p q qs e)

pub cycle_replaced : (ps : List Part) (p q : Part) (qs : List Part) (s : VertexSet) → p.below ≡ q.below → (Contains p.cuts s → Contains q.cuts s) →
    Contains (cycle_cuts (ps ++ p ∷ qs)) s → Contains (cycle_cuts (ps ++ q ∷ qs)) s
cycle_replaced [] p q qs s e f c = elim (cycle_cases p qs s c) [
  | inl k ↦ cycle_here q qs s (subst (λ b. Contains (from_here b (belows qs)) s) e k)
  | inr m ↦ elim m [ inl k ↦ cycle_own q qs s (f k) | inr k ↦ cycle_rest q qs s k ]
]
cycle_replaced (x ∷ ps) p q qs s e f c = elim (cycle_cases x (ps ++ p ∷ qs) s c) [
  | inl k ↦ cycle_here x (ps ++ q ∷ qs) s (subst (λ l. Contains (from_here x.below l) s) (same_belows ps p q qs e) k)
  | inr m ↦ elim m [ inl k ↦ cycle_own x (ps ++ q ∷ qs) s k | inr k ↦ cycle_rest x (ps ++ q ∷ qs) s (cycle_replaced ps p q qs s e f k) ]
]

-- ---- one part in place of the children from one to another
belows_both : (ps qs : List Part) → belows (ps ++ qs) ≡ belows ps ++ belows qs
belows_both ps qs = map-append (λ (p : Part). p.below) ps qs

module _ (n : Part) (ms : List Part) (f : Part) (qs : List Part) (j : Part) (is : j.below ≡ either (along n.below (belows ms)) f.below) where
  spread : (ps : List Part) → belows (ps ++ n ∷ (ms ++ f ∷ qs)) ≡ belows ps ++ n.below ∷ (belows ms ++ f.below ∷ belows qs)
  spread ps = belows_both ps (n ∷ (ms ++ f ∷ qs)) ∙ ap (λ l. belows ps ++ n.below ∷ l) (belows_both ms (f ∷ qs))

  pub cycle_opened : (ps : List Part) (s : VertexSet) → (Contains j.cuts s → Contains n.cuts s ⊎ (Contains f.cuts s ⊎ Contains (cycle_cuts ms) s)) →
      Contains (cycle_cuts (ps ++ j ∷ qs)) s → Contains (cycle_cuts (ps ++ n ∷ (ms ++ f ∷ qs))) s
  cycle_opened [] s g c = elim (cycle_cases j qs s c) [
    | inl k ↦ cycle_here n (ms ++ f ∷ qs) s
        (subst (λ l. Contains (from_here n.below l) s) (sym (belows_both ms (f ∷ qs))) (past n.below (belows ms) f.below (belows qs) s (subst (λ b. Contains (from_here b (belows qs)) s) is k)))
    | inr m ↦ elim m [
      | inl k ↦ elim (g k) [
        | inl a ↦ cycle_own n (ms ++ f ∷ qs) s a
        | inr b ↦ elim b [
          | inl a ↦ cycle_rest n (ms ++ f ∷ qs) s (cycle_child ms f qs s a)
          | inr a ↦ cycle_rest n (ms ++ f ∷ qs) s (cycle_before ms (f ∷ qs) s a)
        ]
      ]
      | inr k ↦ cycle_rest n (ms ++ f ∷ qs) s (cycle_behind ms (f ∷ qs) s (cycle_rest f qs s k))
    ]
  ]
  cycle_opened (p ∷ ps) s g c = elim (cycle_cases p (ps ++ j ∷ qs) s c) [
    | inl k ↦ cycle_here p (ps ++ n ∷ (ms ++ f ∷ qs)) s (subst (λ l. Contains (from_here p.below l) s) (sym (spread ps))
        (opened n.below (belows ms) f.below (belows qs) j.below is p.below (belows ps) s (subst (λ l. Contains (from_here p.below l) s) (belows_both ps (j ∷ qs)) k)))
    | inr m ↦ elim m [
      | inl k ↦ cycle_own p (ps ++ n ∷ (ms ++ f ∷ qs)) s k
      | inr k ↦ cycle_rest p (ps ++ n ∷ (ms ++ f ∷ qs)) s (cycle_opened ps s g k)
    ]
  ]

  -- a cut with a vertex of the first and one of the last has all of them
  pub cycle_merged : (u v : ℕ) (s : VertexSet) → s u ≡ true → s v ≡ true → n.below v ≡ false → all_of (belows ms) v ≡ false →
      ((s v ≡ true) → Contains n.cuts s → ⊥) → (Contains (cycle_cuts (ms ++ f ∷ qs)) s → ⊥) →
      (xs : List Node) → all_of (belows (map part xs)) u ≡ false → all_of (belows (map part xs)) v ≡ false →
      Contains (cycle_cuts (map part xs ++ n ∷ (ms ++ f ∷ qs))) s → Contains (cycle_cuts (map part xs ++ j ∷ qs)) s
  cycle_merged u v s su sv nv mv own rest [] xu xv c = elim (cycle_cases n (ms ++ f ∷ qs) s c) [
    | inl k ↦ cycle_here j qs s (subst (λ b. Contains (from_here b (belows qs)) s) (sym is)
        (reached n.below (belows ms) f.below (belows qs) v nv mv s sv (subst (λ l. Contains (from_here n.below l) s) (belows_both ms (f ∷ qs)) k)))
    | inr m ↦ elim m [ inl k ↦ absurd (own sv k) | inr k ↦ absurd (rest k) ]
  ]
  cycle_merged u v s su sv nv mv own rest (x ∷ xs) xu xv c =
      let p = part x in
      let ps = map part xs in
      elim (cycle_cases p (ps ++ n ∷ (ms ++ f ∷ qs)) s c) [
        | inl k ↦ cycle_here p (ps ++ j ∷ qs) s (subst (λ l. Contains (from_here p.below l) s) (sym (belows_both ps (j ∷ qs)))
            (joined n.below (belows ms) f.below (belows qs) j.below is v nv mv p.below (belows ps) (no_left (p.below v) (all_of (belows ps) v) xv) (no_right (p.below v) (all_of (belows ps) v) xv) s sv
            (subst (λ l. Contains (from_here p.below l) s) (spread ps) k)))
        | inr m ↦ elim m [
          | inl k ↦ absurd (false≢true (sym (node_lacks x u (no_left (p.below u) (all_of (belows ps) u) xu) s k) ∙ su))
          | inr k ↦ cycle_rest p (ps ++ j ∷ qs) s (cycle_merged u v s su sv nv mv own rest xs (no_right (p.below u) (all_of (belows ps) u) xu) (no_right (p.below v) (all_of (belows ps) v) xv) k)
        ]
      ]

-- what became of a walk from one child to another
abbrev pub IsJoint : ℕ → ℕ → Node → List Node → Node → Part → Type 0
IsJoint u v near ms far j = (s : VertexSet) → Contains j.cuts s ↔ ((Contains (part near).cuts s × (s u ≡ false)) ⊎ ((Contains (part far).cuts s × (s v ≡ false)) ⊎ Contains (cycle_cuts (map part ms)) s))

module _ (u v : ℕ) (xs : List Node) (near : Node) (ms : List Node) (far : Node) (ys : List Node) (j : Part)
    (is : j.below ≡ either (along (part near).below (belows (map part ms))) (part far).below) (cuts : IsJoint u v near ms far j)
    (near_u : (part near).below u ≡ true) (near_v : (part near).below v ≡ false) (far_u : (part far).below u ≡ false) (far_v : (part far).below v ≡ true)
    (xs_u : all_of (belows (map part xs)) u ≡ false) (xs_v : all_of (belows (map part xs)) v ≡ false)
    (ms_u : all_of (belows (map part ms)) u ≡ false) (ms_v : all_of (belows (map part ms)) v ≡ false)
    (ys_u : all_of (belows (map part ys)) u ≡ false) (ys_v : all_of (belows (map part ys)) v ≡ false) where
  abbrev pub old_parts : List Part
  old_parts = map part xs ++ part near ∷ (map part ms ++ part far ∷ map part ys)

  abbrev pub new_parts : List Part
  new_parts = map part xs ++ j ∷ map part ys

  later_u : all_of (belows (map part (ms ++ far ∷ ys))) u ≡ false
  later_u = none_both ms ms_u
    where
      none_both : (zs : List Node) → all_of (belows (map part zs)) u ≡ false → all_of (belows (map part (zs ++ far ∷ ys))) u ≡ false
      none_both [] h = ap (λ b. b || all_of (belows (map part ys)) u) far_u ∙ ys_u
      none_both (z ∷ zs) h = ap (λ b. b || all_of (belows (map part (zs ++ far ∷ ys))) u) (no_left ((part z).below u) (all_of (belows (map part zs)) u) h)
          ∙ none_both zs (no_right ((part z).below u) (all_of (belows (map part zs)) u) h)

  joint_even : (s : VertexSet) → Contains j.cuts s → s u ≡ s v
  joint_even s c = elim ((cuts s).0 c) [
    | inl a ↦ a.1 ∙ sym (node_lacks near v near_v s a.0)
    | inr m ↦ elim m [
      | inl a ↦ node_lacks far u far_u s a.0 ∙ sym a.1
      | inr a ↦ cycle_lacks ms u ms_u s a ∙ sym (cycle_lacks ms v ms_v s a)
    ]
  ]

  has_u : j.below u ≡ true
  has_u = ap (λ (t : VertexSet). t u) is ∙ or_in (along (part near).below (belows (map part ms)) u) ((part far).below u) (start (belows (map part ms)) (part near).below near_u)
    where
      or_in : (a b : _) → a ≡ true → (a || b) ≡ true
      or_in a b h = ap (λ k. k || b) h

      start : (zs : List VertexSet) (t : VertexSet) → t u ≡ true → along t zs u ≡ true
      start [] t h = h
      start (z ∷ zs) t h = start zs (either t z) (or_in (t u) (z u) h)

  has_v : j.below v ≡ true
  has_v = ap (λ (t : VertexSet). t v) is ∙ or_end (along (part near).below (belows (map part ms)) v) ((part far).below v) far_v
    where
      or_end : (a b : _) → b ≡ true → (a || b) ≡ true
      or_end true b h = refl
      or_end false b h = h

  new_even : All (IsEven u v) new_parts
  new_even = All-append (IsEven u v) (map part xs) (j ∷ map part ys) (lacking_even u v xs xs_u xs_v)
      (All-cons (IsEven u v) j (map part ys) (has_u ∙ sym has_v, joint_even) (lacking_even u v ys ys_u ys_v))

  forth : (s : VertexSet) → Contains (cycle_cuts new_parts) s → Contains (cycle_cuts old_parts) s
  forth s c = cycle_opened (part near) (map part ms) (part far) (map part ys) j is (map part xs) s
      (λ k. elim ((cuts s).0 k) [ inl a ↦ inl a.0 | inr m ↦ elim m [ inl a ↦ inr (inl a.0) | inr a ↦ inr (inr a) ] ]) c

  back_neither : (s : VertexSet) → s u ≡ false → s v ≡ false → Contains (cycle_cuts old_parts) s → Contains (cycle_cuts new_parts) s
  back_neither s su sv c = elim (cycle_without (map part xs) (part near) (map part ms ++ part far ∷ map part ys) u near_u s su c) [
    | inl k ↦ cycle_before (map part xs) (j ∷ map part ys) s k
    | inr m ↦ elim m [
      | inl k ↦ cycle_child (map part xs) j (map part ys) s ((cuts s).1 (inl (k, su)))
      | inr k ↦ elim (cycle_without (map part ms) (part far) (map part ys) v far_v s sv k) [
        | inl a ↦ cycle_child (map part xs) j (map part ys) s ((cuts s).1 (inr (inr a)))
        | inr b ↦ elim b [
          | inl a ↦ cycle_child (map part xs) j (map part ys) s ((cuts s).1 (inr (inl (a, sv))))
          | inr a ↦ cycle_behind (map part xs) (j ∷ map part ys) s (cycle_rest j (map part ys) s a)
        ]
      ]
    ]
  ]

  back_both : (s : VertexSet) → s u ≡ true → s v ≡ true → Contains (cycle_cuts old_parts) s → Contains (cycle_cuts new_parts) s
  back_both s su sv c = cycle_merged (part near) (map part ms) (part far) (map part ys) j is u v s su sv near_v ms_v
      (λ e k. false≢true (sym (node_lacks near v near_v s k) ∙ e))
      (λ k. false≢true (sym (cycle_lacks (ms ++ far ∷ ys) u later_u s (subst (λ ps. Contains (cycle_cuts ps) s) (sym (map-append part ms (far ∷ ys))) k)) ∙ su))
      xs xs_u xs_v c

  -- the cycle keeps exactly the cuts that have both vertices or neither
  pub cycle_kept : (s : VertexSet) → Contains (cycle_cuts new_parts) s ↔ (Contains (cycle_cuts old_parts) s × (s u ≡ s v))
  cycle_kept s = (
    (λ c. (forth s c, cycle_even u v new_parts s new_even c)),
    (λ h. elim (cases_Bool (s u)) [ inl e ↦ back_both s e (sym h.1 ∙ e) h.0 | inr e ↦ back_neither s e (sym h.1 ∙ e) h.0 ]),
  )
