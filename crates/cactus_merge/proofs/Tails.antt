-- What hangs below a part while the chain is assembled from its far end.
use Rattle.std.proofs.Common.{◌≡◌, List, [], ◌∷◌, ◌++◌, ◌⊎◌, inl, inr, sym, refl, ◌∙◌, ap, subst}
use Rattle.std.specs.List.{Contains}
use Rattle.std.proofs.lemmas.List.Elements.{Contains-append_cases, Contains-append_left, Contains-append_right}
use Rattle.cut_definitions.specs.Weight.{VertexSet, either}
use Rattle.rooted_cactus.specs.Sides.{Part, all_of, intervals, belows, all_cuts, with_below, bridge_of, cycle_of}
use Rattle.rooted_cactus.proofs.Parts.{either_assoc, either_nothing, all_of_push, all_cuts_append, all_cuts_push}
use Rattle.residual_chain.specs.declared.run.Run.{Run}
use Rattle.cactus_merge.specs.Joined.{tails, run_parts, run_cuts, SameSets, IsFarEnd, bridges}
use Rattle.cut_definitions.proofs.Lists.{Contains-nil, Contains-here, Contains-there}
use Rattle.cut_definitions.proofs.ListLaws.{head_or_tail}
use Rattle.cactus_merge.proofs.Intervals.{tails_with, interval_cases, interval_of_list, interval_to_end, interval_of_end}

-- the cuts of the last parts of a chain and of the runs among them
abbrev pub tail_cuts : List Part → List Run → List Part → List VertexSet
tail_cuts ps runs rest = tails rest ++ (run_cuts ps runs ++ all_cuts rest)

-- what hangs below the parts of a chain stands for the rest of them
pub record IsTail (ps : List Part) (runs : List Run) (rest : List Part) (hanging : Part) : Type 0 where
  pub below : hanging.below ≡ all_of (belows rest)
  pub cuts : SameSets hanging.cuts (tail_cuts ps runs rest)

-- ---- membership in the three lists
pub three_cases : {X : Type 0} (a b c : List X) (s : X) → Contains (a ++ (b ++ c)) s → Contains a s ⊎ (Contains b s ⊎ Contains c s)
three_cases a b c s h = elim (Contains-append_cases a (b ++ c) s h) [ inl x ↦ inl x | inr y ↦ inr (Contains-append_cases b c s y) ]

pub in_first : {X : Type 0} (a b c : List X) (s : X) → Contains a s → Contains (a ++ (b ++ c)) s
in_first a b c s h = Contains-append_left a (b ++ c) s h

pub in_second : {X : Type 0} (a b c : List X) (s : X) → Contains b s → Contains (a ++ (b ++ c)) s
in_second a b c s h = Contains-append_right a (b ++ c) s (Contains-append_left b c s h)

pub in_third : {X : Type 0} (a b c : List X) (s : X) → Contains c s → Contains (a ++ (b ++ c)) s
in_third a b c s h = Contains-append_right a (b ++ c) s (Contains-append_right b c s h)

-- ---- unions of lists joined end to end
pub all_of_append : (ps qs : List Part) → all_of (belows (ps ++ qs)) ≡ either (all_of (belows ps)) (all_of (belows qs))
all_of_append [] qs = refl
all_of_append (p ∷ ps) qs = ap (either p.below) (all_of_append ps qs) ∙ either_assoc p.below (all_of (belows ps)) (all_of (belows qs))

pub tails_append : (ps qs : List Part) → tails (ps ++ qs) ≡ tails_with ps (all_of (belows qs)) ++ tails qs
tails_append [] qs = refl
tails_append (p ∷ ps) qs = ap (λ s. s ∷ tails (ps ++ qs)) (all_of_append (p ∷ ps) qs) ∙ ap (λ l. either (all_of (belows (p ∷ ps))) (all_of (belows qs)) ∷ l) (tails_append ps qs)

-- ---- the last part
last_forth : (ps : List Part) (p : Part) (s : VertexSet) → Contains (bridge_of p).cuts s → Contains (tail_cuts ps [] (p ∷ [])) s
last_forth ps p s h = elim (head_or_tail p.below p.cuts s h) [
  | inl q ↦ in_first (tails (p ∷ [])) [] (all_cuts (p ∷ [])) s (subst (λ t. Contains (tails (p ∷ [])) t) (either_nothing p.below ∙ sym q) (Contains-here (either p.below (all_of [])) []))
  | inr c ↦ in_third (tails (p ∷ [])) [] (all_cuts (p ∷ [])) s (Contains-append_left p.cuts [] s c)
]

last_back : (ps : List Part) (p : Part) (s : VertexSet) → Contains (tail_cuts ps [] (p ∷ [])) s → Contains (bridge_of p).cuts s
last_back ps p s h = elim (three_cases (tails (p ∷ [])) [] (all_cuts (p ∷ [])) s h) [
  | inl a ↦ elim (head_or_tail (either p.below (all_of [])) [] s a) [
    | inl q ↦ subst (Contains (bridge_of p).cuts) (sym (q ∙ either_nothing p.below)) (Contains-here p.below p.cuts)
    | inr z ↦ absurd (Contains-nil s z)
  ]
  | inr b ↦ elim b [
    | inl z ↦ absurd (Contains-nil s z)
    | inr c ↦ elim (Contains-append_cases p.cuts [] s c) [ inl d ↦ Contains-there p.below p.cuts s d | inr z ↦ absurd (Contains-nil s z) ]
  ]
]

pub tail_last : (ps : List Part) (p : Part) → IsTail ps [] (p ∷ []) (bridge_of p)
tail_last ps p = record { below = sym (either_nothing p.below); cuts = record { forth = last_forth ps p; back = last_back ps p } }

-- ---- one more bridge
bridge_forth : (ps : List Part) (runs : List Run) (rest : List Part) (h p : Part) → IsTail ps runs rest h → (s : VertexSet) → Contains (bridge_of (with_below p h)).cuts s → Contains (tail_cuts ps runs (p ∷ rest)) s
bridge_forth ps runs rest h p t s m = elim (head_or_tail (either p.below h.below) (p.cuts ++ h.cuts) s m) [
  | inl q ↦ in_first (tails (p ∷ rest)) (run_cuts ps runs) (all_cuts (p ∷ rest)) s (subst (Contains (tails (p ∷ rest))) (ap (either p.below) (sym t.below) ∙ sym q) (Contains-here _ (tails rest)))
  | inr c ↦ elim (Contains-append_cases p.cuts h.cuts s c) [
    | inl a ↦ in_third (tails (p ∷ rest)) (run_cuts ps runs) (all_cuts (p ∷ rest)) s (Contains-append_left p.cuts (all_cuts rest) s a)
    | inr b ↦ elim (three_cases (tails rest) (run_cuts ps runs) (all_cuts rest) s (t.cuts.forth s b)) [
      | inl x ↦ in_first (tails (p ∷ rest)) (run_cuts ps runs) (all_cuts (p ∷ rest)) s (Contains-there _ (tails rest) s x)
      | inr y ↦ elim y [
        | inl x ↦ in_second (tails (p ∷ rest)) (run_cuts ps runs) (all_cuts (p ∷ rest)) s x
        | inr x ↦ in_third (tails (p ∷ rest)) (run_cuts ps runs) (all_cuts (p ∷ rest)) s (Contains-append_right p.cuts (all_cuts rest) s x)
      ]
    ]
  ]
]

-- what a tail has is among the cuts with one more part above it
pub under_part : (ps : List Part) (runs : List Run) (rest : List Part) (h p : Part) → IsTail ps runs rest h → (s : VertexSet) → Contains (tails rest ++ (run_cuts ps runs ++ all_cuts (p ∷ rest))) s → Contains (p.cuts ++ h.cuts) s
under_part ps runs rest h p t s m = elim (three_cases (tails rest) (run_cuts ps runs) (all_cuts (p ∷ rest)) s m) [
  | inl x ↦ Contains-append_right p.cuts h.cuts s (t.cuts.back s (in_first (tails rest) (run_cuts ps runs) (all_cuts rest) s x))
  | inr y ↦ elim y [
    | inl x ↦ Contains-append_right p.cuts h.cuts s (t.cuts.back s (in_second (tails rest) (run_cuts ps runs) (all_cuts rest) s x))
    | inr c ↦ elim (Contains-append_cases p.cuts (all_cuts rest) s c) [
      | inl a ↦ Contains-append_left p.cuts h.cuts s a
      | inr b ↦ Contains-append_right p.cuts h.cuts s (t.cuts.back s (in_third (tails rest) (run_cuts ps runs) (all_cuts rest) s b))
    ]
  ]
]

bridge_back : (ps : List Part) (runs : List Run) (rest : List Part) (h p : Part) → IsTail ps runs rest h → (s : VertexSet) → Contains (tail_cuts ps runs (p ∷ rest)) s → Contains (bridge_of (with_below p h)).cuts s
bridge_back ps runs rest h p t s m = elim (head_or_tail _ (tails rest ++ (run_cuts ps runs ++ all_cuts (p ∷ rest))) s m) [
  | inl q ↦ subst (Contains (bridge_of (with_below p h)).cuts) (ap (either p.below) t.below ∙ sym q) (Contains-here (either p.below h.below) (p.cuts ++ h.cuts))
  | inr c ↦ Contains-there (either p.below h.below) (p.cuts ++ h.cuts) s (under_part ps runs rest h p t s c)
]

pub tail_bridge : (ps : List Part) (runs : List Run) (rest : List Part) (h p : Part) → IsTail ps runs rest h → IsTail ps runs (p ∷ rest) (bridge_of (with_below p h))
tail_bridge ps runs rest h p t = record { below = ap (either p.below) t.below; cuts = record { forth = bridge_forth ps runs rest h p t; back = bridge_back ps runs rest h p t } }

pub tail_bridges : (ps : List Part) (runs : List Run) (xs rest : List Part) (h : Part) → IsTail ps runs rest h → IsTail ps runs (xs ++ rest) (bridges xs h)
tail_bridges ps runs [] rest h t = t
tail_bridges ps runs (x ∷ xs) rest h t = tail_bridge ps runs (xs ++ rest) (bridges xs h) x (tail_bridges ps runs xs rest h t)

-- ---- one more run
run_cut_here : (ps : List Part) (r : Run) (runs : List Run) (xs : List Part) (s : VertexSet) → run_parts ps r ≡ xs → Contains (intervals (belows xs)) s → Contains (run_cuts ps (r ∷ runs)) s
run_cut_here ps r runs xs s e m = Contains-append_left (intervals (belows (run_parts ps r))) (run_cuts ps runs) s (subst (λ l. Contains (intervals (belows l)) s) (sym e) m)

-- a cut of the tail is one of the longer tail
tail_kept : (ps : List Part) (r : Run) (runs : List Run) (xs rest : List Part) (s : VertexSet) → Contains (tail_cuts ps runs rest) s → Contains (tail_cuts ps (r ∷ runs) (xs ++ rest)) s
tail_kept ps r runs xs rest s m = elim (three_cases (tails rest) (run_cuts ps runs) (all_cuts rest) s m) [
  | inl x ↦ in_first (tails (xs ++ rest)) (run_cuts ps (r ∷ runs)) (all_cuts (xs ++ rest)) s
      (subst (λ l. Contains l s) (sym (tails_append xs rest)) (Contains-append_right (tails_with xs (all_of (belows rest))) (tails rest) s x))
  | inr y ↦ elim y [
    | inl x ↦ in_second (tails (xs ++ rest)) (run_cuts ps (r ∷ runs)) (all_cuts (xs ++ rest)) s (Contains-append_right (intervals (belows (run_parts ps r))) (run_cuts ps runs) s x)
    | inr x ↦ in_third (tails (xs ++ rest)) (run_cuts ps (r ∷ runs)) (all_cuts (xs ++ rest)) s
        (subst (λ l. Contains l s) (sym (all_cuts_append xs rest)) (Contains-append_right (all_cuts xs) (all_cuts rest) s x))
  ]
]

run_forth : (ps : List Part) (r : Run) (runs : List Run) (xs : List Part) (q : Part) (qs : List Part) (h end : Part) → run_parts ps r ≡ xs → IsTail ps runs (q ∷ qs) h → IsFarEnd h end → (s : VertexSet) → Contains (cycle_of (xs ++ end ∷ [])).cuts s → Contains (tail_cuts ps (r ∷ runs) (xs ++ q ∷ qs)) s
run_forth ps r runs xs q qs h end e t far s m =
    let same : end.below ≡ all_of (belows (q ∷ qs)) = far.below ∙ t.below in
    elim (Contains-append_cases (intervals (belows (xs ++ end ∷ []))) (all_cuts (xs ++ end ∷ [])) s m) [
      | inl a ↦ elim (interval_cases xs end s a) [
        | inl b ↦ in_second (tails (xs ++ q ∷ qs)) (run_cuts ps (r ∷ runs)) (all_cuts (xs ++ q ∷ qs)) s (run_cut_here ps r runs xs s e b)
        | inr b ↦ elim b [
          | inl c ↦ in_first (tails (xs ++ q ∷ qs)) (run_cuts ps (r ∷ runs)) (all_cuts (xs ++ q ∷ qs)) s
              (subst (λ l. Contains l s) (sym (tails_append xs (q ∷ qs))) (Contains-append_left (tails_with xs (all_of (belows (q ∷ qs)))) (tails (q ∷ qs)) s (subst (λ u. Contains (tails_with xs u) s) same c)))
          | inr d ↦ tail_kept ps r runs xs (q ∷ qs) s (in_first (tails (q ∷ qs)) (run_cuts ps runs) (all_cuts (q ∷ qs)) s (subst (Contains (tails (q ∷ qs))) (sym (d ∙ same)) (Contains-here _ (tails qs))))
        ]
      ]
      | inr a ↦ elim (Contains-append_cases (all_cuts xs) end.cuts s (subst (λ l. Contains l s) (all_cuts_push xs end) a)) [
        | inl b ↦ in_third (tails (xs ++ q ∷ qs)) (run_cuts ps (r ∷ runs)) (all_cuts (xs ++ q ∷ qs)) s
            (subst (λ l. Contains l s) (sym (all_cuts_append xs (q ∷ qs))) (Contains-append_left (all_cuts xs) (all_cuts (q ∷ qs)) s b))
        | inr b ↦ tail_kept ps r runs xs (q ∷ qs) s (t.cuts.forth s (far.only s b))
      ]
    ]

-- a cut of the tail is one of the cycle, by its last node
cycle_kept : (ps : List Part) (runs : List Run) (xs rest : List Part) (h end : Part) → IsTail ps runs rest h → IsFarEnd h end → (s : VertexSet) → Contains (tail_cuts ps runs rest) s → Contains (cycle_of (xs ++ end ∷ [])).cuts s
cycle_kept ps runs xs rest h end t far s m = elim (far.cuts s (t.cuts.back s m)) [
  | inl d ↦ Contains-append_left (intervals (belows (xs ++ end ∷ []))) (all_cuts (xs ++ end ∷ [])) s (subst (Contains (intervals (belows (xs ++ end ∷ [])))) (far.below ∙ sym d) (interval_of_end xs end))
  | inr c ↦ Contains-append_right (intervals (belows (xs ++ end ∷ []))) (all_cuts (xs ++ end ∷ [])) s (subst (λ l. Contains l s) (sym (all_cuts_push xs end)) (Contains-append_right (all_cuts xs) end.cuts s c))
]

run_back : (ps : List Part) (r : Run) (runs : List Run) (xs rest : List Part) (h end : Part) → run_parts ps r ≡ xs → IsTail ps runs rest h → IsFarEnd h end → (s : VertexSet) → Contains (tail_cuts ps (r ∷ runs) (xs ++ rest)) s → Contains (cycle_of (xs ++ end ∷ [])).cuts s
run_back ps r runs xs rest h end e t far s m =
    let same : end.below ≡ all_of (belows rest) = far.below ∙ t.below in
    elim (three_cases (tails (xs ++ rest)) (run_cuts ps (r ∷ runs)) (all_cuts (xs ++ rest)) s m) [
      | inl a ↦ elim (Contains-append_cases (tails_with xs (all_of (belows rest))) (tails rest) s (subst (λ l. Contains l s) (tails_append xs rest) a)) [
        | inl b ↦ Contains-append_left (intervals (belows (xs ++ end ∷ []))) (all_cuts (xs ++ end ∷ [])) s (interval_to_end xs end s (subst (λ u. Contains (tails_with xs u) s) (sym same) b))
        | inr b ↦ cycle_kept ps runs xs rest h end t far s (in_first (tails rest) (run_cuts ps runs) (all_cuts rest) s b)
      ]
      | inr a ↦ elim a [
        | inl b ↦ elim (Contains-append_cases (intervals (belows (run_parts ps r))) (run_cuts ps runs) s b) [
          | inl c ↦ Contains-append_left (intervals (belows (xs ++ end ∷ []))) (all_cuts (xs ++ end ∷ [])) s (interval_of_list xs end s (subst (λ l. Contains (intervals (belows l)) s) e c))
          | inr c ↦ cycle_kept ps runs xs rest h end t far s (in_second (tails rest) (run_cuts ps runs) (all_cuts rest) s c)
        ]
        | inr b ↦ elim (Contains-append_cases (all_cuts xs) (all_cuts rest) s (subst (λ l. Contains l s) (all_cuts_append xs rest) b)) [
          | inl c ↦ Contains-append_right (intervals (belows (xs ++ end ∷ []))) (all_cuts (xs ++ end ∷ [])) s (subst (λ l. Contains l s) (sym (all_cuts_push xs end)) (Contains-append_left (all_cuts xs) end.cuts s c))
          | inr c ↦ cycle_kept ps runs xs rest h end t far s (in_third (tails rest) (run_cuts ps runs) (all_cuts rest) s c)
        ]
      ]
    ]

pub tail_run : (ps : List Part) (r : Run) (runs : List Run) (xs : List Part) (q : Part) (qs : List Part) (h end : Part) → run_parts ps r ≡ xs → IsTail ps runs (q ∷ qs) h → IsFarEnd h end → IsTail ps (r ∷ runs) (xs ++ q ∷ qs) (cycle_of (xs ++ end ∷ []))
tail_run ps r runs xs q qs h end e t far = record {
  below = all_of_push xs end ∙ ap (either (all_of (belows xs))) (far.below ∙ t.below) ∙ sym (all_of_append xs (q ∷ qs));
  cuts = record { forth = run_forth ps r runs xs q qs h end e t far; back = run_back ps r runs xs (q ∷ qs) h end e t far };
}

-- ---- the first part
first_forth : (ps : List Part) (runs : List Run) (p : Part) (rest : List Part) (h : Part) → IsTail ps runs rest h → (s : VertexSet) → Contains (p.cuts ++ h.cuts) s → Contains (tails rest ++ (run_cuts ps runs ++ all_cuts (p ∷ rest))) s
first_forth ps runs p rest h t s m = elim (Contains-append_cases p.cuts h.cuts s m) [
  | inl a ↦ in_third (tails rest) (run_cuts ps runs) (all_cuts (p ∷ rest)) s (Contains-append_left p.cuts (all_cuts rest) s a)
  | inr b ↦ elim (three_cases (tails rest) (run_cuts ps runs) (all_cuts rest) s (t.cuts.forth s b)) [
    | inl x ↦ in_first (tails rest) (run_cuts ps runs) (all_cuts (p ∷ rest)) s x
    | inr y ↦ elim y [
      | inl x ↦ in_second (tails rest) (run_cuts ps runs) (all_cuts (p ∷ rest)) s x
      | inr x ↦ in_third (tails rest) (run_cuts ps runs) (all_cuts (p ∷ rest)) s (Contains-append_right p.cuts (all_cuts rest) s x)
    ]
  ]
]

pub tail_first : (ps : List Part) (runs : List Run) (p : Part) (rest : List Part) (h : Part) → IsTail ps runs rest h → SameSets (with_below p h).cuts (tails rest ++ (run_cuts ps runs ++ all_cuts (p ∷ rest)))
tail_first ps runs p rest h t = record { forth = first_forth ps runs p rest h t; back = under_part ps runs rest h p t }
