-- A cycle without the cuts that have a vertex of one child: two closed walks, and what is left of the cuts of the child.
use Rattle.std.proofs.Common.{◌≡◌, ℕ, ◌⊎◌, inl, inr, true, false, List, [], ◌∷◌, ◌++◌, map, sym, ◌∙◌, ap, subst}
use Rattle.std.specs.List.{Contains}
use Rattle.std.proofs.lemmas.Bool.{or_right, false_from_ne_true, false≢true}
use Rattle.cut_definitions.specs.Weight.{VertexSet, either}
use Rattle.cut_definitions.proofs.Lists.{Contains-here, Contains-there, Contains-cons_cases, Contains-nil}
use Rattle.rooted_cactus.specs.Sides.{Part, part, all_of, belows, from_here}
use Rattle.rooted_cactus.specs.Entered.{entered, in_order}
use Rattle.rooted_cactus.specs.declared.tree.Node.{Node}
use Rattle.rooted_cactus.proofs.Segments.{cycle_laid}
use Rattle.rooted_cactus.proofs.Sets.{IsIn}
use Rattle.rooted_cactus.proofs.Cycles.{cycle_cuts, cycle_cases, cycle_here, cycle_own, cycle_rest, here_above}
use Rattle.rooted_cactus.proofs.BlockLaws.{nodes_laid}
use Rattle.rooted_cactus.proofs.Within.{segment_within}

-- a cut of a cycle is within what is below its children
pub cycle_inside : (xs : List Node) (s : VertexSet) → Contains (cycle_cuts (map part xs)) s → IsIn s (all_of (belows (map part xs)))
cycle_inside xs s c v e =
    let laid = cycle_laid (map part xs) (map entered xs) (nodes_laid xs) in
    ap (λ (t : VertexSet). t v) laid.below ∙ segment_within (in_order (map entered xs)) s (laid.cuts s c) v e

pub cycle_lacks : (xs : List Node) (v : ℕ) → all_of (belows (map part xs)) v ≡ false → (s : VertexSet) → Contains (cycle_cuts (map part xs)) s → s v ≡ false
cycle_lacks xs v h s c = false_from_ne_true (s v) (λ e. false≢true (sym h ∙ cycle_inside xs s c v e))

begun_without : (t : VertexSet) (xs : List Part) (p : Part) (ys : List Part) (v : ℕ) → p.below v ≡ true → (s : VertexSet) → s v ≡ false →
    Contains (from_here t (belows (xs ++ p ∷ ys))) s → Contains (from_here t (belows xs)) s
begun_without t [] p ys v h s e c = elim (Contains-cons_cases t (from_here (either t p.below) (belows ys)) s c) [
  | inl k ↦ subst (λ z. Contains (t ∷ []) z) k (Contains-here t [])
  | inr k ↦ absurd (false≢true (sym e ∙ here_above (either t p.below) (belows ys) s k v (or_right (t v) (p.below v) h)))
]
begun_without t (x ∷ xs) p ys v h s e c = elim (Contains-cons_cases t (from_here (either t x.below) (belows (xs ++ p ∷ ys))) s c) [
  | inl k ↦ subst (λ z. Contains (t ∷ from_here (either t x.below) (belows xs)) z) k (Contains-here t (from_here (either t x.below) (belows xs)))
  | inr k ↦ Contains-there t (from_here (either t x.below) (belows xs)) s (begun_without (either t x.below) xs p ys v h s e k)
]

begun_more : (t : VertexSet) (xs ys : List Part) (s : VertexSet) → Contains (from_here t (belows xs)) s → Contains (from_here t (belows (xs ++ ys))) s
begun_more t [] [] s c = c
begun_more t [] (y ∷ ys) s c = elim (Contains-cons_cases t [] s c) [
  | inl k ↦ subst (λ z. Contains (t ∷ from_here (either t y.below) (belows ys)) z) k (Contains-here t (from_here (either t y.below) (belows ys)))
  | inr k ↦ absurd (Contains-nil s k)
]
begun_more t (x ∷ xs) ys s c = elim (Contains-cons_cases t (from_here (either t x.below) (belows xs)) s c) [
  | inl k ↦ subst (λ z. Contains (t ∷ from_here (either t x.below) (belows (xs ++ ys))) z) k (Contains-here t (from_here (either t x.below) (belows (xs ++ ys))))
  | inr k ↦ Contains-there t (from_here (either t x.below) (belows (xs ++ ys))) s (begun_more (either t x.below) xs ys s k)
]

abbrev pub Parted : List Part → Part → List Part → VertexSet → Type 0
Parted xs p ys s = Contains (cycle_cuts xs) s ⊎ (Contains p.cuts s ⊎ Contains (cycle_cuts ys) s)

-- a cut of a cycle that lacks a vertex of one child is one of the walk before it, of the child, or of the walk after it
pub cycle_without : (xs : List Part) (p : Part) (ys : List Part) (v : ℕ) → p.below v ≡ true → (s : VertexSet) → s v ≡ false →
    Contains (cycle_cuts (xs ++ p ∷ ys)) s → Parted xs p ys s
cycle_without [] p ys v h s e c = elim (cycle_cases p ys s c) [
  | inl k ↦ absurd (false≢true (sym e ∙ here_above p.below (belows ys) s k v h))
  | inr k ↦ inr k
]
cycle_without (x ∷ xs) p ys v h s e c = elim (cycle_cases x (xs ++ p ∷ ys) s c) [
  | inl k ↦ inl (cycle_here x xs s (begun_without x.below xs p ys v h s e k))
  | inr m ↦ elim m [
    | inl k ↦ inl (cycle_own x xs s k)
    | inr k ↦ elim (cycle_without xs p ys v h s e k) [ inl a ↦ inl (cycle_rest x xs s a) | inr a ↦ inr a ]
  ]
]

-- a cut of the walk before a child, of the child, or of the walk after it is a cut of the cycle
pub cycle_before : (xs ys : List Part) (s : VertexSet) → Contains (cycle_cuts xs) s → Contains (cycle_cuts (xs ++ ys)) s
cycle_before [] ys s c = absurd (Contains-nil s c)
cycle_before (x ∷ xs) ys s c = elim (cycle_cases x xs s c) [
  | inl k ↦ cycle_here x (xs ++ ys) s (begun_more x.below xs ys s k)
  | inr m ↦ elim m [ inl k ↦ cycle_own x (xs ++ ys) s k | inr k ↦ cycle_rest x (xs ++ ys) s (cycle_before xs ys s k) ]
]

pub cycle_behind : (xs ys : List Part) (s : VertexSet) → Contains (cycle_cuts ys) s → Contains (cycle_cuts (xs ++ ys)) s
cycle_behind [] ys s c = c
cycle_behind (x ∷ xs) ys s c = cycle_rest x (xs ++ ys) s (cycle_behind xs ys s c)

pub cycle_child : (xs : List Part) (p : Part) (ys : List Part) (s : VertexSet) → Contains p.cuts s → Contains (cycle_cuts (xs ++ p ∷ ys)) s
cycle_child xs p ys s c = cycle_behind xs (p ∷ ys) s (cycle_own p ys s c)
