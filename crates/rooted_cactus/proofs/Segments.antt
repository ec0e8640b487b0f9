-- Each cut of a tree is a segment of its nodes in the order of entering.
use Rattle.std.proofs.Common.{◌≡◌, ℕ, ◌||◌, ◌==◌, List, [], ◌∷◌, ◌++◌, inl, inr, refl, sym, ◌∙◌, ap, subst}
use Rattle.std.specs.List.{Contains, concat}
use Rattle.std.proofs.lemmas.List.{append-nil, append_assoc}
use Rattle.std.proofs.lemmas.List.Elements.{Contains-append_cases}
use Rattle.cut_definitions.specs.Weight.{VertexSet, either}
use Rattle.cut_definitions.specs.Cuts.{has}
use Rattle.cut_definitions.proofs.Bools.{or_assoc}
use Rattle.cut_definitions.proofs.ListLaws.{head_or_tail}
use Rattle.cut_definitions.proofs.Lists.{Contains-nil}
use Rattle.rooted_cactus.specs.Sides.{Part, all_of, from_here, intervals, belows, all_cuts, together, bridge_of, cycle_of}
use Rattle.rooted_cactus.specs.Entered.{in_order}

abbrev Lists : Type 0
Lists = List (List ℕ)

-- the set is the vertices of some neighbours in the list
pub record IsSegment (lists : Lists) (s : VertexSet) : Type 0 where
  pub before : Lists
  pub inside : Lists
  pub behind : Lists
  pub whole : lists ≡ before ++ (inside ++ behind)
  pub set : s ≡ has (concat inside)

-- the part has the vertices of the lists, and each of its cuts is a segment of them
pub record IsLaidOut (p : Part) (lists : Lists) : Type 0 where
  pub below : p.below ≡ has (concat lists)
  pub cuts : (s : VertexSet) → Contains p.cuts s → IsSegment lists s

pub has_append_at : (xs ys : List ℕ) (v : ℕ) → has (xs ++ ys) v ≡ has xs v || has ys v
has_append_at [] ys v = refl
has_append_at (x ∷ xs) ys v = ap (λ b. (x == v) || b) (has_append_at xs ys v) ∙ or_assoc (x == v) (has xs v) (has ys v)

pub has_append : (xs ys : List ℕ) → has (xs ++ ys) ≡ either (has xs) (has ys)
has_append xs ys = λ i v. has_append_at xs ys v i

concat_append : (l m : Lists) → concat (l ++ m) ≡ concat l ++ concat m
concat_append [] m = refl
concat_append (x ∷ l) m = ap (λ t. x ++ t) (concat_append l m) ∙ sym (append_assoc x (concat l) (concat m))

pub has_both : (l m : Lists) → has (concat (l ++ m)) ≡ either (has (concat l)) (has (concat m))
has_both l m = ap has (concat_append l m) ∙ has_append (concat l) (concat m)

-- a segment of a part of the list
after : (l m : Lists) (s : VertexSet) → IsSegment m s → IsSegment (l ++ m) s
after l m s g = record { before = l ++ g.before; inside = g.inside; behind = g.behind; whole = ap (λ t. l ++ t) g.whole ∙ sym (append_assoc l g.before (g.inside ++ g.behind)); set = g.set }

within : (l m : Lists) (s : VertexSet) → IsSegment l s → IsSegment (l ++ m) s
within l m s g = record {
  before = g.before;
  inside = g.inside;
  behind = g.behind ++ m;
  whole = ap (λ t. t ++ m) g.whole ∙ append_assoc g.before (g.inside ++ g.behind) m ∙ ap (λ t. g.before ++ t) (append_assoc g.inside g.behind m);
  set = g.set;
}

all : (l : Lists) → IsSegment l (has (concat l))
all l = record { before = []; inside = l; behind = []; whole = sym (append-nil l); set = refl }

first : (l m : Lists) (s : VertexSet) → s ≡ has (concat l) → IsSegment (l ++ m) s
first l m s e = within l m s (subst (IsSegment l) (sym e) (all l))

-- ---- parts side by side
pub data AreLaidOut : List Part → List Lists → Type 0 where
  none : AreLaidOut [] []
  more : (p : Part) (ps : List Part) (l : Lists) (ls : List Lists) → IsLaidOut p l → AreLaidOut ps ls → AreLaidOut (p ∷ ps) (l ∷ ls)

side_below : (ps : List Part) (ls : List Lists) → AreLaidOut ps ls → all_of (belows ps) ≡ has (concat (in_order ls))
side_below ps ls none = refl
side_below ps ls (more p qs l ms a b) =
    ap (λ s. either s (all_of (belows qs))) a.below ∙ ap (either (has (concat l))) (side_below qs ms b) ∙ sym (has_both l (in_order ms))

side_cuts : (ps : List Part) (ls : List Lists) → AreLaidOut ps ls → (s : VertexSet) → Contains (all_cuts ps) s → IsSegment (in_order ls) s
side_cuts ps ls none s h = absurd (Contains-nil s h)
side_cuts ps ls (more p qs l ms a b) s h = elim (Contains-append_cases p.cuts (all_cuts qs) s h) [
  | inl x ↦ within l (in_order ms) s (a.cuts s x)
  | inr x ↦ after l (in_order ms) s (side_cuts qs ms b s x)
]

-- the unions that begin with what the first lists have
from_segment : (k : Lists) (t : VertexSet) (ps : List Part) (ls : List Lists) → t ≡ has (concat k) → AreLaidOut ps ls → (s : VertexSet) → Contains (from_here t (belows ps)) s → IsSegment (k ++ in_order ls) s
from_segment k t ps ls e none s h = elim (head_or_tail t [] s h) [ inl q ↦ first k [] s (q ∙ e) | inr z ↦ absurd (Contains-nil s z) ]
from_segment k t ps ls e (more p qs l ms a b) s h = elim (head_or_tail t (from_here (either t p.below) (belows qs)) s h) [
  | inl q ↦ first k (l ++ in_order ms) s (q ∙ e)
  | inr x ↦
      let joined : either t p.below ≡ has (concat (k ++ l)) = ap (λ u. either u p.below) e ∙ ap (either (has (concat k))) a.below ∙ sym (has_both k l) in
      subst (λ w. IsSegment w s) (append_assoc k l (in_order ms)) (from_segment (k ++ l) (either t p.below) qs ms joined b s x)
]

interval_segment : (ps : List Part) (ls : List Lists) → AreLaidOut ps ls → (s : VertexSet) → Contains (intervals (belows ps)) s → IsSegment (in_order ls) s
interval_segment ps ls none s h = absurd (Contains-nil s h)
interval_segment ps ls (more p qs l ms a b) s h = elim (Contains-append_cases (from_here p.below (belows qs)) (intervals (belows qs)) s h) [
  | inl x ↦ from_segment l p.below qs ms a.below b s x
  | inr x ↦ after l (in_order ms) s (interval_segment qs ms b s x)
]

pub together_laid : (ps : List Part) (ls : List Lists) → AreLaidOut ps ls → IsLaidOut (together ps) (in_order ls)
together_laid ps ls h = record { below = side_below ps ls h; cuts = side_cuts ps ls h }

cycle_cuts : (ps : List Part) (ls : List Lists) → AreLaidOut ps ls → (s : VertexSet) → Contains (cycle_of ps).cuts s → IsSegment (in_order ls) s
cycle_cuts ps ls h s m = elim (Contains-append_cases (intervals (belows ps)) (all_cuts ps) s m) [ inl x ↦ interval_segment ps ls h s x | inr x ↦ side_cuts ps ls h s x ]

pub cycle_laid : (ps : List Part) (ls : List Lists) → AreLaidOut ps ls → IsLaidOut (cycle_of ps) (in_order ls)
cycle_laid ps ls h = record { below = side_below ps ls h; cuts = cycle_cuts ps ls h }

bridge_cuts : (p : Part) (l : Lists) → IsLaidOut p l → (s : VertexSet) → Contains (bridge_of p).cuts s → IsSegment l s
bridge_cuts p l h s m = elim (head_or_tail p.below p.cuts s m) [ inl q ↦ subst (IsSegment l) (sym (q ∙ h.below)) (all l) | inr x ↦ h.cuts s x ]

pub bridge_laid : (p : Part) (l : Lists) → IsLaidOut p l → IsLaidOut (bridge_of p) l
bridge_laid p l h = record { below = h.below; cuts = bridge_cuts p l h }

-- a node above what is below it
pub node_laid : (vs : List ℕ) (p : Part) (l : Lists) → IsLaidOut p l → (let q : Part = record { below = either (has vs) p.below; cuts = p.cuts } in IsLaidOut q (vs ∷ l))
node_laid vs p l h = record { below = ap (either (has vs)) h.below ∙ sym (has_append vs (concat l)); cuts = λ s m. after (vs ∷ []) l s (h.cuts s m) }
