-- The cuts of the flat cactus of a cactus have the sides of the cactus.
use Rattle.std.proofs.Common.{◌≡◌, ℕ, zero, suc, ◌+◌, ◌-◌, ◌≤◌, ◌<◌, Bool, true, not, List, [], ◌∷◌, ◌++◌, ◌⊎◌, inl, inr, length, get_or, take, map, refl, sym, ◌∙◌, ap, subst, arith, ⊎_elim}
use Rattle.std.specs.List.{Contains, concat, filter, range_with_len}
use Rattle.std.proofs.lemmas.Bool.{cases_lt, cases_eq, false≢true}
use Rattle.std.proofs.lemmas.List.{get_or-take, get_or-drop, get_or_past, length-take, length-drop}
use Rattle.std.proofs.lemmas.List.Elements.{All-get_or, Contains-append_cases, Contains-append_left, Contains-append_right}
use Rattle.cut_definitions.specs.Cuts.{has, IsAscendingWithin}
use Rattle.cut_definitions.proofs.Lists.{Contains-cons_cases, Contains-map, Contains-from_map, Contains-filter, Contains-from_filter, Contains-nil}
use Rattle.cut_definitions.proofs.Bridge.{same_ascending, IsAscendingWithin-filter}
use Rattle.cut_definitions.proofs.Ascending.{contains_has, has_contains}
use Rattle.rooted_cactus.specs.declared.tree.Node.{Node}
use Rattle.rooted_cactus.specs.Entered.{entered}
use Rattle.rooted_cactus.specs.Rooted.{IsCactus, sides_of}
use Rattle.rooted_cactus.specs.CutRanges.{Range, elements_at, cut_ranges}
use Rattle.flat_cactus.specs.Flat.{Flat}
use Rattle.flat_cactus.specs.FlatCuts.{IsClosed, IsReached, IsSideWithout, IsFlatSide, node_at, edges_left, without_one, without_two_of_one}
use Rattle.flat_cactus.specs.Flattened.{Joins, flat_of, joins_of, tree_joins}
use Rattle.flat_cactus.specs.FlatLaws.{LawOfFlatSides}
use Rattle.rooted_cactus.proofs.Laid.{set_at}
use Rattle.rooted_cactus.proofs.CutRanges.{size_is, cuts_are_ranges}
use Rattle.rooted_cactus.proofs.Groups.{same_members}
use Rattle.rooted_cactus.proofs.Ranges.{has_range}
use Rattle.flat_cactus.proofs.Closing.{Edges, around}
use Rattle.flat_cactus.proofs.Pieces.{inside, within_range, IsCutOff, IsPiece, map_one}
use Rattle.flat_cactus.proofs.TreePieces.{tree_holds}

-- ---- lists one after another
has_both_at : (xs ys : List ℕ) (v : ℕ) → has (xs ++ ys) v ≡ true → (has xs v ≡ true) ⊎ (has ys v ≡ true)
has_both_at xs ys v h = elim (Contains-append_cases xs ys v (has_contains (xs ++ ys) v h)) [ inl a ↦ inl (contains_has xs v a) | inr b ↦ inr (contains_has ys v b) ]

from_concat : (ls : List (List ℕ)) (v : ℕ) → has (concat ls) v ≡ true → (i : ℕ) × (i < length ls) × (has (get_or ls i []) v ≡ true)
from_concat [] v h = absurd (false≢true h)
from_concat (l ∷ ls) v h = elim (has_both_at l (concat ls) v h) [
  | inl a ↦ (0, omega arith, a)
  | inr b ↦ let r = from_concat ls v b in (suc r.0, omega (arith, r.1), r.2)
]

to_concat : (ls : List (List ℕ)) (v i : ℕ) → i < length ls → has (get_or ls i []) v ≡ true → has (concat ls) v ≡ true
to_concat [] v i h is = absurd (omega (arith, h))
to_concat (l ∷ ls) v zero h is = contains_has (l ++ concat ls) v (Contains-append_left l (concat ls) v (has_contains l v is))
to_concat (l ∷ ls) v (suc i) h is = contains_has (l ++ concat ls) v (Contains-append_right l (concat ls) v (has_contains (concat ls) v (to_concat ls v i (omega (arith, h)) is)))

element_is : (ls : List (List ℕ)) (r : Range) (i : ℕ) → r.from + i < r.to → get_or (elements_at ls r) i [] ≡ get_or ls (r.from + i) []
element_is ls r i h = get_or-drop r.from (take r.to ls) i [] ∙ get_or-take r.to ls (r.from + i) [] h

from_range : (ls : List (List ℕ)) (r : Range) (v : ℕ) → set_at ls r v ≡ true → (i : ℕ) × (r.from ≤ i) × (i < r.to) × (has (get_or ls i []) v ≡ true)
from_range ls r v h =
    let e = from_concat (elements_at ls r) v h in
    let few : r.from + e.0 < r.to = omega (arith, e.1, length-drop r.from (take r.to ls), length-take r.to ls) in
    (r.from + e.0, omega arith, few, ap (λ l. has l v) (sym (element_is ls r e.0 few)) ∙ e.2)

to_range : (ls : List (List ℕ)) (r : Range) (v i : ℕ) → r.from ≤ i → i < r.to → i < length ls → has (get_or ls i []) v ≡ true → set_at ls r v ≡ true
to_range ls r v i a b c h =
    let there : r.from + (i - r.from) ≡ i = omega (arith, a) in
    let few : r.from + (i - r.from) < r.to = omega (arith, a, b) in
    to_concat (elements_at ls r) v (i - r.from) (omega (arith, a, b, c, length-drop r.from (take r.to ls), length-take r.to ls))
    (ap (λ l. has l v) (element_is ls r (i - r.from) few ∙ ap (λ k. get_or ls k []) there) ∙ h)

ascending_has : (low high : ℕ) (l : List ℕ) (v : ℕ) → IsAscendingWithin low high l → has l v ≡ true → (low ≤ v) × (v ≤ high)
ascending_has low high [] v h is = absurd (false≢true is)
ascending_has low high (x ∷ xs) v h is = elim (has_both_at (x ∷ []) xs v is) [
  | inl a ↦ ⊎_elim (λ (e : x ≡ v). (omega (arith, h.0, e), omega (arith, h.1, e))) (λ ne. absurd (only x v ne (has_contains (x ∷ []) v a))) (cases_eq x v)
  | inr b ↦ let r = ascending_has (x + 1) high xs v h.2 b in (omega (arith, h.0, r.0), r.1)
]
  where
    only : (y w : ℕ) → (y ≡ w → ⊥) → Contains (y ∷ []) w → ⊥
    only y w ne c = elim (Contains-cons_cases y [] w c) [ inl e ↦ ne e | inr k ↦ Contains-nil w k ]

-- ---- reached and not reached
closed_not : (edges : Edges) (set : ℕ → Bool) → IsClosed edges set → IsClosed edges (λ i. not (set i))
closed_not [] set h = tt
closed_not (e ∷ es) set h = (ap not h.0, closed_not es set h.1)

module _ (size : ℕ) (r : Range) (left : Edges) (cut : IsCutOff (0 ∷ []) 0 size r left) where
  not_reached : (i : ℕ) → r.from ≤ i → i < r.to → IsReached left i → ⊥
  not_reached i a b h = false≢true (sym (ap not (within_range r i a b)) ∙ h (λ j. not (inside r j)) (closed_not left (inside r) cut.uncrossed) (ap not cut.seeds_outside.0))

  is_reached : (i : ℕ) → i < size → (i < r.from) ⊎ (r.to ≤ i) → IsReached left i
  is_reached i h o = λ set k e. cut.reached set k (e, tt) i (omega arith) (omega (arith, h)) o

-- ---- the law
module _ (n : ℕ) (root : Node) (ok : IsCactus n root) where
  abbrev flat : Flat
  flat = flat_of record { vertices = n; root = root }

  abbrev lists : List (List ℕ)
  lists = entered root

  abbrev size : ℕ
  size = (tree_joins root).size

  size_there : size ≡ length lists
  size_there = sym (tree_holds root).size ∙ size_is root

  -- the side of a range
  abbrev side_at : Range → List ℕ
  side_at r = filter (set_at lists r) (range_with_len 1 n)

  side_ascends : (r : Range) → IsAscendingWithin 1 n (side_at r)
  side_ascends r = IsAscendingWithin-filter n 1 n (set_at lists r) (omega arith)

  node_within : (i v : ℕ) → has (get_or lists i []) v ≡ true → i < length lists → (1 ≤ v) × (v ≤ n)
  node_within i v h a = ascending_has 1 n (get_or lists i []) v (All-get_or (IsAscendingWithin 1 n) lists i [] a ok.ascending) h

  has_node : (i v : ℕ) → Contains (node_at flat i) v → i < length lists
  has_node i v h = elim (cases_lt i (length lists)) [
    | inl a ↦ a
    | inr b ↦ absurd (Contains-nil v (subst (λ l. Contains l v) (get_or_past lists i [] b) h))
  ]

  abbrev Unreached : Edges → ℕ → Type 0
  Unreached left v = (i : ℕ) × Contains (node_at flat i) v × (IsReached left i → ⊥)

  side_to : (r : Range) (left : Edges) → IsCutOff (0 ∷ []) 0 size r left → (v : ℕ) → Contains (side_at r) v → Unreached left v
  side_to r left cut v h =
      let e = from_range lists r v (Contains-from_filter (set_at lists r) (range_with_len 1 n) v h).1 in
      (e.0, has_contains (get_or lists e.0 []) v e.3, not_reached size r left cut e.0 e.1 e.2)

  side_from : (r : Range) (left : Edges) → IsCutOff (0 ∷ []) 0 size r left → (v : ℕ) → Unreached left v → Contains (side_at r) v
  side_from r left cut v u =
      let there : u.0 < length lists = has_node u.0 v u.1 in
      let small : u.0 < size = omega (arith, there, size_there) in
      let is : has (get_or lists u.0 []) v ≡ true = contains_has (get_or lists u.0 []) v u.1 in
      let bounds : (1 ≤ v) × (v ≤ n) = node_within u.0 v is there in
      let low : r.from ≤ u.0 = elim (cases_lt u.0 r.from) [ inl a ↦ absurd (u.2 (is_reached size r left cut u.0 small (inl a))) | inr b ↦ b ] in
      let high : u.0 < r.to = elim (cases_lt u.0 r.to) [ inl a ↦ a | inr b ↦ absurd (u.2 (is_reached size r left cut u.0 small (inr b))) ] in
      Contains-filter (set_at lists r) (range_with_len 1 n) v
      (has_contains (range_with_len 1 n) v (has_range n 1 v bounds.0 (omega (arith, bounds.1))))
      (to_range lists r v u.0 low high there is)

  side_is : (r : Range) (left : Edges) → IsCutOff (0 ∷ []) 0 size r left → IsSideWithout flat left (side_at r)
  side_is r left cut = record { ascending = side_ascends r; unreached = λ v. (side_to r left cut v, side_from r left cut v) }

  only_side : (r : Range) (left : Edges) → IsCutOff (0 ∷ []) 0 size r left → (side : List ℕ) → IsSideWithout flat left side → side_at r ≡ side
  only_side r left cut side h =
      same_ascending 1 n (side_at r) side (side_ascends r) h.ascending
      (λ v a b. same_members (side_at r) side v (λ x. (h.unreached v).1 (side_to r left cut v x)) (λ x. side_from r left cut v ((h.unreached v).0 x)))

  abbrev joins : Joins
  joins = joins_of root

  piece : IsPiece (0 ∷ []) 0 size (cut_ranges root 0) joins
  piece = (tree_holds root).piece 0

  sides_are : sides_of record { vertices = n; root = root } ≡ map side_at (cut_ranges root 0)
  sides_are = ap (map (λ s. filter s (range_with_len 1 n))) (cuts_are_ranges root) ∙ map_one (λ s. filter s (range_with_len 1 n)) (set_at lists) side_at (λ r. refl) (cut_ranges root 0)

  abbrev by_bridge : List Edges
  by_bridge = map (λ l. l ++ around joins.cycles) (without_one joins.bridges)

  abbrev by_cycle : List Edges
  by_cycle = map (λ l. joins.bridges ++ l) (without_two_of_one joins.cycles)

  cut_of : (left : Edges) → Contains (edges_left flat) left → (r : Range) × Contains (cut_ranges root 0) r × IsCutOff (0 ∷ []) 0 size r left
  cut_of left h = elim (Contains-append_cases by_bridge by_cycle left h) [
    | inl a ↦ let x = Contains-from_map (λ l. l ++ around joins.cycles) (without_one joins.bridges) left a in let y = piece.each_bridge x.0 x.1 in (y.0, y.1, subst (IsCutOff (0 ∷ []) 0 size y.0) x.2 y.2)
    | inr b ↦ let x = Contains-from_map (λ l. joins.bridges ++ l) (without_two_of_one joins.cycles) left b in let y = piece.each_cycle x.0 x.1 in (y.0, y.1, subst (IsCutOff (0 ∷ []) 0 size y.0) x.2 y.2)
  ]

  left_of : (r : Range) → Contains (cut_ranges root 0) r → (left : Edges) × Contains (edges_left flat) left × IsCutOff (0 ∷ []) 0 size r left
  left_of r h = elim (piece.each_range r h) [
    | inl a ↦ (a.0 ++ around joins.cycles, Contains-append_left by_bridge by_cycle (a.0 ++ around joins.cycles) (Contains-map (λ l. l ++ around joins.cycles) (without_one joins.bridges) a.0 a.1), a.2)
    | inr b ↦ (joins.bridges ++ b.0, Contains-append_right by_bridge by_cycle (joins.bridges ++ b.0) (Contains-map (λ l. joins.bridges ++ l) (without_two_of_one joins.cycles) b.0 b.1), b.2)
  ]

  from_flat : (side : List ℕ) → IsFlatSide flat side → Contains (sides_of record { vertices = n; root = root }) side
  from_flat side h =
      let x = cut_of h.0 h.1 in
      subst (λ l. Contains l side) (sym sides_are)
      (subst (Contains (map side_at (cut_ranges root 0))) (only_side x.0 h.0 x.2 side h.2) (Contains-map side_at (cut_ranges root 0) x.0 x.1))

  to_flat : (side : List ℕ) → Contains (sides_of record { vertices = n; root = root }) side → IsFlatSide flat side
  to_flat side h =
      let x = Contains-from_map side_at (cut_ranges root 0) side (subst (λ l. Contains l side) sides_are h) in
      let y = left_of x.0 x.1 in
      (y.0, y.1, subst (IsSideWithout flat y.0) x.2 (side_is x.0 y.0 y.2))

pub flat_sides : LawOfFlatSides
flat_sides n root ok = λ side. (from_flat n root ok side, to_flat n root ok side)
