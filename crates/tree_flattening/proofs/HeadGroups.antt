-- The first nodes of blocks in groups by the nodes from which they hang.
use Rattle.std.proofs.Common.{◌≡◌, ℕ, ◌+◌, ◌-◌, ◌<◌, ◌≤◌, Bool, true, false, not, cond, ◌&&◌, ◌==◌, List, [], ◌∷◌, length, map, ap, ◌∙◌, sym, refl, arith}
use Rattle.std.specs.Prelude.{slice_index, slice_index_or}
use Rattle.std.specs.List.{Contains, filter, range_with_len}
use Rattle.std.proofs.lemmas.List.FromFn.{get_or-map-range_with_len}
use Rattle.cut_definitions.proofs.Lists.{Contains-from_filter}
use Rattle.node_tree.specs.Flat.{TreeLinks, is_follower}
use Rattle.tree_flattening.specs.Plans.{heads_of}
use Rattle.tree_flattening.proofs.Runs.{range_within}

-- a list that goes through two tests
filter_twice : {X : Type 0} (p q : X → Bool) (xs : List X) → filter q (filter p xs) ≡ filter (λ x. p x && q x) xs
filter_twice p q [] = refl
filter_twice p q (x ∷ xs) = passed (p x) refl (filter_twice p q xs) where
  passed : (b : Bool) → p x ≡ b → filter q (filter p xs) ≡ filter (λ y. p y && q y) xs → filter q (filter p (x ∷ xs)) ≡ filter (λ y. p y && q y) (x ∷ xs)
  passed true e rest =
      ap (λ b. filter q (cond b (x ∷ filter p xs) (filter p xs))) e
      ∙ ap (λ l. cond (q x) (x ∷ l) l) rest
      ∙ sym (ap (λ b. cond (b && q x) (x ∷ filter (λ y. p y && q y) xs) (filter (λ y. p y && q y) xs)) e)
  passed false e rest =
      ap (λ b. filter q (cond b (x ∷ filter p xs) (filter p xs))) e
      ∙ rest
      ∙ sym (ap (λ b. cond (b && q x) (x ∷ filter (λ y. p y && q y) xs) (filter (λ y. p y && q y) xs)) e)

-- all first nodes
abbrev pub firsts : TreeLinks → List ℕ
firsts t = filter (λ h. not (is_follower t.follows h)) (range_with_len 1 (length t.uppers - 1))

pub first_within : (t : TreeLinks) (h : ℕ) → Contains (firsts t) h → (1 ≤ h) × (h < length t.uppers)
first_within t h k =
    let place = range_within 1 (length t.uppers - 1) h (Contains-from_filter (λ j. not (is_follower t.follows j)) (range_with_len 1 (length t.uppers - 1)) h k).0 in
    (place.0, omega (arith, place.0, place.1))

-- a group of them
pub group_is : (t : TreeLinks) (groups : List (List ℕ)) (items uppers : List ℕ) (count : ℕ) → groups ≡ map (λ k. filter (λ x. slice_index uppers x == k) items) (range_with_len 0 count) →
    items ≡ firsts t → uppers ≡ t.uppers → count ≡ length t.uppers → (i : ℕ) → i < length t.uppers → slice_index_or groups i [] ≡ heads_of t i
group_is t groups items uppers count is e f many i lt =
    let at : 0 + i ≡ i = omega arith in
    ap (λ g. slice_index_or g i []) is
    ∙ get_or-map-range_with_len (λ k. filter (λ x. slice_index uppers x == k) items) 0 count i i [] (omega (arith, lt, many)) at
    ∙ ap (λ l. filter (λ x. slice_index uppers x == i) l) e
    ∙ ap (λ us. filter (λ x. slice_index us x == i) (firsts t)) f
    ∙ filter_twice (λ h. not (is_follower t.follows h)) (λ x. slice_index t.uppers x == i) (range_with_len 1 (length t.uppers - 1))

-- a group of vertices
pub own_is : (groups : List (List ℕ)) (items table homes : List ℕ) (n count : ℕ) → groups ≡ map (λ k. filter (λ x. slice_index table x == k) items) (range_with_len 0 count) →
    items ≡ range_with_len 1 n → table ≡ homes → (i : ℕ) → i < count → slice_index_or groups i [] ≡ filter (λ v. slice_index homes v == i) (range_with_len 1 n)
own_is groups items table homes n count is e f i lt =
    let at : 0 + i ≡ i = omega arith in
    ap (λ g. slice_index_or g i []) is
    ∙ get_or-map-range_with_len (λ k. filter (λ x. slice_index table x == k) items) 0 count i i [] lt at
    ∙ ap (λ l. filter (λ x. slice_index table x == i) l) e
    ∙ ap (λ us. filter (λ x. slice_index us x == i) (range_with_len 1 n)) f
