-- What hangs from a node of a flat cactus: a bridge with a tree below it, or a cycle through the roots of several trees.
use Rattle.std.proofs.Common.{◌≡◌, ℕ, ◌+◌, ◌≤◌, ◌<◌, Bool, true, false, List, [], ◌∷◌, ◌++◌, inl, inr, map, sym, ◌∙◌, subst, arith}
use Rattle.std.specs.List.{Contains, AllZip}
use Rattle.cut_definitions.proofs.Lists.{Contains-map, Contains-from_map, Contains-here, Contains-there, Contains-cons_cases, Contains-nil}
use Rattle.rooted_cactus.specs.CutRanges.{Range}
use Rattle.flat_cactus.specs.Flattened.{Joins, TreeJoins, trees_size, roots_from, trees_from, bridge_before}
use Rattle.flat_cactus.specs.FlatCuts.{without_one}
use Rattle.flat_cactus.proofs.Closing.{Edges, around, split_around, IsEach}
use Rattle.flat_cactus.proofs.Pieces.{inside, within_range, before_range, behind_range, edges_of, IsLinked, IsCutOff, IsPiece, no_piece, linked_beside}

abbrev pub range : ℕ → ℕ → Range
range from to = record { from = from; to = to }

-- ---- a bridge
module _ (up first size : ℕ) (above : up < first) where
  cut_below : (r : Range) (left : Edges) → IsCutOff (first ∷ []) first size r left → IsCutOff (up ∷ []) first size r ((up, first) ∷ left)
  cut_below r left c =
      let out : inside r up ≡ false = before_range r up (omega (arith, c.low, above)) in
      record {
        low = c.low;
        some = c.some;
        high = c.high;
        seeds_outside = (out, tt);
        uncrossed = (out ∙ sym c.seeds_outside.0, c.uncrossed);
        reached = λ set k e i p q o. c.reached set k.1 (sym k.0 ∙ e.0, tt) i p q o;
      }

  bridge_cut : (some : 0 < size) (j : Joins) → IsLinked (first ∷ []) first size (edges_of j) → IsCutOff (up ∷ []) first size (range first (first + size)) (edges_of j)
  bridge_cut some j g =
      let r = range first (first + size) in
      record {
        low = omega arith;
        some = omega (arith, some);
        high = omega arith;
        seeds_outside = (before_range r up above, tt);
        uncrossed = g.closed (inside r) true (within_range r first (omega arith) (omega (arith, some)), tt) (λ i p q. within_range r i p q);
        reached = λ set k e i p q o. elim o [ inl u ↦ absurd (omega (arith, p, u)) | inr u ↦ absurd (omega (arith, q, u)) ];
      }

  pub bridge_piece : 0 < size → (rs : List Range) (j : Joins) → IsPiece (first ∷ []) first size rs j → IsPiece (up ∷ []) first size (range first (first + size) ∷ rs) (bridge_before (up, first) j)
  bridge_piece some rs j g =
      let own = range first (first + size) in
      let B = j.bridges in
      let top : IsCutOff (up ∷ []) first size own (edges_of j) = bridge_cut some j g.linked in
      record {
        linked = record {
          closed = λ set b e k. let f : set first ≡ b = k first (omega arith) (omega (arith, some)) in (e.0 ∙ sym f, g.linked.closed set b (f, tt) k);
          reached = λ set c e i p q. g.linked.reached set c.1 (sym c.0 ∙ e.0, tt) i p q;
        };
        each_range = λ r h. elim (Contains-cons_cases own rs r h) [
          | inl e ↦ inl (B, Contains-here B (map (λ l. (up, first) ∷ l) (without_one B)), subst (λ z. IsCutOff (up ∷ []) first size z (edges_of j)) e top)
          | inr x ↦ elim (g.each_range r x) [
            | inl y ↦ inl ((up, first) ∷ y.0, Contains-there B (map (λ l. (up, first) ∷ l) (without_one B)) ((up, first) ∷ y.0) (Contains-map (λ l. (up, first) ∷ l) (without_one B) y.0 y.1), cut_below r _ y.2)
            | inr y ↦ inr (y.0, y.1, cut_below r _ y.2)
          ]
        ];
        each_bridge = λ l h. elim (Contains-cons_cases B (map (λ k. (up, first) ∷ k) (without_one B)) l h) [
          | inl e ↦ (own, Contains-here own rs, subst (λ z. IsCutOff (up ∷ []) first size own (z ++ around j.cycles)) e top)
          | inr x ↦
              let y = Contains-from_map (λ k. (up, first) ∷ k) (without_one B) l x in
              let z = g.each_bridge y.0 y.1 in
              (z.0, Contains-there own rs z.0 z.1, subst (λ w. IsCutOff (up ∷ []) first size z.0 (w ++ around j.cycles)) y.2 (cut_below z.0 _ z.2))
        ];
        each_cycle = λ l h. let z = g.each_cycle l h in (z.0, Contains-there own rs z.0 z.1, cut_below z.0 _ z.2);
      }

-- ---- two lists, place by place
pub zip_map : {A B C : Type 0} (R : A → B → Type 0) (Q : A → C → Type 0) (f : B → C) → ((x : A) (y : B) → R x y → Q x (f y)) → (xs : List A) (ys : List B) → AllZip R xs ys → AllZip Q xs (map f ys)
zip_map R Q f h [] [] z = tt
zip_map R Q f h [] (y ∷ ys) z = absurd z
zip_map R Q f h (x ∷ xs) [] z = absurd z
zip_map R Q f h (x ∷ xs) (y ∷ ys) z = (h x y z.0, zip_map R Q f h xs ys z.1)

pub zip_weaker : {A B : Type 0} (R Q : A → B → Type 0) → ((x : A) (y : B) → R x y → Q x y) → (xs : List A) (ys : List B) → AllZip R xs ys → AllZip Q xs ys
zip_weaker R Q h [] [] z = tt
zip_weaker R Q h [] (y ∷ ys) z = absurd z
zip_weaker R Q h (x ∷ xs) [] z = absurd z
zip_weaker R Q h (x ∷ xs) (y ∷ ys) z = (h x y z.0, zip_weaker R Q h xs ys z.1)

pub zip_append : {A B : Type 0} (R : A → B → Type 0) (xs us : List A) (ys vs : List B) → AllZip R xs ys → AllZip R us vs → AllZip R (xs ++ us) (ys ++ vs)
zip_append R [] us [] vs z w = w
zip_append R [] us (y ∷ ys) vs z w = absurd z
zip_append R (x ∷ xs) us [] vs z w = absurd z
zip_append R (x ∷ xs) us (y ∷ ys) vs z w = (z.0, zip_append R xs us ys vs z.1 w)

pub zip_first : {A B : Type 0} (R : A → B → Type 0) (xs : List A) (ys : List B) (x : A) → AllZip R xs ys → Contains xs x → (y : B) × Contains ys y × R x y
zip_first R [] ys x z h = absurd (Contains-nil x h)
zip_first R (a ∷ xs) [] x z h = absurd z
zip_first R (a ∷ xs) (b ∷ ys) x z h = elim (Contains-cons_cases a xs x h) [
  | inl e ↦ (b, Contains-here b ys, subst (λ w. R w b) e z.0)
  | inr k ↦ let g = zip_first R xs ys x z.1 k in (g.0, Contains-there b ys g.0 g.1, g.2)
]

pub zip_second : {A B : Type 0} (R : A → B → Type 0) (xs : List A) (ys : List B) (y : B) → AllZip R xs ys → Contains ys y → (x : A) × Contains xs x × R x y
zip_second R xs [] y z h = absurd (Contains-nil y h)
zip_second R [] (b ∷ ys) y z h = absurd z
zip_second R (a ∷ xs) (b ∷ ys) y z h = elim (Contains-cons_cases b ys y h) [
  | inl e ↦ (a, Contains-here a xs, subst (λ w. R a w) e z.0)
  | inr k ↦ let g = zip_second R xs ys y z.1 k in (g.0, Contains-there a xs g.0 g.1, g.2)
]

-- ---- trees side by side
abbrev pub sizes : List TreeJoins → List ℕ
sizes = map (λ (t : TreeJoins). t.size)

-- a tree has a node, and its nodes hang together
pub record IsLinkedTree (t : TreeJoins) : Type 0 where
  pub some : 0 < t.size
  pub linked : (k : ℕ) → IsLinked (k ∷ []) k t.size (edges_of (t.joins k))

pub data AreLinked : List TreeJoins → Type 0 where
  no_trees : AreLinked []
  more_trees : (t : TreeJoins) (ts : List TreeJoins) → IsLinkedTree t → AreLinked ts → AreLinked (t ∷ ts)

pub roots_each : (ts : List TreeJoins) → AreLinked ts → (set : ℕ → Bool) (b : Bool) (k : ℕ) → ((i : ℕ) → k ≤ i → i < k + trees_size ts → set i ≡ b) → IsEach set b (roots_from k ts)
roots_each ts no_trees set b k h = tt
roots_each ts (more_trees t us g gs) set b k h = (h k (omega arith) (omega (arith, g.some)), roots_each us gs set b (k + t.size) (λ i p q. h i (omega (arith, p)) (omega (arith, q))))

pub grove_linked : (ts : List TreeJoins) → AreLinked ts → (k : ℕ) → IsLinked (roots_from k ts) k (trees_size ts) (edges_of (trees_from k ts))
grove_linked ts no_trees k = (no_piece [] k).linked
grove_linked ts (more_trees t us g gs) k =
    linked_beside (roots_from k (t ∷ us)) (k ∷ []) (roots_from (k + t.size) us) k t.size (trees_size us)
    (λ set b e. (e.0, tt))
    (λ set b e. e.1)
    (λ r h e. (e.0, roots_each us gs (inside r) false (k + t.size) (λ i p q. behind_range r i (omega (arith, h, p)))))
    (λ r h e. (before_range r k (omega (arith, g.some, h)), e))
    _ _ _
    (split_around (t.joins k).bridges (trees_from (k + t.size) us).bridges (t.joins k).cycles (trees_from (k + t.size) us).cycles)
    (g.linked k)
    (grove_linked us gs (k + t.size))
