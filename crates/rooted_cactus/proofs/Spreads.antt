-- A cactus whose vertices stand for classes of other vertices is a cactus, and its sides are lifted.
use Rattle.std.proofs.Common.{◌≡◌, ℕ, ◌-◌, ◌<◌, ◌≤◌, ◌&&◌, ◌||◌, Bool, true, false, cond, List, [], ◌∷◌, length, map, get_or, refl, sym, ◌∙◌, ap, subst, arith, ⊎_elim}
use Rattle.std.specs.Prelude.{nat_le}
use Rattle.std.specs.List.{All, Contains, filter, range_with_len}
use Rattle.std.proofs.lemmas.Bool.{cases_Bool, cases_lt, le-leb, lt-leb}
use Rattle.std.proofs.lemmas.Simd.{map-map}
use Rattle.std.proofs.lemmas.List.Elements.{All-weaker, All-map, All-filter, All-contains, All-get_or}
use Rattle.cut_definitions.specs.Weight.{VertexSet}
use Rattle.cut_definitions.specs.Cuts.{has, IsAscendingWithin}
use Rattle.cut_definitions.specs.Contraction.{label, lift}
use Rattle.cut_definitions.proofs.Bridge.{has_within, IsAscendingWithin-filter, same_ascending}
use Rattle.cut_definitions.proofs.Contracted.{has-lift}
use Rattle.cut_definitions.proofs.Ascending.{contains_has, has_contains}
use Rattle.rooted_cactus.specs.Sides.{Part, part_by, cuts}
use Rattle.rooted_cactus.specs.Entered.{entered}
use Rattle.rooted_cactus.specs.Rooted.{IsCactus, places, sides_of}
use Rattle.rooted_cactus.specs.Spread.{AreClasses, spread_set}
use Rattle.rooted_cactus.specs.Widths.{widths}
use Rattle.rooted_cactus.specs.Trees.{vertices}
use Rattle.rooted_cactus.specs.declared.tree.Node.{Node}
use Rattle.rooted_cactus.proofs.Lifts.{KeepsUnions, lifted, own_lists}
use Rattle.rooted_cactus.proofs.Orders.{entered_out}
use Rattle.rooted_cactus.proofs.Ranges.{IsWithin, range_within}

-- ---- the lift keeps unions
none_kept : (a b : Bool) → (a && (b && false)) ≡ false
none_kept a b = grind arith

union_kept : (a b c d : Bool) → (a && (b && (c || d))) ≡ ((a && (b && c)) || (a && (b && d)))
union_kept a b c d = grind arith

keeps : (n : ℕ) (classes : List ℕ) → KeepsUnions (spread_set n classes)
keeps n classes = record {
  none = λ i v. none_kept (nat_le 1 v) (nat_le v n) i;
  union = λ s t. λ i v. union_kept (nat_le 1 v) (nat_le v n) (s (label classes v)) (t (label classes v)) i;
}

-- ---- the lift of a list, as a set
inside : (n : ℕ) (classes : List ℕ) (s : VertexSet) (v : ℕ) → 1 ≤ v → v ≤ n → spread_set n classes s v ≡ s (label classes v)
inside n classes s v l h =
    ap (λ b. b && (nat_le v n && s (label classes v))) (le-leb 1 v l) ∙ ap (λ b. b && s (label classes v)) (le-leb v n h)

below_one : (n : ℕ) (classes : List ℕ) (s : VertexSet) (v : ℕ) → v < 1 → spread_set n classes s v ≡ false
below_one n classes s v h = ap (λ b. b && (nat_le v n && s (label classes v))) (lt-leb 1 v h)

above_and : (a b : Bool) → (a && (false && b)) ≡ false
above_and a b = grind arith

above_n : (n : ℕ) (classes : List ℕ) (s : VertexSet) (v : ℕ) → n < v → spread_set n classes s v ≡ false
above_n n classes s v h = ap (λ b. nat_le 1 v && (b && s (label classes v))) (lt-leb v n h) ∙ above_and (nat_le 1 v) (s (label classes v))

outside : (classes l : List ℕ) (v : ℕ) → (IsWithin 1 (length classes) v → ⊥) → has (lift classes l) v ≡ false
outside classes l v never =
    ⊎_elim
    (λ yes. absurd (never (All-contains (IsWithin 1 (length classes)) (lift classes l) v
    (All-filter (λ u. has l (label classes u)) (IsWithin 1 (length classes)) (range_with_len 1 (length classes)) (range_within (length classes) 1 (length classes) (omega arith)))
    (has_contains (lift classes l) v yes))))
    (λ f. f)
    (cases_Bool (has (lift classes l) v))

lift_at : (classes l : List ℕ) (v : ℕ) → has (lift classes l) v ≡ spread_set (length classes) classes (has l) v
lift_at classes l v =
    ⊎_elim
    (λ low. outside classes l v (λ w. omega (arith, w.0, low)) ∙ sym (below_one (length classes) classes (has l) v low))
    (λ from. ⊎_elim
    (λ high. outside classes l v (λ w. omega (arith, w.1, high)) ∙ sym (above_n (length classes) classes (has l) v high))
    (λ to. has-lift classes l v from to ∙ sym (inside (length classes) classes (has l) v from to))
    (cases_lt (length classes) v))
    (cases_lt v 1)

length_passes : {X Y : Type 0} (p : Y → Bool) (f : X → Y) (xs : List X) → length (filter p (map f xs)) ≡ length (filter (λ x. p (f x)) xs)
length_passes p f [] = refl
length_passes p f (x ∷ xs) =
    let rest = length_passes p f xs in
    elim (p (f x)) as (λ b. length (cond b (f x ∷ filter p (map f xs)) (filter p (map f xs))) ≡ length (cond b (x ∷ filter (λ y. p (f y)) xs) (filter (λ y. p (f y)) xs))) [ true ↦ omega (arith, rest) | false ↦ rest ]

-- ---- cuts and sides
module _ (n k : ℕ) (classes : List ℕ) (are : AreClasses n k classes) where
  lift_is : (l : List ℕ) → has (lift classes l) ≡ spread_set n classes (has l)
  lift_is l = subst (λ (m : ℕ). has (lift classes l) ≡ spread_set m classes (has l)) are.each_has_one (λ i v. lift_at classes l v i)

  pub spread_cuts : (old new : Node) → ((sets : List ℕ → VertexSet) → part_by sets new ≡ part_by (λ l. sets (lift classes l)) old) → cuts new ≡ map (spread_set n classes) (cuts old)
  spread_cuts old new by =
      ap (λ (p : Part). p.cuts) (own_lists new ∙ by has ∙ lifted (spread_set n classes) (keeps n classes) (λ l. has (lift classes l)) lift_is old)

  label_within : (v : ℕ) → 1 ≤ v → v ≤ n → (1 ≤ label classes v) × (label classes v ≤ k)
  label_within v l h = All-get_or (λ c. (1 ≤ c) × (c ≤ k)) classes (v - 1) 0 (omega (arith, are.each_has_one)) are.in_range

  same_side : (s : VertexSet) → filter (spread_set n classes s) (range_with_len 1 n) ≡ lift classes (filter s (range_with_len 1 k))
  same_side s =
      let right : IsAscendingWithin 1 n (lift classes (filter s (range_with_len 1 k))) = IsAscendingWithin-filter (length classes) 1 n (λ v. has (filter s (range_with_len 1 k)) (label classes v)) (omega (arith, are.each_has_one)) in
      same_ascending 1 n _ _ (IsAscendingWithin-filter n 1 n (spread_set n classes s) (omega arith)) right
      (λ v l h.
      has_within n 1 v (spread_set n classes s) l (omega (arith, h))
      ∙ inside n classes s v l h
      ∙ sym (has_within k 1 (label classes v) s (label_within v l h).0 (omega (arith, (label_within v l h).1)))
      ∙ sym (has-lift classes (filter s (range_with_len 1 k)) v l (omega (arith, h, are.each_has_one))))

  pub spread_sides : (old new : Node) → cuts new ≡ map (spread_set n classes) (cuts old) → sides_of (record { vertices = n; root = new }) ≡ map (lift classes) (sides_of (record { vertices = k; root = old }))
  spread_sides old new e =
      ap (map (λ s. filter s (range_with_len 1 n))) e
      ∙ map-map _ _ (cuts old)
      ∙ ap (λ (f : VertexSet → List ℕ). map f (cuts old)) (λ i s. same_side s i)
      ∙ sym (map-map _ _ (cuts old))

  one_vertex : (cs : List ℕ) → label cs 1 ≡ 1 → 1 ≤ length cs
  one_vertex [] e = absurd (omega arith)
  one_vertex (c ∷ cs) e = omega arith

  lifted_places : (old new : Node) → entered new ≡ map (lift classes) (entered old) → (v : ℕ) → 1 ≤ v → v ≤ n → places new v ≡ places old (label classes v)
  lifted_places old new e v l h =
      ap (λ ls. length (filter (λ m. has m v) ls)) e
      ∙ length_passes (λ m. has m v) (lift classes) (entered old)
      ∙ ap (λ (p : List ℕ → Bool). length (filter p (entered old))) (λ i m. has-lift classes m v l (omega (arith, h, are.each_has_one)) i)

  pub spread_cactus : (old new : Node) → IsCactus k old → entered new ≡ map (lift classes) (entered old) → widths new ≡ widths old → IsCactus n new
  spread_cactus old new is e w =
      let head : vertices new ≡ lift classes (vertices old) = ap (λ ls. get_or ls 0 []) (sym (entered_out new) ∙ e ∙ ap (map (lift classes)) (entered_out old)) in
      let one : 1 ≤ length classes = one_vertex classes are.first in
      record {
        ascending = subst (All (IsAscendingWithin 1 n)) (sym e) (All-map (IsAscendingWithin 1 n) (lift classes) (entered old)
            (All-weaker (IsAscendingWithin 1 k) (λ l. IsAscendingWithin 1 n (lift classes l)) (λ l _. IsAscendingWithin-filter (length classes) 1 n (λ v. has l (label classes v)) (omega (arith, are.each_has_one))) (entered old) is.ascending));
        in_one_node = λ v l h. lifted_places old new e v l h ∙ is.in_one_node (label classes v) (label_within v l h).0 (label_within v l h).1;
        root_has_one = subst (λ l. Contains l 1) (sym head) (has_contains (lift classes (vertices old)) 1
            (has-lift classes (vertices old) 1 (omega arith) one ∙ ap (has (vertices old)) are.first ∙ contains_has (vertices old) 1 is.root_has_one));
        wide = subst (All (λ c. 2 ≤ c)) (sym w) is.wide;
      }
