-- The flat cactus of a cactus is well formed, and its lists are in order.
use Rattle.std.proofs.Common.{◌≡◌, ℕ, zero, suc, ◌+◌, ◌-◌, ◌≤◌, ◌<◌, List, [], ◌∷◌, ◌++◌, length, get_or, map, refl, sym, ◌∙◌, ap, subst, arith}
use Rattle.std.specs.Prelude.{⊤, ◌≢◌, slice_index}
use Rattle.std.specs.List.{AllByRecursion, AllPairs, Contains, sum_by}
use Rattle.std.specs.declared.boxed.Box.{Box}
use Rattle.std.specs.declared.alloc.Global.{Global}
use Rattle.std.proofs.lemmas.List.{length-append}
use Rattle.std.proofs.lemmas.List.Elements.{All-from_recursion, recursion_from_All}
use Rattle.std.proofs.lemmas.List.Sums.{sum_by-cons, sum_by-append}
use Rattle.rooted_cactus.specs.Trees.{blocks, nodes_in}
use Rattle.rooted_cactus.specs.declared.tree.Node.{Node}
use Rattle.rooted_cactus.specs.declared.tree.Block.{Block}
use Rattle.rooted_cactus.specs.declared.tree.Children.{Children}
use Rattle.rooted_cactus.specs.declared.tree.Block.TheVariants.{Bridge, Cycle}
use Rattle.rooted_cactus.specs.Entered.{entered}
use Rattle.rooted_cactus.specs.Rooted.{IsCactus}
use Rattle.rooted_cactus.specs.Widths.{widths, block_widths, joined}
use Rattle.flat_cactus.specs.Flat.{Flat}
use Rattle.flat_cactus.specs.FlatCuts.{IsBridgeBelow, IsCycleBelow, IsWellFormed, IsInOrder}
use Rattle.flat_cactus.specs.Flattened.{Joins, no_joins, beside, TreeJoins, BlockJoins, tree_joins, block_joins, trees_size, roots_from, trees_from, blocks_size, blocks_from, bridge_before, cycle_before, cycle_joins, flat_of, joins_of}
use Rattle.flat_cactus.specs.FlatLaws.{LawOfFlatForm, LawOfFlatOrder}
use Rattle.rooted_cactus.proofs.Orders.{entered_out}
use Rattle.rooted_cactus.proofs.Widths.{widths_out, widths_bridge, widths_cycle}
use Rattle.rooted_cactus.proofs.CutRanges.{size_is}
use Rattle.flat_cactus.proofs.JoinsOut.{joins_out, joins_bridge, joins_cycle}
use Rattle.rooted_cactus.proofs.Induction.{tree_induction}
use Rattle.flat_cactus.proofs.TreePieces.{tree_holds}

-- ---- lists
all_weaker : {X : Type 0} (P Q : X → Type 0) → ((x : X) → P x → Q x) → (xs : List X) → AllByRecursion P xs → AllByRecursion Q xs
all_weaker P Q h [] a = tt
all_weaker P Q h (x ∷ xs) a = (h x a.0, all_weaker P Q h xs a.1)

all_append : {X : Type 0} (P : X → Type 0) (xs ys : List X) → AllByRecursion P xs → AllByRecursion P ys → AllByRecursion P (xs ++ ys)
all_append P [] ys a b = b
all_append P (x ∷ xs) ys a b = (a.0, all_append P xs ys a.1 b)

all_left : {X : Type 0} (P : X → Type 0) (xs ys : List X) → AllByRecursion P (xs ++ ys) → AllByRecursion P xs
all_left P [] ys a = tt
all_left P (x ∷ xs) ys a = (a.0, all_left P xs ys a.1)

all_right : {X : Type 0} (P : X → Type 0) (xs ys : List X) → AllByRecursion P (xs ++ ys) → AllByRecursion P ys
all_right P [] ys a = a
all_right P (x ∷ xs) ys a = all_right P xs ys a.1

-- each element and each later one
abbrev IsPairwise : {X : Type 0} → (X → X → Type 0) → List X → Type 0
IsPairwise R [] = ⊤
IsPairwise R (x ∷ xs) = AllByRecursion (R x) xs × IsPairwise R xs

pairs_are : {X : Type 0} (R : X → X → Type 0) (xs : List X) → IsPairwise R xs → AllPairs R xs
pairs_are R [] h i j d a b = absurd (omega (arith, b))
pairs_are R (x ∷ xs) h i zero d a b = absurd (omega (arith, a))
pairs_are R (x ∷ xs) h zero (suc j) d a b = All-from_recursion (R x) xs h.0 j d (omega (arith, b))
pairs_are R (x ∷ xs) h (suc i) (suc j) d a b = pairs_are R xs h.1 i j d (omega (arith, a)) (omega (arith, b))

pairs_weaker : {X : Type 0} (R S : X → X → Type 0) → ((x y : X) → R x y → S x y) → (xs : List X) → IsPairwise R xs → IsPairwise S xs
pairs_weaker R S h [] a = tt
pairs_weaker R S h (x ∷ xs) a = (all_weaker (R x) (S x) (h x) xs a.0, pairs_weaker R S h xs a.1)

pairs_append : {X : Type 0} (R : X → X → Type 0) (P Q : X → Type 0) → ((x y : X) → P x → Q y → R x y) → (xs ys : List X) → AllByRecursion P xs → AllByRecursion Q ys → IsPairwise R xs → IsPairwise R ys → IsPairwise R (xs ++ ys)
pairs_append R P Q h [] ys a b g k = k
pairs_append R P Q h (x ∷ xs) ys a b g k = (all_append (R x) xs ys g.0 (all_weaker Q (R x) (λ y q. h x y a.0 q) ys b), pairs_append R P Q h xs ys a.1 b g.1 k)

-- ---- what joins some nodes

-- a bridge whose second node is in a range
record IsBridgeIn (low high : ℕ) (b : ℕ × ℕ) : Type 0 where
  up : b.0 < b.1
  from_low : low ≤ b.1
  to_high : b.1 < high

-- a cycle whose second node is in a range, and whose nodes ascend
record IsCycleIn (low high : ℕ) (c : List ℕ) : Type 0 where
  long : 3 ≤ length c
  rising : IsPairwise (λ i j. i < j) c
  below : AllByRecursion (λ i. i < high) c
  from_low : low ≤ slice_index c 1
  to_high : slice_index c 1 < high

abbrev bridge_order : ℕ × ℕ → ℕ × ℕ → Type 0
bridge_order b c = b.1 < c.1

abbrev cycle_order : List ℕ → List ℕ → Type 0
cycle_order c d = slice_index c 1 < slice_index d 1

-- what joins the nodes of a range, all but some of which have a bridge or cycle from above
record IsShaped (spared low high : ℕ) (j : Joins) : Type 0 where
  bridges : AllByRecursion (IsBridgeIn low high) j.bridges
  cycles : AllByRecursion (IsCycleIn low high) j.cycles
  bridges_rise : IsPairwise bridge_order j.bridges
  cycles_rise : IsPairwise cycle_order j.cycles
  count : low + (spared + (length j.bridges + sum_by (λ c. length c - 1) j.cycles)) ≡ high

bridge_wider : (low high low' high' : ℕ) → low' ≤ low → high ≤ high' → (b : ℕ × ℕ) → IsBridgeIn low high b → IsBridgeIn low' high' b
bridge_wider low high low' high' a z b h = record { up = h.up; from_low = omega (arith, a, h.from_low); to_high = omega (arith, z, h.to_high) }

cycle_wider : (low high low' high' : ℕ) → low' ≤ low → high ≤ high' → (c : List ℕ) → IsCycleIn low high c → IsCycleIn low' high' c
cycle_wider low high low' high' a z c h = record {
  long = h.long;
  rising = h.rising;
  below = all_weaker (λ i. i < high) (λ i. i < high') (λ i l. omega (arith, l, z)) c h.below;
  from_low = omega (arith, a, h.from_low);
  to_high = omega (arith, z, h.to_high);
}

-- one more number below
shaped_lower : (spared low high : ℕ) (j : Joins) → IsShaped spared (low + 1) high j → IsShaped (1 + spared) low high j
shaped_lower spared low high j h = record {
  bridges = all_weaker (IsBridgeIn (low + 1) high) (IsBridgeIn low high) (bridge_wider (low + 1) high low high (omega arith) (omega arith)) j.bridges h.bridges;
  cycles = all_weaker (IsCycleIn (low + 1) high) (IsCycleIn low high) (cycle_wider (low + 1) high low high (omega arith) (omega arith)) j.cycles h.cycles;
  bridges_rise = h.bridges_rise;
  cycles_rise = h.cycles_rise;
  count = omega (arith, h.count);
}

shaped_none : (k : ℕ) → IsShaped 0 k k no_joins
shaped_none k = record { bridges = tt; cycles = tt; bridges_rise = tt; cycles_rise = tt; count = omega arith }

shaped_beside : (s t low mid high : ℕ) (a b : Joins) → IsShaped s low mid a → IsShaped t mid high b → IsShaped (s + t) low high (beside a b)
shaped_beside s t low mid high a b g h =
    let lm : low ≤ mid = omega (arith, g.count) in
    let mh : mid ≤ high = omega (arith, h.count) in
    record {
      bridges = all_append (IsBridgeIn low high) a.bridges b.bridges
          (all_weaker (IsBridgeIn low mid) (IsBridgeIn low high) (bridge_wider low mid low high (omega arith) mh) a.bridges g.bridges)
          (all_weaker (IsBridgeIn mid high) (IsBridgeIn low high) (bridge_wider mid high low high lm (omega arith)) b.bridges h.bridges);
      cycles = all_append (IsCycleIn low high) a.cycles b.cycles
          (all_weaker (IsCycleIn low mid) (IsCycleIn low high) (cycle_wider low mid low high (omega arith) mh) a.cycles g.cycles)
          (all_weaker (IsCycleIn mid high) (IsCycleIn low high) (cycle_wider mid high low high lm (omega arith)) b.cycles h.cycles);
      bridges_rise = pairs_append bridge_order (IsBridgeIn low mid) (IsBridgeIn mid high) (λ x y p q. omega (arith, p.to_high, q.from_low)) a.bridges b.bridges g.bridges h.bridges g.bridges_rise h.bridges_rise;
      cycles_rise = pairs_append cycle_order (IsCycleIn low mid) (IsCycleIn mid high) (λ x y p q. omega (arith, p.to_high, q.from_low)) a.cycles b.cycles g.cycles h.cycles g.cycles_rise h.cycles_rise;
      count = omega (arith, g.count, h.count, length-append a.bridges b.bridges, sum_by-append (λ (c : List ℕ). length c - 1) a.cycles b.cycles);
    }

-- ---- a bridge
shaped_bridge : (up first high : ℕ) (j : Joins) → up < first → first < high → IsShaped 0 (first + 1) high j → IsShaped 0 first high (bridge_before (up, first) j)
shaped_bridge up first high j a z h = record {
  bridges = (record { up = a; from_low = omega arith; to_high = z }, all_weaker (IsBridgeIn (first + 1) high) (IsBridgeIn first high) (bridge_wider (first + 1) high first high (omega arith) (omega arith)) j.bridges h.bridges);
  cycles = all_weaker (IsCycleIn (first + 1) high) (IsCycleIn first high) (cycle_wider (first + 1) high first high (omega arith) (omega arith)) j.cycles h.cycles;
  bridges_rise = (all_weaker (IsBridgeIn (first + 1) high) (bridge_order (up, first)) (λ b q. omega (arith, q.from_low)) j.bridges h.bridges, h.bridges_rise);
  cycles_rise = h.cycles_rise;
  count = omega (arith, h.count);
}

-- ---- a cycle
shaped_cycle : (up first high spared : ℕ) (next : ℕ) (rest : List ℕ) (j : Joins) → (let c : List ℕ = up ∷ (first ∷ (next ∷ rest)) in
    up < first → IsPairwise (λ i k. i < k) c → AllByRecursion (λ i. i < high) c → spared + 1 ≡ length c - 1 → IsShaped spared (first + 1) high j → IsShaped 0 first high (cycle_before c j))
shaped_cycle up first high spared next rest j a rises fits same h =
    let c : List ℕ = up ∷ (first ∷ (next ∷ rest)) in
    record {
      bridges = all_weaker (IsBridgeIn (first + 1) high) (IsBridgeIn first high) (bridge_wider (first + 1) high first high (omega arith) (omega arith)) j.bridges h.bridges;
      cycles = (
        record { long = omega arith; rising = rises; below = fits; from_low = omega arith; to_high = fits.1.0 },
        all_weaker (IsCycleIn (first + 1) high) (IsCycleIn first high) (cycle_wider (first + 1) high first high (omega arith) (omega arith)) j.cycles h.cycles,
      );
      bridges_rise = h.bridges_rise;
      cycles_rise = (all_weaker (IsCycleIn (first + 1) high) (cycle_order c) (λ d q. omega (arith, q.from_low)) j.cycles h.cycles, h.cycles_rise);
      count = omega (arith, h.count, same, sum_by-cons (λ (d : List ℕ). length d - 1) c j.cycles);
    }

-- ---- the tree
abbrev wide : List ℕ → Type 0
wide = AllByRecursion (λ k. 2 ≤ k)

abbrev TreeShaped : Node → Type 0
TreeShaped x = wide (widths x) → (k : ℕ) → IsShaped 0 (k + 1) (k + (tree_joins x).size) ((tree_joins x).joins k)

abbrev BlockShaped : Block → Type 0
BlockShaped b = wide (block_widths b) → (up first : ℕ) → up < first → IsShaped 0 first (first + (block_joins b).size) ((block_joins b).joins up first)

blocks_shaped : (bs : List Block) → AllByRecursion BlockShaped bs → wide (joined (map block_widths bs)) → (up first : ℕ) → up < first →
    IsShaped 0 first (first + blocks_size (map block_joins bs)) (blocks_from up first (map block_joins bs))
blocks_shaped [] h w up first a = let e : first ≡ first + 0 = omega arith in subst (λ z. IsShaped 0 first z no_joins) e (shaped_none first)
blocks_shaped (b ∷ bs) h w up first a =
    let size = (block_joins b).size in
    let rest = map block_joins bs in
    let e : (first + size) + blocks_size rest ≡ first + (size + blocks_size rest) = omega arith in
    shaped_beside 0 0 first (first + size) (first + (size + blocks_size rest)) ((block_joins b).joins up first) (blocks_from up (first + size) rest)
    (h.0 (all_left (λ k. 2 ≤ k) (block_widths b) (joined (map block_widths bs)) w) up first a)
    (subst (λ z. IsShaped 0 (first + size) z (blocks_from up (first + size) rest)) e
    (blocks_shaped bs h.1 (all_right (λ k. 2 ≤ k) (block_widths b) (joined (map block_widths bs)) w) up (first + size) (omega (arith, a))))

node_shaped : (x : Node) → AllByRecursion BlockShaped (blocks x) → TreeShaped x
node_shaped x h w k =
    let bs = map block_joins (blocks x) in
    let e : (k + 1) + blocks_size bs ≡ k + (1 + blocks_size bs) = omega arith in
    subst (λ (t : TreeJoins). IsShaped 0 (k + 1) (k + t.size) (t.joins k)) (sym (joins_out x))
    (subst (λ z. IsShaped 0 (k + 1) z (blocks_from k (k + 1) bs)) e (blocks_shaped (blocks x) h (subst wide (widths_out x) w) k (k + 1) (omega arith)))

bridge_shaped : (child : Box Node Global) → TreeShaped child.value → BlockShaped (Bridge child)
bridge_shaped child h w up first a =
    let t = tree_joins child.value in
    let some : 0 < t.size = (tree_holds child.value).some in
    subst (λ (b : BlockJoins). IsShaped 0 first (first + b.size) (b.joins up first)) (sym (joins_bridge child))
    (shaped_bridge up first (first + t.size) (t.joins first) a (omega (arith, some)) (h (subst wide (widths_bridge child) w) first))

-- the trees of a cycle
abbrev trees : List Node → List TreeJoins
trees = map tree_joins

trees_shaped : (xs : List Node) → AllByRecursion TreeShaped xs → wide (joined (map widths xs)) → (k : ℕ) → IsShaped (length xs) k (k + trees_size (trees xs)) (trees_from k (trees xs))
trees_shaped [] h w k = let e : k ≡ k + 0 = omega arith in subst (λ z. IsShaped 0 k z no_joins) e (shaped_none k)
trees_shaped (x ∷ xs) h w k =
    let size = (tree_joins x).size in
    let e : (k + size) + trees_size (trees xs) ≡ k + (size + trees_size (trees xs)) = omega arith in
    let n : 1 + length xs ≡ length (x ∷ xs) = omega arith in
    subst (λ s. IsShaped s k (k + (size + trees_size (trees xs))) (trees_from k (trees (x ∷ xs)))) n
    (shaped_beside 1 (length xs) k (k + size) (k + (size + trees_size (trees xs))) ((tree_joins x).joins k) (trees_from (k + size) (trees xs))
    (shaped_lower 0 k (k + size) ((tree_joins x).joins k) (h.0 (all_left (λ i. 2 ≤ i) (widths x) (joined (map widths xs)) w) k))
    (subst (λ z. IsShaped (length xs) (k + size) z (trees_from (k + size) (trees xs))) e
    (trees_shaped xs h.1 (all_right (λ i. 2 ≤ i) (widths x) (joined (map widths xs)) w) (k + size))))

first_shaped : (x : Node) (xs : List Node) → AllByRecursion TreeShaped (x ∷ xs) → wide (joined (map widths (x ∷ xs))) → (k : ℕ) →
    IsShaped (length xs) (k + 1) (k + trees_size (trees (x ∷ xs))) (trees_from k (trees (x ∷ xs)))
first_shaped x xs h w k =
    let size = (tree_joins x).size in
    let e : (k + size) + trees_size (trees xs) ≡ k + (size + trees_size (trees xs)) = omega arith in
    let n : 0 + length xs ≡ length xs = omega arith in
    subst (λ s. IsShaped s (k + 1) (k + (size + trees_size (trees xs))) (trees_from k (trees (x ∷ xs)))) n
    (shaped_beside 0 (length xs) (k + 1) (k + size) (k + (size + trees_size (trees xs))) ((tree_joins x).joins k) (trees_from (k + size) (trees xs))
    (h.0 (all_left (λ i. 2 ≤ i) (widths x) (joined (map widths xs)) w) k)
    (subst (λ z. IsShaped (length xs) (k + size) z (trees_from (k + size) (trees xs))) e
    (trees_shaped xs h.1 (all_right (λ i. 2 ≤ i) (widths x) (joined (map widths xs)) w) (k + size))))

roots_in : (xs : List Node) (k : ℕ) → AllByRecursion (λ i. (k ≤ i) × (i < k + trees_size (trees xs))) (roots_from k (trees xs))
roots_in [] k = tt
roots_in (x ∷ xs) k =
    let some : 0 < (tree_joins x).size = (tree_holds x).some in
    let size = (tree_joins x).size in (
      (omega arith, omega (arith, some)),
      all_weaker (λ i. (k + size ≤ i) × (i < (k + size) + trees_size (trees xs))) (λ i. (k ≤ i) × (i < k + trees_size (trees (x ∷ xs)))) (λ i h. (omega (arith, h.0), omega (arith, h.1)))
          (roots_from (k + size) (trees xs)) (roots_in xs (k + size)),
    )

roots_rise : (xs : List Node) (k : ℕ) → IsPairwise (λ i j. i < j) (roots_from k (trees xs))
roots_rise [] k = tt
roots_rise (x ∷ xs) k =
    let some : 0 < (tree_joins x).size = (tree_holds x).some in
    let size = (tree_joins x).size in (
      all_weaker (λ i. (k + size ≤ i) × (i < (k + size) + trees_size (trees xs))) (λ i. k < i) (λ i h. omega (arith, some, h.0)) (roots_from (k + size) (trees xs)) (roots_in xs (k + size)),
      roots_rise xs (k + size),
    )

roots_length : (xs : List Node) (k : ℕ) → length (roots_from k (trees xs)) ≡ length xs
roots_length [] k = refl
roots_length (x ∷ xs) k = ap suc (roots_length xs (k + (tree_joins x).size))

ring_shaped : (xs : List Node) → AllByRecursion TreeShaped xs → 2 ≤ length (map widths xs) → wide (joined (map widths xs)) → (up first : ℕ) → up < first →
    IsShaped 0 first (first + trees_size (trees xs)) ((cycle_joins (trees xs)).joins up first)
ring_shaped [] h long w up first a = absurd (omega (arith, long))
ring_shaped (x ∷ []) h long w up first a = absurd (omega (arith, long))
ring_shaped (x ∷ (y ∷ ys)) h long w up first a =
    let xs : List Node = x ∷ (y ∷ ys) in
    let high = first + trees_size (trees xs) in
    let second = first + (tree_joins x).size in
    let rest = roots_from (second + (tree_joins y).size) (trees ys) in
    let inside : AllByRecursion (λ i. (first ≤ i) × (i < high)) (roots_from first (trees xs)) = roots_in xs first in
    shaped_cycle up first high (length (y ∷ ys)) second rest (trees_from first (trees xs)) a
    (all_weaker (λ i. (first ≤ i) × (i < high)) (λ i. up < i) (λ i k. omega (arith, a, k.0)) (roots_from first (trees xs)) inside, roots_rise xs first)
    (omega (arith, a, inside.0.1), all_weaker (λ i. (first ≤ i) × (i < high)) (λ i. i < high) (λ i k. k.1) (roots_from first (trees xs)) inside)
    (omega (arith, roots_length xs first))
    (first_shaped x (y ∷ ys) h w first)

cycle_shaped : (nodes : Children) → AllByRecursion TreeShaped (nodes_in nodes) → BlockShaped (Cycle nodes)
cycle_shaped nodes h w up first a =
    let xs = nodes_in nodes in
    let v : wide (length (map widths xs) ∷ joined (map widths xs)) = subst wide (widths_cycle nodes) w in
    subst (λ (b : BlockJoins). IsShaped 0 first (first + b.size) (b.joins up first)) (sym (joins_cycle nodes)) (ring_shaped xs h v.0 v.1 up first a)

tree_shaped : (x : Node) → TreeShaped x
tree_shaped = tree_induction TreeShaped BlockShaped node_shaped bridge_shaped cycle_shaped

-- ---- the laws
cycle_below : (low high : ℕ) (c : List ℕ) → IsCycleIn low high c → IsCycleBelow high c
cycle_below low high [] h = absurd (omega (arith, h.long))
cycle_below low high (x ∷ xs) h = record {
  long = h.long;
  below = All-from_recursion (λ i. i < high) (x ∷ xs) h.below;
  different = pairs_are (λ i j. i ≢ j) (x ∷ xs) (pairs_weaker (λ i j. i < j) (λ i j. i ≢ j) (λ i j l e. omega (arith, l, e)) (x ∷ xs) h.rising);
  first_least = All-from_recursion (λ i. x ≤ i) (x ∷ xs) (omega arith, all_weaker (λ i. x < i) (λ i. x ≤ i) (λ i l. omega (arith, l)) xs h.rising.0);
}

module _ (n : ℕ) (root : Node) (ok : IsCactus n root) where
  abbrev flat : Flat
  flat = flat_of record { vertices = n; root = root }

  abbrev size : ℕ
  size = (tree_joins root).size

  shaped : IsShaped 0 1 size (joins_of root)
  shaped =
      let e : 0 + size ≡ size = omega arith in
      subst (λ z. IsShaped 0 1 z (joins_of root)) e (tree_shaped root (recursion_from_All (λ k. 2 ≤ k) (widths root) ok.wide) 0)

  size_there : size ≡ length (entered root)
  size_there = sym (tree_holds root).size ∙ size_is root

  form : IsWellFormed flat
  form = record {
    ascending = ok.ascending;
    in_one_node = ok.in_one_node;
    first_has_one = subst (λ l. Contains (get_or l 0 []) 1) (sym (entered_out root)) ok.root_has_one;
    bridges = All-from_recursion (IsBridgeBelow (length (entered root))) flat.bridges
        (all_weaker (IsBridgeIn 1 size) (IsBridgeBelow (length (entered root))) (λ b h. (h.up, omega (arith, h.to_high, size_there))) flat.bridges shaped.bridges);
    cycles = All-from_recursion (IsCycleBelow (length (entered root))) flat.cycles
        (all_weaker (IsCycleIn 1 size) (IsCycleBelow (length (entered root))) (λ c h. subst (λ z. IsCycleBelow z c) size_there (cycle_below 1 size c h)) flat.cycles shaped.cycles);
    count = omega (arith, size_there, shaped.count);
    joined = λ i h set k e. ((tree_holds root).piece 0).linked.reached set k (e, tt) i (omega arith) (omega (arith, h, size_there));
  }

  order : IsInOrder flat
  order = record {
    bridges = pairs_are bridge_order flat.bridges shaped.bridges_rise;
    cycles = pairs_are cycle_order flat.cycles shaped.cycles_rise;
    along = All-from_recursion (AllPairs (λ i j. i < j)) flat.cycles (all_weaker (IsCycleIn 1 size) (AllPairs (λ i j. i < j)) (λ c h. pairs_are (λ i j. i < j) c h.rising) flat.cycles shaped.cycles);
  }

pub flat_form : LawOfFlatForm
flat_form n root ok = form n root ok

pub flat_order : LawOfFlatOrder
flat_order n root ok = order n root ok
