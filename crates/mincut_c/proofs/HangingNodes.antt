-- In the flat cactus of a tree each node but the root hangs once.
use Rattle.std.proofs.Common.{◌≡◌, ℕ, true, zero, suc, ◌+◌, ◌-◌, ◌<◌, List, [], ◌∷◌, ◌++◌, length, map, drop, refl, sym, ◌∙◌, ap, subst, append_assoc, arith}
use Rattle.std.specs.List.{AllByRecursion, flat_map, range_with_len}
use Rattle.std.specs.List.Sorted.{IsPermutation}
use Rattle.std.specs.declared.boxed.Box.{Box}
use Rattle.std.specs.declared.alloc.Global.{Global}
use Rattle.std.proofs.lemmas.Grind.{flat_map-append}
use Rattle.std.proofs.lemmas.List.{map-append}
use Rattle.std.proofs.lemmas.List.Sorted.{IsPermutation-append, IsPermutation-append_comm, IsPermutation-append_left, IsPermutation-append_right, IsPermutation-cons, IsPermutation-refl, IsPermutation-trans}
use Rattle.rooted_cactus.specs.Trees.{blocks, nodes_in}
use Rattle.rooted_cactus.specs.declared.tree.Node.{Node}
use Rattle.rooted_cactus.specs.declared.tree.Block.{Block}
use Rattle.rooted_cactus.specs.declared.tree.Children.{Children}
use Rattle.rooted_cactus.specs.declared.tree.Block.TheVariants.{Bridge, Cycle}
use Rattle.rooted_cactus.specs.Entered.{entered}
use Rattle.rooted_cactus.specs.Rooted.{IsCactus, Rooted}
use Rattle.rooted_cactus.proofs.CutRanges.{size_is}
use Rattle.rooted_cactus.proofs.Induction.{tree_induction}
use Rattle.canonical_cactus.specs.Canonical.{is_canonical}
use Rattle.flat_cactus.specs.Flat.{Flat}
use Rattle.flat_cactus.specs.FlatLaws.{LawOfFlatOrder}
use Rattle.flat_cactus.specs.Flattened.{BlockJoins, Joins, TreeJoins, beside, block_joins, blocks_from, blocks_size, bridge_before, cycle_before, flat_of, joins_of, roots_from, tree_joins, trees_from, trees_size}
use Rattle.flat_cactus.proofs.JoinsOut.{joins_bridge, joins_cycle, joins_out}
use Rattle.flat_cactus.proofs.TreePieces.{tree_holds}
use Rattle.mincut_c.specs.Shown.{IsCanonicalFlat}

-- ---- runs of numbers, and lists in another order

run_beside : (a m n s : ℕ) → s ≡ m + n → range_with_len a s ≡ range_with_len a m ++ range_with_len (a + m) n
run_beside a zero n s e =
    let same : s ≡ n = omega (arith, e) in
    let at : a ≡ a + 0 = omega arith in
    ap (range_with_len a) same ∙ ap (λ (k : ℕ). range_with_len k n) at
run_beside a (suc m) n zero e = absurd (omega (arith, e))
run_beside a (suc m) n (suc s) e =
    let less : s ≡ m + n = omega (arith, e) in
    let at : a + 1 + m ≡ a + suc m = omega arith in
    ap (λ (l : List ℕ). a ∷ l) (run_beside (a + 1) m n s less ∙ ap (λ (k : ℕ). range_with_len (a + 1) m ++ range_with_len k n) at)

run_first : (a s : ℕ) → 0 < s → range_with_len a s ≡ a ∷ range_with_len (a + 1) (s - 1)
run_first a zero some = absurd (omega (arith, some))
run_first a (suc s) some =
    let same : s ≡ suc s - 1 = omega arith in
    ap (λ (l : List ℕ). a ∷ l) (ap (range_with_len (a + 1)) same)

-- the second and the third of four change places
four : (p q r s : List ℕ) → IsPermutation ((p ++ q) ++ (r ++ s)) ((p ++ r) ++ (q ++ s))
four p q r s =
    let whole : (x y : List ℕ) → (p ++ x) ++ (y ++ s) ≡ p ++ ((x ++ y) ++ s) = λ x y. append_assoc p x (y ++ s) ∙ ap (λ (l : List ℕ). p ++ l) (sym (append_assoc x y s)) in
    subst (λ (l : List ℕ). IsPermutation l ((p ++ r) ++ (q ++ s))) (sym (whole q r))
    (subst (IsPermutation (p ++ ((q ++ r) ++ s))) (sym (whole r q))
    (IsPermutation-append_right p ((q ++ r) ++ s) ((r ++ q) ++ s) (IsPermutation-append_left s (q ++ r) (r ++ q) (IsPermutation-append_comm q r))))

-- ---- what hangs in some joins

abbrev ends : Joins → List ℕ
ends j = map (λ (b : ℕ × ℕ). b.1) j.bridges ++ flat_map (drop 1) j.cycles

ends_beside : (xs ys : List ℕ) (a b : Joins) → IsPermutation xs (ends a) → IsPermutation ys (ends b) → IsPermutation (xs ++ ys) (ends (beside a b))
ends_beside xs ys a b g h =
    let lower : List (ℕ × ℕ) → List ℕ = map (λ (e : ℕ × ℕ). e.1) in
    let later : List (List ℕ) → List ℕ = flat_map (drop 1) in
    let is : (lower a.bridges ++ lower b.bridges) ++ (later a.cycles ++ later b.cycles) ≡ ends (beside a b) =
    ap (λ (l : List ℕ). l ++ (later a.cycles ++ later b.cycles)) (sym (map-append (λ (e : ℕ × ℕ). e.1) a.bridges b.bridges))
    ∙ ap (λ (l : List ℕ). lower (a.bridges ++ b.bridges) ++ l) (sym (flat_map-append (drop 1) a.cycles b.cycles)) in
    subst (IsPermutation (xs ++ ys)) is
    (IsPermutation-trans _ _ _ (IsPermutation-append xs (ends a) ys (ends b) g h) (four (lower a.bridges) (later a.cycles) (lower b.bridges) (later b.cycles)))

ends_cycle : (up : ℕ) (roots xs : List ℕ) (j : Joins) → IsPermutation xs (roots ++ ends j) → IsPermutation xs (ends (cycle_before (up ∷ roots) j))
ends_cycle up roots xs j h =
    let lower = map (λ (e : ℕ × ℕ). e.1) j.bridges in
    IsPermutation-trans _ _ _ h (four [] roots lower (flat_map (drop 1) j.cycles))

-- ---- the tree

abbrev TreeHangs : Node → Type 0
TreeHangs x = (k : ℕ) → IsPermutation (range_with_len (k + 1) ((tree_joins x).size - 1)) (ends ((tree_joins x).joins k))

abbrev BlockHangs : Block → Type 0
BlockHangs b = (up first : ℕ) → IsPermutation (range_with_len first (block_joins b).size) (ends ((block_joins b).joins up first))

some_node : (x : Node) → 0 < (tree_joins x).size
some_node x = (tree_holds x).some

blocks_hang : (bs : List Block) → AllByRecursion BlockHangs bs → (up first : ℕ) → IsPermutation (range_with_len first (blocks_size (map block_joins bs))) (ends (blocks_from up first (map block_joins bs)))
blocks_hang [] h up first = IsPermutation-refl []
blocks_hang (b ∷ bs) h up first =
    let size = (block_joins b).size in
    let rest = map block_joins bs in
    subst (λ (l : List ℕ). IsPermutation l (ends (blocks_from up first (map block_joins (b ∷ bs))))) (sym (run_beside first size (blocks_size rest) (size + blocks_size rest) refl))
    (ends_beside (range_with_len first size) (range_with_len (first + size) (blocks_size rest)) ((block_joins b).joins up first) (blocks_from up (first + size) rest) (h.0 up first) (blocks_hang bs h.1 up (first + size)))

node_hangs : (x : Node) → AllByRecursion BlockHangs (blocks x) → TreeHangs x
node_hangs x h k =
    let bs = map block_joins (blocks x) in
    let same : blocks_size bs ≡ 1 + blocks_size bs - 1 = omega arith in
    subst (λ (t : TreeJoins). IsPermutation (range_with_len (k + 1) (t.size - 1)) (ends (t.joins k))) (sym (joins_out x))
    (subst (λ (s : ℕ). IsPermutation (range_with_len (k + 1) s) (ends (blocks_from k (k + 1) bs))) same (blocks_hang (blocks x) h k (k + 1)))

bridge_hangs : (child : Box Node Global) → TreeHangs child.value → BlockHangs (Bridge child)
bridge_hangs child h up first =
    let t = tree_joins child.value in
    subst (λ (b : BlockJoins). IsPermutation (range_with_len first b.size) (ends (b.joins up first))) (sym (joins_bridge child))
    (subst (λ (l : List ℕ). IsPermutation l (ends (bridge_before (up, first) (t.joins first)))) (sym (run_first first t.size (some_node child.value)))
    (IsPermutation-cons first (range_with_len (first + 1) (t.size - 1)) (ends (t.joins first)) (h first)))

abbrev trees : List Node → List TreeJoins
trees = map tree_joins

trees_hang : (xs : List Node) → AllByRecursion TreeHangs xs → (k : ℕ) → IsPermutation (range_with_len k (trees_size (trees xs))) (roots_from k (trees xs) ++ ends (trees_from k (trees xs)))
trees_hang [] h k = IsPermutation-refl []
trees_hang (x ∷ xs) h k =
    let t = tree_joins x in
    let rest = trees xs in
    let roots = roots_from (k + t.size) rest in
    let below = trees_from (k + t.size) rest in
    let run : range_with_len k (t.size + trees_size rest) ≡ (k ∷ range_with_len (k + 1) (t.size - 1)) ++ range_with_len (k + t.size) (trees_size rest) =
    run_beside k t.size (trees_size rest) (t.size + trees_size rest) refl ∙ ap (λ (l : List ℕ). l ++ range_with_len (k + t.size) (trees_size rest)) (run_first k t.size (some_node x)) in
    subst (λ (l : List ℕ). IsPermutation l ((k ∷ roots) ++ ends (beside (t.joins k) below))) (sym run)
    (IsPermutation-trans _ _ _
    (IsPermutation-append (k ∷ range_with_len (k + 1) (t.size - 1)) (k ∷ ends (t.joins k)) (range_with_len (k + t.size) (trees_size rest)) (roots ++ ends below)
    (IsPermutation-cons k (range_with_len (k + 1) (t.size - 1)) (ends (t.joins k)) (h.0 k)) (trees_hang xs h.1 (k + t.size)))
    (IsPermutation-trans _ _ _
    (four (k ∷ []) (ends (t.joins k)) roots (ends below))
    (IsPermutation-append_right (k ∷ roots) (ends (t.joins k) ++ ends below) (ends (beside (t.joins k) below))
    (ends_beside (ends (t.joins k)) (ends below) (t.joins k) below (IsPermutation-refl (ends (t.joins k))) (IsPermutation-refl (ends below))))))

cycle_hangs : (nodes : Children) → AllByRecursion TreeHangs (nodes_in nodes) → BlockHangs (Cycle nodes)
cycle_hangs nodes h up first =
    let ts = trees (nodes_in nodes) in
    subst (λ (b : BlockJoins). IsPermutation (range_with_len first b.size) (ends (b.joins up first))) (sym (joins_cycle nodes))
    (ends_cycle up (roots_from first ts) (range_with_len first (trees_size ts)) (trees_from first ts) (trees_hang (nodes_in nodes) h first))

tree_hangs : (x : Node) → TreeHangs x
tree_hangs = tree_induction TreeHangs BlockHangs node_hangs bridge_hangs cycle_hangs

-- the flat cactus of a canonical cactus
pub canonical_flat : (c : Rooted) (flat : Flat) → LawOfFlatOrder → IsCactus c.vertices c.root → is_canonical c.root ≡ true → flat ≡ flat_of c → IsCanonicalFlat flat
canonical_flat c flat order is canonical e =
    let size : (tree_joins c.root).size ≡ length (entered c.root) = sym (tree_holds c.root).size ∙ size_is c.root in
    rw e (record {
      rooted = c;
      is_cactus = is;
      canonical = canonical;
      entered = refl;
      each_once = subst (λ (k : ℕ). IsPermutation (range_with_len 1 (k - 1)) (ends (joins_of c.root))) size (tree_hangs c.root 0);
      in_order = order c.vertices c.root is;
    })
