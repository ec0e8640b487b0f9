-- The equations of the number of the cuts of a tree.
use Rattle.std.proofs.Common.{◌≡◌, Bool, true, false, ◌&&◌, ◌==◌, Some, get_or, take, inl, inr, ℕ, zero, suc, ◌+◌, ◌-◌, ◌*◌, ◌<◌, ◌≤◌, List, [], ◌∷◌, ◌++◌, length, map, ap, ◌∙◌, sym, refl, arith, append-nil}
use Rattle.std.specs.Prelude.{slice_get, if◌then◌else◌, nat_lt, cond}
use Rattle.std.specs.List.{filter, flat_map, list_all}
use Rattle.std.proofs.lemmas.Bool.{and_parts, eqb-true, ltb-false, false≢true}
use Rattle.std.proofs.lemmas.Option.{get_or_from_slice_get, slice_get_within}
use Rattle.std.proofs.lemmas.List.{length-map, length-append, append_assoc, take_more}
use Rattle.std.proofs.lemmas.List.Concat.{flat_map-append}
use Rattle.std.proofs.lemmas.List.Elements.{filter-append}
use Rattle.std.specs.declared.boxed.Box.{Box}
use Rattle.std.specs.declared.alloc.Global.{Global}
use Rattle.std.proofs.Math.Bool.{and-true}
use Rattle.rooted_cactus.specs.Trees.{vertices, blocks, nodes_in}
use Rattle.rooted_cactus.specs.Entries.{nodes_of}
use Rattle.rooted_cactus.specs.declared.tree.Node.{Node, out-Node}
use Rattle.rooted_cactus.specs.declared.tree.Block.{Block}
use Rattle.rooted_cactus.specs.declared.tree.Children.{Children}
use Rattle.rooted_cactus.specs.declared.tree.Block.TheVariants.{Bridge, Cycle, rolls-Bridge, rolls-Cycle}
use Rattle.rooted_cactus.specs.declared.tree.Block.TheOpen as Open
use Rattle.rooted_cactus.specs.declared.tree.Block.TheFolds.{fold_out-Node, fold_out-Blocks, fold_out-Children, fold-roll-Block, fold-Block}
use Rattle.rooted_cactus.specs.Entered.{entered, entered_block}
use Rattle.rooted_cactus.proofs.Orders.{entered_out}
use Rattle.rooted_cactus.specs.Numbers.{Tally, number, tally, total, triangle, between, is_inner, all_own, all_under, own_of, number_of, tally_block_step, tally_blocks_step, tally_children_step, tally_node_step}
use Rattle.rooted_cactus.specs.Trims.{is_spare}
use Rattle.rooted_cactus.specs.Normal.{BlockShape, block_shape}
use Rattle.rooted_cactus.proofs.Shapes.{bridge_shape, cycle_shape}
use Rattle.rooted_cactus.proofs.Views.{view}
use Rattle.rooted_cactus.proofs.Walks.{by_nodes, entered_nodes}

pub number_out : (x : Node) → number x ≡ number_of (vertices x) (map tally (blocks x))
unfolding number tally
number_out x = fold_out-Node Tally (List Tally) (List ℕ) ℕ tally_block_step tally_blocks_step tally_children_step tally_node_step x
    ∙ ap (number_of (vertices x)) (fold_out-Blocks Tally (List Tally) (List ℕ) ℕ tally_block_step tally_blocks_step tally_children_step tally_node_step (out-Node x).blocks)

abbrev pub bridge_with : ℕ → Tally
bridge_with n = record { is_cycle = false; own = 1; under = n }

abbrev pub cycle_with : List ℕ → Tally
cycle_with ns = record { is_cycle = true; own = triangle (length ns); under = total ns }

pub tally_bridge : (child : Box Node Global) → tally (Bridge child) ≡ bridge_with (number child.value)
unfolding number tally
tally_bridge child = ap (fold-Block Tally (List Tally) (List ℕ) ℕ tally_block_step tally_blocks_step tally_children_step tally_node_step) (sym (rolls-Bridge child))
    ∙ fold-roll-Block Tally (List Tally) (List ℕ) ℕ tally_block_step tally_blocks_step tally_children_step tally_node_step (Open.Bridge child)

pub tally_cycle : (nodes : Children) → tally (Cycle nodes) ≡ cycle_with (map number (nodes_in nodes))
unfolding number tally
tally_cycle nodes = ap (fold-Block Tally (List Tally) (List ℕ) ℕ tally_block_step tally_blocks_step tally_children_step tally_node_step) (sym (rolls-Cycle nodes))
    ∙ fold-roll-Block Tally (List Tally) (List ℕ) ℕ tally_block_step tally_blocks_step tally_children_step tally_node_step (Open.Cycle nodes)
    ∙ ap cycle_with (fold_out-Children Tally (List Tally) (List ℕ) ℕ tally_block_step tally_blocks_step tally_children_step tally_node_step nodes)

pub cycle_own_is : (nodes : Children) → (tally (Cycle nodes)).own ≡ triangle (length (nodes_in nodes))
cycle_own_is nodes = ap (λ (t : Tally). t.own) (tally_cycle nodes) ∙ ap triangle (length-map (nodes_in nodes) number)

pub own_is : (b : Block) → (tally b).own ≡ triangle (length (nodes_of b))
own_is = by_nodes (λ b. (tally b).own) (λ xs. triangle (length xs)) (λ child. ap (λ (t : Tally). t.own) (tally_bridge child)) cycle_own_is

-- both folds tell which blocks are cycles
pub kind_is : (b : Block) → (block_shape b).is_cycle ≡ (tally b).is_cycle
kind_is b = elim (view b) [
  | inl h ↦ ap (λ c. (block_shape c).is_cycle) h.1 ∙ ap (λ (s : BlockShape). s.is_cycle) (bridge_shape h.0) ∙ sym (ap (λ (t : Tally). t.is_cycle) (ap tally h.1 ∙ tally_bridge h.0))
  | inr h ↦ ap (λ c. (block_shape c).is_cycle) h.1 ∙ ap (λ (s : BlockShape). s.is_cycle) (cycle_shape h.0) ∙ sym (ap (λ (t : Tally). t.is_cycle) (ap tally h.1 ∙ tally_cycle h.0))
]

-- ---- sums
pub total_append : (xs ys : List ℕ) → total (xs ++ ys) ≡ total xs + total ys
total_append [] ys = omega arith
total_append (x ∷ xs) ys = omega (arith, total_append xs ys)

abbrev pub all_numbers : List Node → ℕ
all_numbers xs = total (map number xs)

pub numbers_append : (xs ys : List Node) → all_numbers (xs ++ ys) ≡ all_numbers xs + all_numbers ys
numbers_append [] ys = omega arith
numbers_append (x ∷ xs) ys = omega (arith, numbers_append xs ys)

-- what is under a block are its nodes
pub under_is : (b : Block) → (tally b).under ≡ all_numbers (nodes_of b)
under_is = by_nodes (λ b. (tally b).under) all_numbers (λ child. ap (λ (t : Tally). t.under) (tally_bridge child) ∙ one_number child.value) (λ nodes. ap (λ (t : Tally). t.under) (tally_cycle nodes)) where
  one_number : (x : Node) → number x ≡ all_numbers (x ∷ [])
  one_number x = omega arith

pub all_under_is : (bs : List Block) → all_under (map tally bs) ≡ all_numbers (flat_map nodes_of bs)
all_under_is [] = refl
all_under_is (b ∷ bs) = omega (arith, under_is b, all_under_is bs, numbers_append (nodes_of b) (flat_map nodes_of bs))

-- twice the number of the intervals
pub triangle_twice : (m : ℕ) → m * (m + 1) ≡ triangle m + triangle m
triangle_twice zero = refl
triangle_twice (suc m) = grind (arith, triangle_twice m)

-- ---- one more block, one more node
pub part_step : (f : Tally → ℕ) (bs : List Block) (i : ℕ) (b : Block) → slice_get bs i ≡ Some b →
    (total (map f (map tally (take (suc i) bs))) ≡ total (map f (map tally (take i bs))) + f (tally b)) × (total (map f (map tally (take i bs))) + f (tally b) ≤ total (map f (map tally bs)))
part_step f [] i b a = absurd (omega (arith, slice_get_within [] i b a))
part_step f (d ∷ bs) zero b a =
    let same : f (tally d) ≡ f (tally b) = ap (λ c. f (tally c)) (get_or_from_slice_get (d ∷ bs) 0 b b a) in
    (omega (arith, same), omega (arith, same))
part_step f (d ∷ bs) (suc i) b a = let r = part_step f bs i b a in (omega (arith, r.0), omega (arith, r.1))

pub part_next : (f : Tally → ℕ) (bs : List Block) (i : ℕ) (b : Block) → slice_get bs i ≡ Some b → total (map f (map tally (take (i + 1) bs))) ≡ total (map f (map tally (take i bs))) + f (tally b)
part_next f bs i b a = let next : suc i ≡ i + 1 = omega arith in sym (ap (λ k. total (map f (map tally (take k bs)))) next) ∙ (part_step f bs i b a).0

pub node_step : (xs : List Node) (i : ℕ) (x : Node) → slice_get xs i ≡ Some x →
    (all_numbers (take (suc i) xs) ≡ all_numbers (take i xs) + number x) × (all_numbers (take i xs) + number x ≤ all_numbers xs)
node_step [] i x a = absurd (omega (arith, slice_get_within [] i x a))
node_step (y ∷ xs) zero x a =
    let same : number y ≡ number x = ap number (get_or_from_slice_get (y ∷ xs) 0 x x a) in
    (omega (arith, same), omega (arith, same))
node_step (y ∷ xs) (suc i) x a = let r = node_step xs i x a in (omega (arith, r.0), omega (arith, r.1))

pub node_next : (xs : List Node) (i : ℕ) (x : Node) → slice_get xs i ≡ Some x → all_numbers (take (i + 1) xs) ≡ all_numbers (take i xs) + number x
node_next xs i x a = let next : suc i ≡ i + 1 = omega arith in sym (ap (λ k. all_numbers (take k xs)) next) ∙ (node_step xs i x a).0

pub between_first : (vs : List ℕ) (bs : List Block) (b : Block) (r : Bool) → length vs ≡ 0 → length bs ≡ 1 → slice_get bs 0 ≡ Some b → r ≡ (tally b).is_cycle → r ≡ between vs (map tally bs)
between_first (v ∷ vs) bs b r e f a h = absurd (omega (arith, e))
between_first [] [] b r e f a h = absurd (omega (arith, f))
between_first [] (c ∷ (d ∷ bs)) b r e f a h = absurd (omega (arith, f))
between_first [] (c ∷ []) b r e f a h = h ∙ sym (ap (λ d. (tally d).is_cycle) (get_or_from_slice_get (c ∷ []) 0 b b a)) ∙ sym (and-true (tally c).is_cycle)

and_no : (a b c : Bool) → (a && b) ≡ false → (a && (b && c)) ≡ false
and_no false b c h = refl
and_no true false c h = refl
and_no true true c h = absurd (false≢true (sym h))

pub between_spare : (vs : List ℕ) (bs : List Block) (b : Block) (r : Bool) → is_spare vs bs ≡ true → slice_get bs 0 ≡ Some b → r ≡ (tally b).is_cycle → r ≡ between vs (map tally bs)
between_spare vs bs b r h = (let both = and_parts (length vs == 0) (length bs == 1) h in between_first vs bs b r (eqb-true (length vs) 0 both.0) (eqb-true (length bs) 1 both.1))

pub between_no : (vs : List ℕ) (bs : List Block) → is_spare vs bs ≡ false → between vs (map tally bs) ≡ false
between_no vs bs h =
    ap (λ k. (length vs == 0) && ((k == 1) && list_all (λ (t : Tally). t.is_cycle) (map tally bs))) (length-map bs tally)
    ∙ and_no (length vs == 0) (length bs == 1) (list_all (λ (t : Tally). t.is_cycle) (map tally bs)) h

-- one more node of a list, and one more block, of those that have a block below them
pub inner_node : (before after start xs : List Node) (i : ℕ) (x : Node) → after ≡ before ++ filter is_inner (x ∷ []) → i < length xs → x ≡ get_or xs i x → before ≡ start ++ filter is_inner (take i xs) → after ≡ start ++ filter is_inner (take (i + 1) xs)
inner_node before after start xs i x e within is h =
    let more : take (i + 1) xs ≡ take i xs ++ x ∷ [] = take_more xs i x within ∙ ap (λ y. take i xs ++ y ∷ []) (sym is) in
    e ∙ ap (λ l. l ++ filter is_inner (x ∷ [])) h ∙ append_assoc start (filter is_inner (take i xs)) (filter is_inner (x ∷ []))
    ∙ ap (λ l. start ++ l) (sym (ap (filter is_inner) more ∙ filter-append is_inner (take i xs) (x ∷ [])))

pub inner_block : (before after start : List Node) (bs : List Block) (i : ℕ) (b : Block) → after ≡ before ++ filter is_inner (nodes_of b) → slice_get bs i ≡ Some b → before ≡ start ++ filter is_inner (flat_map nodes_of (take i bs)) → after ≡ start ++ filter is_inner (flat_map nodes_of (take (i + 1) bs))
inner_block before after start bs i b e a h =
    let more : take (i + 1) bs ≡ take i bs ++ b ∷ [] = take_more bs i b (slice_get_within bs i b a) ∙ ap (λ y. take i bs ++ y ∷ []) (get_or_from_slice_get bs i b b a) in
    let both : flat_map nodes_of (take (i + 1) bs) ≡ flat_map nodes_of (take i bs) ++ nodes_of b =
    ap (flat_map nodes_of) more ∙ flat_map-append nodes_of (take i bs) (b ∷ []) ∙ ap (λ l. flat_map nodes_of (take i bs) ++ l) (append-nil (nodes_of b)) in
    e ∙ ap (λ l. l ++ filter is_inner (nodes_of b)) h ∙ append_assoc start (filter is_inner (flat_map nodes_of (take i bs))) (filter is_inner (nodes_of b))
    ∙ ap (λ l. start ++ l) (sym (ap (filter is_inner) both ∙ filter-append is_inner (flat_map nodes_of (take i bs)) (nodes_of b)))

-- ---- a node is taken off the stack, and the nodes below it are put there
less_one : (a : ℕ) (t : Bool) → a ≤ (a - (if t then 1 else 0)) + 1
less_one a true = omega arith
less_one a false = omega arith

pub own_small : (x : Node) → all_own (map tally (blocks x)) ≤ number x + 1
own_small x =
    let bs = map tally (blocks x) in
    omega (arith, number_out x, less_one (all_own bs) (between (vertices x) bs))

pub number_step : (x : Node) → number x ≡ own_of (vertices x) (map tally (blocks x)) + all_numbers (flat_map nodes_of (blocks x))
number_step x = number_out x ∙ ap (λ k. own_of (vertices x) (map tally (blocks x)) + k) (all_under_is (blocks x))

-- a node with no block below it has no cut
pub no_blocks : (x : Node) → is_inner x ≡ false → blocks x ≡ []
no_blocks x = none (blocks x) where
  none : (bs : List Block) → nat_lt 0 (length bs) ≡ false → bs ≡ []
  none [] h = refl
  none (b ∷ bs) h = absurd (omega (arith, ltb-false 0 (length (b ∷ bs)) h))

leaf_number : (x : Node) → is_inner x ≡ false → number x ≡ 0
leaf_number x h = number_step x ∙ ap (λ bs. own_of (vertices x) (map tally bs) + all_numbers (flat_map nodes_of bs)) (no_blocks x h) ∙ none (between (vertices x) []) where
  none : (t : Bool) → (0 - (if t then 1 else 0)) + 0 ≡ 0
  none true = refl
  none false = refl

inner_numbers : (xs : List Node) → all_numbers (filter is_inner xs) ≡ all_numbers xs
inner_numbers [] = refl
inner_numbers (x ∷ xs) = first (inner_numbers xs) (is_inner x) refl where
  first : all_numbers (filter is_inner xs) ≡ all_numbers xs → (t : Bool) → is_inner x ≡ t → all_numbers (cond t (x ∷ filter is_inner xs) (filter is_inner xs)) ≡ number x + all_numbers xs
  first rest true h = ap (λ k. number x + k) rest
  first rest false h = omega (arith, rest, leaf_number x h)

pub numbers_step : (left before after : List Node) (x : Node) → before ≡ left ++ x ∷ [] → after ≡ left ++ filter is_inner (flat_map nodes_of (blocks x)) → all_numbers before ≡ own_of (vertices x) (map tally (blocks x)) + all_numbers after
numbers_step left before after x b a =
    let one : all_numbers (x ∷ []) ≡ number x + 0 = refl in
    omega (arith, ap all_numbers b, ap all_numbers a, numbers_append left (x ∷ []), numbers_append left (filter is_inner (flat_map nodes_of (blocks x))), inner_numbers (flat_map nodes_of (blocks x)), number_step x, one)

-- what comes of one element is no longer than what comes of all
pub one_of_all : {X Y : Type 0} (f : X → List Y) (xs : List X) (i : ℕ) (x : X) → slice_get xs i ≡ Some x → length (f x) ≤ length (flat_map f xs)
one_of_all f [] i x a = absurd (omega (arith, slice_get_within [] i x a))
one_of_all f (y ∷ xs) zero x a = omega (arith, length-append (f y) (flat_map f xs), ap (λ z. length (f z)) (get_or_from_slice_get (y ∷ xs) 0 x x a))
one_of_all f (y ∷ xs) (suc i) x a = omega (arith, length-append (f y) (flat_map f xs), one_of_all f xs i x a)

-- how many nodes are still to be entered
abbrev pub nodes_to_come : List Node → ℕ
nodes_to_come xs = length (flat_map entered xs)

come_append : (xs ys : List Node) → nodes_to_come (xs ++ ys) ≡ nodes_to_come xs + nodes_to_come ys
come_append xs ys = ap length (flat_map-append entered xs ys) ∙ length-append (flat_map entered xs) (flat_map entered ys)

come_block : (b : Block) → nodes_to_come (nodes_of b) ≡ length (entered_block b)
come_block b = ap length (sym (entered_nodes b))

come_blocks : (bs : List Block) → nodes_to_come (flat_map nodes_of bs) ≡ length (flat_map entered_block bs)
come_blocks [] = refl
come_blocks (b ∷ bs) = omega (arith, come_block b, come_blocks bs, come_append (nodes_of b) (flat_map nodes_of bs), length-append (entered_block b) (flat_map entered_block bs))

pub fewer_seen : (left before after : List Node) (x : Node) → before ≡ left ++ x ∷ [] → after ≡ left ++ flat_map nodes_of (blocks x) → nodes_to_come after < nodes_to_come before
fewer_seen left before after x b a =
    let one : nodes_to_come (x ∷ []) ≡ length (entered x) = ap length (append-nil (entered x)) in
    let size : length (entered x) ≡ length (flat_map entered_block (blocks x)) + 1 = omega (arith, ap length (entered_out x)) in
    omega (arith, ap nodes_to_come b, ap nodes_to_come a, come_append left (x ∷ []), come_append left (flat_map nodes_of (blocks x)), come_blocks (blocks x), one, size)

inner_come : (xs : List Node) → nodes_to_come (filter is_inner xs) ≤ nodes_to_come xs
inner_come [] = omega arith
inner_come (x ∷ xs) = first (inner_come xs) (is_inner x) where
  first : nodes_to_come (filter is_inner xs) ≤ nodes_to_come xs → (t : Bool) → nodes_to_come (cond t (x ∷ filter is_inner xs) (filter is_inner xs)) ≤ nodes_to_come (x ∷ xs)
  first rest true = omega (arith, rest, come_append (x ∷ []) (filter is_inner xs), come_append (x ∷ []) xs)
  first rest false = omega (arith, rest, come_append (x ∷ []) xs)

pub fewer_inner : (left before after : List Node) (x : Node) → before ≡ left ++ x ∷ [] → after ≡ left ++ filter is_inner (flat_map nodes_of (blocks x)) → nodes_to_come after < nodes_to_come before
fewer_inner left before after x b a =
    let below = flat_map nodes_of (blocks x) in
    omega (arith, fewer_seen left before (left ++ below) x b refl, ap nodes_to_come a, come_append left (filter is_inner below), come_append left below, inner_come below)

pub top_own : (left before : List Node) (x : Node) → before ≡ left ++ x ∷ [] → (all_own (map tally (blocks x)) ≤ all_numbers before + 1) × (own_of (vertices x) (map tally (blocks x)) ≤ all_numbers before)
top_own left before x b =
    let one : all_numbers (x ∷ []) ≡ number x + 0 = refl in
    (omega (arith, own_small x, ap all_numbers b, numbers_append left (x ∷ []), one), omega (arith, number_step x, ap all_numbers b, numbers_append left (x ∷ []), one))

-- a cycle with a child has an interval
pub triangle_some : (m : ℕ) → 1 ≤ m → 1 ≤ triangle m
triangle_some zero h = absurd (omega (arith, h))
triangle_some (suc m) h = omega arith
