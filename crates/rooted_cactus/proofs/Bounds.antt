-- The number of the cuts of a cactus is small.
use Rattle.std.proofs.Common.{◌≡◌, ℕ, zero, suc, ◌+◌, ◌-◌, ◌*◌, ◌^◌, ◌≤◌, ◌<◌, Bool, true, false, List, [], ◌∷◌, ◌++◌, length, map, ap, ◌∙◌, refl, arith}
use Rattle.std.specs.Prelude.{if◌then◌else◌}
use Rattle.std.specs.List.{AllByRecursion, flat_map}
use Rattle.std.specs.declared.boxed.Box.{Box}
use Rattle.std.specs.declared.alloc.Global.{Global}
use Rattle.std.proofs.lemmas.List.{length-append, length-map}
use Rattle.rooted_cactus.specs.Entered.{entered, entered_block}
use Rattle.rooted_cactus.specs.Rooted.{IsCactus}
use Rattle.rooted_cactus.specs.Normal.{is_normal}
use Rattle.rooted_cactus.specs.Trees.{vertices, blocks, nodes_in}
use Rattle.rooted_cactus.specs.declared.tree.Node.{Node}
use Rattle.rooted_cactus.specs.declared.tree.Block.{Block}
use Rattle.rooted_cactus.specs.declared.tree.Children.{Children}
use Rattle.rooted_cactus.specs.declared.tree.Block.TheVariants.{Bridge, Cycle}
use Rattle.rooted_cactus.proofs.Orders.{entered_out, entered_bridge, entered_cycle}
use Rattle.rooted_cactus.specs.Numbers.{Tally, number, tally, triangle, between, all_own, all_under}
use Rattle.rooted_cactus.proofs.Views.{block_induction, each}
use Rattle.rooted_cactus.proofs.Tallies.{number_out, tally_bridge, tally_cycle, all_numbers}
use Rattle.rooted_cactus.proofs.Few.{few_nodes}

tri_at : (a b : ℕ) → a ≡ b → triangle a ≡ triangle b
tri_at a b e = ap triangle e

tri_more : (a b c : ℕ) → c ≡ a + b → triangle (suc a) + triangle b + b ≤ triangle (suc c)
tri_more zero b c e = omega (arith, e, tri_at c b (omega (arith, e)))
tri_more (suc a) b zero e = absurd (omega (arith, e))
tri_more (suc a) b (suc c) e = omega (arith, tri_more a b c (omega (arith, e)), e)

tri_sum : (a b c : ℕ) → c ≡ a + b → triangle a + triangle b ≤ triangle c
tri_sum zero b c e = omega (arith, e, tri_at c b (omega (arith, e)))
tri_sum (suc a) b zero e = absurd (omega (arith, e))
tri_sum (suc a) b (suc c) e = omega (arith, tri_more a b c (omega (arith, e)))

tri_bound : (m c : ℕ) → m ≤ c → triangle m ≤ m * c
tri_bound zero c h = omega arith
tri_bound (suc m) c h =
    let next : suc m * c ≡ c + m * c = grind arith in
    omega (arith, tri_bound m c (omega (arith, h)), h, next)

abbrev NodeSmall : Node → Type 0
NodeSmall x = number x ≤ triangle (length (flat_map entered_block (blocks x)))

abbrev BlockSmall : Block → Type 0
BlockSmall b = (tally b).own + (tally b).under ≤ triangle (length (entered_block b))

blocks_small : (bs : List Block) → AllByRecursion BlockSmall bs → all_own (map tally bs) + all_under (map tally bs) ≤ triangle (length (flat_map entered_block bs))
blocks_small [] h = omega arith
blocks_small (b ∷ bs) h =
    let here = length (entered_block b) in
    let rest = length (flat_map entered_block bs) in
    omega (arith, h.0, blocks_small bs h.1, tri_sum here rest (length (entered_block b ++ flat_map entered_block bs)) (length-append (entered_block b) (flat_map entered_block bs)))

less : (a : ℕ) (t : Bool) → a - (if t then 1 else 0) ≤ a
less a true = omega arith
less a false = omega arith

node_small : (x : Node) → AllByRecursion BlockSmall (blocks x) → NodeSmall x
node_small x h =
    let bs = map tally (blocks x) in
    omega (arith, number_out x, blocks_small (blocks x) h, less (all_own bs) (between (vertices x) bs))

bridge_small : (child : Box Node Global) → NodeSmall child.value → BlockSmall (Bridge child)
bridge_small child h =
    let x = child.value in
    let k = length (flat_map entered_block (blocks x)) in
    let size : length (entered_block (Bridge child)) ≡ suc k = ap length (entered_bridge child ∙ entered_out x) in
    omega (arith, h, tri_at (length (entered_block (Bridge child))) (suc k) size, ap (λ (t : Tally). t.own) (tally_bridge child), ap (λ (t : Tally). t.under) (tally_bridge child))

nodes_small : (xs : List Node) → AllByRecursion NodeSmall xs → (triangle (length xs) + all_numbers xs ≤ triangle (length (flat_map entered xs))) × (length xs ≤ length (flat_map entered xs))
nodes_small [] h = (omega arith, omega arith)
nodes_small (x ∷ xs) h =
    let k = length (flat_map entered_block (blocks x)) in
    let rest = length (flat_map entered xs) in
    let r = nodes_small xs h.1 in
    let size : length (entered x) ≡ suc k = ap length (entered_out x) in
    let whole : length (flat_map entered (x ∷ xs)) ≡ suc (k + rest) = omega (arith, length-append (entered x) (flat_map entered xs), size) in
    (omega (arith, h.0, r.0, r.1, tri_more k rest (k + rest) refl, tri_at (length (flat_map entered (x ∷ xs))) (suc (k + rest)) whole), omega (arith, r.1, whole))

cycle_small : (nodes : Children) → AllByRecursion NodeSmall (nodes_in nodes) → BlockSmall (Cycle nodes)
cycle_small nodes h =
    let xs = nodes_in nodes in
    omega (
      arith,
      (nodes_small xs h).0,
      ap length (entered_cycle nodes),
      tri_at (length (entered_block (Cycle nodes))) (length (flat_map entered xs)) (ap length (entered_cycle nodes)),
      ap (λ (t : Tally). t.own) (tally_cycle nodes),
      ap (λ (t : Tally). t.under) (tally_cycle nodes),
      tri_at (length (map number xs)) (length xs) (length-map xs number),
    )

blocks_all : (bs : List Block) → all_own (map tally bs) + all_under (map tally bs) ≤ triangle (length (flat_map entered_block bs))
blocks_all bs = blocks_small bs (each BlockSmall (block_induction NodeSmall BlockSmall node_small bridge_small cycle_small) bs)

few_below : (n : ℕ) (root : Node) → IsCactus n root → is_normal root ≡ true → (bs : List Block) → blocks root ≡ bs → length (flat_map entered_block bs) ≤ 2 * n
few_below n root h normal [] e = omega arith
few_below n root h normal (b ∷ bs) e =
    let size : length (entered root) ≡ suc (length (flat_map entered_block (b ∷ bs))) = ap length (entered_out root) ∙ ap (λ cs. suc (length (flat_map entered_block cs))) e in
    omega (arith, size, few_nodes n root h normal (omega (arith, ap length e)))

-- a normal cactus over few vertices
pub number_small : (n : ℕ) (root : Node) → IsCactus n root → is_normal root ≡ true → n ≤ 4194304 → number root < 2 ^ 62
number_small n root h normal few =
    let bs = blocks root in
    let k = length (flat_map entered_block bs) in
    let ts = map tally bs in
    let long : k ≤ 2 * n = few_below n root h normal bs refl in
    omega (arith, number_out root, blocks_all bs, less (all_own ts) (between (vertices root) ts), tri_bound k 8388608 (omega (arith, long, few)), long, few)
