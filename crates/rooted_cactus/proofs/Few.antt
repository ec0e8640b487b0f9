-- A normal cactus has few nodes.
use Rattle.std.proofs.Common.{◌≡◌, ℕ, ◌+◌, ◌*◌, ◌≤◌, inl, inr, true, List, [], ◌∷◌, ◌++◌, length, ap, ◌∙◌, sym, arith, append-nil}
use Rattle.std.specs.List.{AllByRecursion, concat, flat_map, list_all}
use Rattle.std.specs.declared.boxed.Box.{Box}
use Rattle.std.specs.declared.alloc.Global.{Global}
use Rattle.std.proofs.lemmas.Bool.{and_parts}
use Rattle.std.proofs.lemmas.List.{length-append}
use Rattle.std.proofs.lemmas.List.Folds.{concat-append}
use Rattle.cut_definitions.proofs.Ascending.{length-has, contains_has}
use Rattle.rooted_cactus.specs.Entered.{entered, entered_block}
use Rattle.rooted_cactus.specs.Entries.{nodes_of}
use Rattle.rooted_cactus.specs.Normal.{shape, block_shape, child_fine}
use Rattle.rooted_cactus.specs.Trees.{vertices, blocks, nodes_in}
use Rattle.rooted_cactus.specs.declared.tree.Node.{Node}
use Rattle.rooted_cactus.specs.declared.tree.Block.{Block}
use Rattle.rooted_cactus.specs.declared.tree.Children.{Children}
use Rattle.rooted_cactus.specs.declared.tree.Block.TheVariants.{Bridge, Cycle}
use Rattle.rooted_cactus.proofs.Orders.{entered_out, entered_bridge, entered_cycle}
use Rattle.rooted_cactus.proofs.Entries.{nodes_bridge, nodes_cycle}
use Rattle.rooted_cactus.proofs.Masses.{vertices_length}
use Rattle.rooted_cactus.specs.NormalLaws.{LawOfFewNodes}
use Rattle.rooted_cactus.proofs.Views.{block_induction, each}
use Rattle.rooted_cactus.proofs.Fits.{IsPlaced, child_splits, placed_below, solid_below, bridge_child_fine, cycle_children_fine, root_fine}

-- the number of the vertices of several lists
abbrev mass : List (List ℕ) → ℕ
mass ls = length (concat ls)

mass_both : (ls ms : List (List ℕ)) → mass (ls ++ ms) ≡ mass ls + mass ms
mass_both ls ms = ap length (concat-append ls ms) ∙ length-append (concat ls) (concat ms)

abbrev NodeFew : Node → Type 0
NodeFew x = IsPlaced x → list_all (λ b. (block_shape b).fine) (blocks x) ≡ true → length (entered x) + 1 ≤ 2 * mass (entered x)

abbrev BlockFew : Block → Type 0
BlockFew b = (block_shape b).fine ≡ true → (length (entered_block b) + length (nodes_of b) ≤ 2 * mass (entered_block b)) × (1 ≤ length (nodes_of b))

blocks_few : (bs : List Block) → AllByRecursion BlockFew bs → list_all (λ b. (block_shape b).fine) bs ≡ true →
    (length (flat_map entered_block bs) + length (flat_map nodes_of bs) ≤ 2 * mass (flat_map entered_block bs)) × (length bs ≤ length (flat_map nodes_of bs))
blocks_few [] h f = (omega arith, omega arith)
blocks_few (b ∷ bs) h f =
    let both = and_parts (block_shape b).fine (list_all (λ c. (block_shape c).fine) bs) f in
    let one = h.0 both.0 in
    let rest = blocks_few bs h.1 both.1 in (
      omega (arith, one.0, rest.0, length-append (entered_block b) (flat_map entered_block bs), length-append (nodes_of b) (flat_map nodes_of bs), mass_both (entered_block b) (flat_map entered_block bs)),
      omega (arith, one.1, rest.1, length-append (nodes_of b) (flat_map nodes_of bs)),
    )

nodes_few : (xs : List Node) → AllByRecursion NodeFew xs → list_all (λ x. child_fine true (shape x)) xs ≡ true → length (flat_map entered xs) + length xs ≤ 2 * mass (flat_map entered xs)
nodes_few [] h f = omega arith
nodes_few (x ∷ xs) h f =
    let both = and_parts (child_fine true (shape x)) (list_all (λ y. child_fine true (shape y)) xs) f in
    let one = h.0 (placed_below x both.0) (child_splits true x both.0).1 in
    omega (arith, one, nodes_few xs h.1 both.1, length-append (entered x) (flat_map entered xs), mass_both (entered x) (flat_map entered xs))

node_case : (x : Node) → AllByRecursion BlockFew (blocks x) → NodeFew x
node_case x h placed fine =
    let bs = blocks x in
    let below = flat_map entered_block bs in
    let few = blocks_few bs h fine in
    let size : length (entered x) ≡ length below + 1 = omega (arith, ap length (entered_out x)) in
    let all : mass (entered x) ≡ length (vertices x) + mass below = ap mass (entered_out x) ∙ length-append (vertices x) (concat below) in
    elim placed [
      | inl s ↦ elim s [
        | inl w ↦ omega (arith, few.0, size, all, length-has (vertices x) w.0 w.1)
        | inr k ↦ omega (arith, few.0, few.1, size, all, k)
      ]
      | inr c ↦ (
          let wide = cycle_children_fine c.0 (and_parts (block_shape (Cycle c.0)).fine true (sym (ap (list_all (λ b. (block_shape b).fine)) c.1) ∙ fine)).0 in
          let kids : length (flat_map nodes_of bs) ≡ length (nodes_in c.0) = ap (λ cs. length (flat_map nodes_of cs)) c.1 ∙ ap length (append-nil (nodes_of (Cycle c.0)) ∙ nodes_cycle c.0) in
          omega (arith, few.0, size, all, wide.1, kids))
    ]

bridge_case : (child : Box Node Global) → NodeFew child.value → BlockFew (Bridge child)
bridge_case child h fine =
    let x = child.value in
    let s = solid_below x (bridge_child_fine child fine) in
    let one : length (nodes_of (Bridge child)) ≡ 1 = ap length (nodes_bridge child) in
    let size : length (entered_block (Bridge child)) ≡ length (entered x) = ap length (entered_bridge child) in
    let all : mass (entered_block (Bridge child)) ≡ mass (entered x) = ap mass (entered_bridge child) in
    (omega (arith, h (inl s.0) s.1, one, size, all), omega (arith, one))

cycle_case : (nodes : Children) → AllByRecursion NodeFew (nodes_in nodes) → BlockFew (Cycle nodes)
cycle_case nodes h fine =
    let xs = nodes_in nodes in
    let f = cycle_children_fine nodes fine in
    let kids : length (nodes_of (Cycle nodes)) ≡ length xs = ap length (nodes_cycle nodes) in
    let size : length (entered_block (Cycle nodes)) ≡ length (flat_map entered xs) = ap length (entered_cycle nodes) in
    let all : mass (entered_block (Cycle nodes)) ≡ mass (flat_map entered xs) = ap mass (entered_cycle nodes) in
    (omega (arith, nodes_few xs h f.0, kids, size, all), omega (arith, f.1, kids))

pub block_few : (b : Block) → BlockFew b
block_few = block_induction NodeFew BlockFew node_case bridge_case cycle_case

pub few_nodes : LawOfFewNodes
few_nodes n root h normal some =
    let bs = blocks root in
    let below = flat_map entered_block bs in
    let few = blocks_few bs (each BlockFew block_few bs) (root_fine n root h normal) in
    let size : length (entered root) ≡ length below + 1 = omega (arith, ap length (entered_out root)) in
    let all : mass (entered root) ≡ length (vertices root) + mass below = ap mass (entered_out root) ∙ length-append (vertices root) (concat below) in
    omega (arith, few.0, few.1, size, all, some, length-has (vertices root) 1 (contains_has (vertices root) 1 h.root_has_one), vertices_length n root h)
