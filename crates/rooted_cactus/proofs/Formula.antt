-- The number of the different sides of a normal cactus by its bridges, its cycles and its empty nodes between two cycles.
use Rattle.std.proofs.Common.{ne_eqb, ◌≡◌, ℕ, ◌+◌, ◌≤◌, inl, inr, Bool, true, false, ◌&&◌, ◌==◌, List, [], ◌∷◌, ◌++◌, length, map, ap, ◌∙◌, sym, refl, arith}
use Rattle.std.specs.Prelude.{if◌then◌else◌}
use Rattle.std.specs.List.{AllByRecursion, list_all}
use Rattle.std.specs.declared.boxed.Box.{Box}
use Rattle.std.specs.declared.alloc.Global.{Global}
use Rattle.std.proofs.lemmas.Bool.{and_parts}
use Rattle.std.proofs.lemmas.List.{length-map, map-append}
use Rattle.std.proofs.Math.Bool.{and-false}
use Rattle.cut_definitions.proofs.Ascending.{length-has}
use Rattle.rooted_cactus.specs.Normal.{shape, block_shape, child_fine}
use Rattle.rooted_cactus.specs.Widths.{widths, block_widths, joined}
use Rattle.rooted_cactus.specs.Trees.{vertices, blocks, nodes_in}
use Rattle.rooted_cactus.specs.declared.tree.Node.{Node, out-Node}
use Rattle.rooted_cactus.specs.declared.tree.Block.{Block}
use Rattle.rooted_cactus.specs.declared.tree.Children.{Children}
use Rattle.rooted_cactus.specs.declared.tree.Block.TheVariants.{Bridge, Cycle, rolls-Bridge, rolls-Cycle}
use Rattle.rooted_cactus.specs.declared.tree.Block.TheOpen as Open
use Rattle.rooted_cactus.specs.declared.tree.Block.TheFolds.{fold_out-Node, fold_out-Blocks, fold_out-Children, fold-roll-Block, fold-Block}
use Rattle.rooted_cactus.proofs.Widths.{widths_out, widths_bridge, widths_cycle}
use Rattle.rooted_cactus.specs.Numbers.{Tally, number, tally, total, triangle, between, all_own, all_under}
use Rattle.rooted_cactus.specs.Formula.{BlockCensus, Census, census, block_census, alone_census, node_census, bridge_census, cycle_census, census_block_step, census_blocks_step, census_children_step, census_node_step, LawOfFormula}
use Rattle.rooted_cactus.proofs.Views.{view, block_induction, each}
use Rattle.rooted_cactus.proofs.Fits.{IsSolid, child_splits, solid_below, bridge_child_fine, cycle_children_fine, root_fine, root_solid}
use Rattle.rooted_cactus.proofs.Tallies.{number_out, tally_bridge, tally_cycle, cycle_own_is, all_numbers, total_append, triangle_some}

census_out : (x : Node) → census x ≡ node_census (vertices x) (map block_census (blocks x))
unfolding census block_census
census_out x = fold_out-Node BlockCensus (List BlockCensus) (List Census) Census census_block_step census_blocks_step census_children_step census_node_step x
    ∙ ap (node_census (vertices x)) (fold_out-Blocks BlockCensus (List BlockCensus) (List Census) Census census_block_step census_blocks_step census_children_step census_node_step (out-Node x).blocks)

census_bridge : (child : Box Node Global) → block_census (Bridge child) ≡ bridge_census (census child.value)
unfolding census block_census
census_bridge child = ap (fold-Block BlockCensus (List BlockCensus) (List Census) Census census_block_step census_blocks_step census_children_step census_node_step) (sym (rolls-Bridge child))
    ∙ fold-roll-Block BlockCensus (List BlockCensus) (List Census) Census census_block_step census_blocks_step census_children_step census_node_step (Open.Bridge child)

census_cycle : (nodes : Children) → block_census (Cycle nodes) ≡ cycle_census (map census (nodes_in nodes))
unfolding census block_census
census_cycle nodes = ap (fold-Block BlockCensus (List BlockCensus) (List Census) Census census_block_step census_blocks_step census_children_step census_node_step) (sym (rolls-Cycle nodes))
    ∙ fold-roll-Block BlockCensus (List BlockCensus) (List Census) Census census_block_step census_blocks_step census_children_step census_node_step (Open.Cycle nodes)
    ∙ ap cycle_census (fold_out-Children BlockCensus (List BlockCensus) (List Census) Census census_block_step census_blocks_step census_children_step census_node_step nodes)

-- ---- the two folds agree on whether a node is between two cycles
same_kind : (b : Block) → (block_census b).is_cycle ≡ (tally b).is_cycle
same_kind b = elim (view b) [
  | inl h ↦ ap (λ (c : BlockCensus). c.is_cycle) (ap block_census h.1 ∙ census_bridge h.0) ∙ sym (ap (λ (t : Tally). t.is_cycle) (ap tally h.1 ∙ tally_bridge h.0))
  | inr h ↦ ap (λ (c : BlockCensus). c.is_cycle) (ap block_census h.1 ∙ census_cycle h.0) ∙ sym (ap (λ (t : Tally). t.is_cycle) (ap tally h.1 ∙ tally_cycle h.0))
]

same_kinds : (bs : List Block) → list_all (λ (c : BlockCensus). c.is_cycle) (map block_census bs) ≡ list_all (λ (t : Tally). t.is_cycle) (map tally bs)
same_kinds [] = refl
same_kinds (b ∷ bs) = ap (λ k. k && list_all (λ (c : BlockCensus). c.is_cycle) (map block_census bs)) (same_kind b) ∙ ap (λ k. (tally b).is_cycle && k) (same_kinds bs)

same_place : (vs : List ℕ) (bs : List Block) → alone_census vs (map block_census bs) ≡ between vs (map tally bs)
same_place vs bs =
    ap (λ k. (length vs == 0) && ((k == 1) && list_all (λ (c : BlockCensus). c.is_cycle) (map block_census bs))) (length-map bs block_census ∙ sym (length-map bs tally))
    ∙ ap (λ k. (length vs == 0) && ((length (map tally bs) == 1) && k)) (same_kinds bs)

-- ---- intervals
abbrev spans : List ℕ → ℕ
spans ks = total (map triangle ks)

spans_append : (ks ls : List ℕ) → spans (ks ++ ls) ≡ spans ks + spans ls
spans_append ks ls = ap total (map-append triangle ks ls) ∙ total_append (map triangle ks) (map triangle ls)

abbrev bit : Bool → ℕ
bit b = if b then 1 else 0

-- ---- the induction
abbrev NodeEven : Node → Type 0
NodeEven x = list_all (λ b. (block_shape b).fine) (blocks x) ≡ true → number x + (bit (between (vertices x) (map tally (blocks x))) + (census x).empties) ≡ (census x).bridges + spans (widths x)

abbrev BlockEven : Block → Type 0
BlockEven b = (block_shape b).fine ≡ true → (((tally b).own + (tally b).under) + (block_census b).empties ≡ (block_census b).bridges + spans (block_widths b)) × (1 ≤ (tally b).own)

blocks_even : (bs : List Block) → AllByRecursion BlockEven bs → list_all (λ b. (block_shape b).fine) bs ≡ true →
    ((all_own (map tally bs) + all_under (map tally bs)) + (node_census [] (map block_census bs)).empties ≡ (node_census [] (map block_census bs)).bridges + spans (joined (map block_widths bs))) × (length bs ≤ all_own (map tally bs))
blocks_even [] h f = (refl, omega arith)
blocks_even (b ∷ bs) h f =
    let both = and_parts (block_shape b).fine (list_all (λ c. (block_shape c).fine) bs) f in
    let one = h.0 both.0 in
    let rest = blocks_even bs h.1 both.1 in
    (omega (arith, one.0, rest.0, spans_append (block_widths b) (joined (map block_widths bs))), omega (arith, one.1, rest.1))

bit_small : (vs : List ℕ) (bs : List Block) → bit (between vs (map tally bs)) ≤ length bs
bit_small (v ∷ vs) bs = omega (arith, ap bit (ap (λ b. b && ((length (map tally bs) == 1) && list_all (λ (t : Tally). t.is_cycle) (map tally bs))) (ne_eqb (length (v ∷ vs)) 0 (λ k. omega (arith, k)))))
bit_small [] [] = omega arith
bit_small [] (b ∷ bs) = omega (arith, bit_one (between [] (map tally (b ∷ bs)))) where
  bit_one : (b : Bool) → bit b ≤ 1
  bit_one true = omega arith
  bit_one false = omega arith

node_even : (x : Node) → AllByRecursion BlockEven (blocks x) → NodeEven x
node_even x h f =
    let bs = blocks x in
    let b = blocks_even bs h f in
    omega (arith, number_out x, b.0, b.1, bit_small (vertices x) bs, ap (λ (c : Census). c.empties) (census_out x), ap (λ (c : Census). c.bridges) (census_out x), ap spans (widths_out x))

solid_free : (x : Node) → IsSolid x → bit (between (vertices x) (map tally (blocks x))) ≡ 0
solid_free x s = ap bit (free s) where
  free : IsSolid x → between (vertices x) (map tally (blocks x)) ≡ false
  free (inl w) = ap (λ b. b && ((length (map tally (blocks x)) == 1) && list_all (λ (t : Tally). t.is_cycle) (map tally (blocks x)))) (ne_eqb (length (vertices x)) 0 (λ e. omega (arith, e, length-has (vertices x) w.0 w.1)))
  free (inr k) = ap (λ b. (length (vertices x) == 0) && (b && list_all (λ (t : Tally). t.is_cycle) (map tally (blocks x)))) (ne_eqb (length (map tally (blocks x))) 1 (λ e. omega (arith, e, k, length-map (blocks x) tally))) ∙ and-false (length (vertices x) == 0)

bridge_even : (child : Box Node Global) → NodeEven child.value → BlockEven (Bridge child)
bridge_even child h f =
    let x = child.value in
    let s = solid_below x (bridge_child_fine child f) in
    let own : (tally (Bridge child)).own ≡ 1 = ap (λ (t : Tally). t.own) (tally_bridge child) in
    (omega (arith, h s.1, solid_free x s.0, own, ap (λ (t : Tally). t.under) (tally_bridge child), ap (λ (c : BlockCensus). c.bridges) (census_bridge child), ap (λ (c : BlockCensus). c.empties) (census_bridge child), ap spans (widths_bridge child)), omega (arith, own))

nodes_even : (xs : List Node) → AllByRecursion NodeEven xs → list_all (λ x. child_fine true (shape x)) xs ≡ true →
    all_numbers xs + (cycle_census (map census xs)).empties ≡ (cycle_census (map census xs)).bridges + spans (joined (map widths xs))
nodes_even [] h f = refl
nodes_even (x ∷ xs) h f =
    let both = and_parts (child_fine true (shape x)) (list_all (λ y. child_fine true (shape y)) xs) f in
    let alone : bit (census x).is_alone ≡ bit (between (vertices x) (map tally (blocks x))) = ap bit (ap (λ (c : Census). c.is_alone) (census_out x) ∙ same_place (vertices x) (blocks x)) in
    omega (arith, h.0 (child_splits true x both.0).1, alone, nodes_even xs h.1 both.1, spans_append (widths x) (joined (map widths xs)))

cycle_even : (nodes : Children) → AllByRecursion NodeEven (nodes_in nodes) → BlockEven (Cycle nodes)
cycle_even nodes h f =
    let xs = nodes_in nodes in
    let g = cycle_children_fine nodes f in
    let own = cycle_own_is nodes in
    let wide : spans (block_widths (Cycle nodes)) ≡ triangle (length xs) + spans (joined (map widths xs)) = ap spans (widths_cycle nodes) ∙ ap (λ k. triangle k + spans (joined (map widths xs))) (length-map xs widths) in (
      omega (arith, nodes_even xs h g.0, own, wide, ap (λ (t : Tally). t.under) (tally_cycle nodes), ap (λ (c : BlockCensus). c.bridges) (census_cycle nodes), ap (λ (c : BlockCensus). c.empties) (census_cycle nodes)),
      omega (arith, own, triangle_some (length xs) (omega (arith, g.1))),
    )

pub formula : LawOfFormula
formula n root h normal =
    let even = node_even root (each BlockEven (block_induction NodeEven BlockEven node_even bridge_even cycle_even) (blocks root)) (root_fine n root h normal) in
    omega (arith, even, solid_free root (root_solid n root h))
