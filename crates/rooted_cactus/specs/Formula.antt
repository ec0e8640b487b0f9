-- How many bridges a tree has, and how many empty nodes between two cycles.
use Rattle.std.specs.Prelude.{ℕ, ◌+◌, ◌≡◌, Bool, true, false, ◌&&◌, ◌==◌, if◌then◌else◌, List, length, map}
use Rattle.std.specs.List.{list_all}
use Rattle.rooted_cactus.specs.declared.tree.Node.{Node}
use Rattle.rooted_cactus.specs.declared.tree.Block.{Block}
use Rattle.rooted_cactus.specs.declared.tree.Block.TheOpen.{Block-F, Blocks-F, Children-F, Node-F, Bridge, Cycle}
use Rattle.rooted_cactus.specs.declared.tree.Block.TheFolds.{fold-Node, fold-Block}
use Rattle.rooted_cactus.specs.Rooted.{IsCactus}
use Rattle.rooted_cactus.specs.Normal.{is_normal}
use Rattle.rooted_cactus.specs.Widths.{widths}
use Rattle.rooted_cactus.specs.Numbers.{number, total, triangle}

-- a block: whether it is a cycle, the number of the bridges in it, and of the empty nodes below it between two cycles
pub record BlockCensus : Type 0 where
  pub is_cycle : Bool
  pub bridges : ℕ
  pub empties : ℕ

-- a node: whether it has no vertex and one block below it, a cycle; the same numbers of the blocks below it
pub record Census : Type 0 where
  pub is_alone : Bool
  pub bridges : ℕ
  pub empties : ℕ

abbrev pub alone_census : List ℕ → List BlockCensus → Bool
alone_census vs bs = (length vs == 0) && ((length bs == 1) && list_all (λ (b : BlockCensus). b.is_cycle) bs)

abbrev pub node_census : List ℕ → List BlockCensus → Census
node_census vs bs = record { is_alone = alone_census vs bs; bridges = total (map (λ (b : BlockCensus). b.bridges) bs); empties = total (map (λ (b : BlockCensus). b.empties) bs) }

abbrev pub bridge_census : Census → BlockCensus
bridge_census c = record { is_cycle = false; bridges = c.bridges + 1; empties = c.empties }

-- below a cycle a node that has no vertex and one block below it, a cycle, lies in exactly two blocks, both cycles
abbrev pub cycle_census : List Census → BlockCensus
cycle_census cs = record { is_cycle = true; bridges = total (map (λ (c : Census). c.bridges) cs); empties = total (map (λ (c : Census). (if c.is_alone then 1 else 0) + c.empties) cs) }

abbrev pub census_block_step : Block-F BlockCensus (List BlockCensus) (List Census) Census → BlockCensus
census_block_step (Bridge child) = bridge_census child.value
census_block_step (Cycle nodes) = cycle_census nodes

abbrev pub census_blocks_step : Blocks-F BlockCensus (List BlockCensus) (List Census) Census → List BlockCensus
census_blocks_step b = b.items.items

abbrev pub census_children_step : Children-F BlockCensus (List BlockCensus) (List Census) Census → List Census
census_children_step c = c.items.items

abbrev pub census_node_step : Node-F BlockCensus (List BlockCensus) (List Census) Census → Census
census_node_step x = node_census x.vertices x.blocks

unfoldable pub census : Node → Census
census = fold-Node BlockCensus (List BlockCensus) (List Census) Census census_block_step census_blocks_step census_children_step census_node_step

unfoldable pub block_census : Block → BlockCensus
block_census = fold-Block BlockCensus (List BlockCensus) (List Census) Census census_block_step census_blocks_step census_children_step census_node_step

-- the number is that of the bridges and the intervals of the children of each cycle, less that of the empty nodes in exactly two blocks, both cycles
abbrev pub LawOfFormula : Type 0
LawOfFormula = (n : ℕ) (root : Node) → IsCactus n root → is_normal root ≡ true → number root + (census root).empties ≡ (census root).bridges + total (map triangle (widths root))
