use Rattle.std.proofs.Common.{ℕ, ◌≡◌, ◌≤◌, List, length, drop}
use Rattle.cut_definitions.specs.Weight.{VertexSet}
use Rattle.rooted_cactus.specs.Entries.{Read, top_first, wanted, all_drawn}
use Rattle.rooted_cactus.specs.Trims.{Each}
use Rattle.rooted_cactus.proofs.Makes.{DrawsBlocks}
use Rattle.rooted_cactus.proofs.tree.put.draw_blocks.Given as goal

abbrev pub invariant-draw : goal.invariant-draw
invariant-draw g l = record {
  enough : wanted (top_first l.joints.items) ≤ length l.stack.items;
  blocks : (sets : List ℕ → VertexSet) (rs : List Read) → g.M.Maker.may_read sets → Each (g.M.Maker.node_is sets) rs (top_first l.initial.stack.items) → DrawsBlocks sets (g.M.Maker.node_is sets) (g.M.Maker.block_is sets) (all_drawn sets (top_first l.fn.joints.items) rs) (top_first l.joints.items) l.row.items (top_first l.stack.items);
  stack : drop (wanted (top_first l.joints.items)) (top_first l.stack.items) ≡ drop (wanted (top_first l.fn.joints.items)) (top_first l.initial.stack.items);
}

abbrev pub decreases-draw : goal.decreases-draw
decreases-draw g l = length l.joints.items
