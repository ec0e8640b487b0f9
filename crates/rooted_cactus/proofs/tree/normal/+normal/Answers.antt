use Rattle.std.proofs.Common.{◌&&◌, ◌∙◌, Bool, length, ap, sym, refl, arith}
use Rattle.std.specs.List.{flat_map, list_all}
use Rattle.std.proofs.lemmas.Option.{slice_get_read}
use Rattle.rooted_cactus.specs.Entered.{entered, entered_block}
use Rattle.rooted_cactus.specs.Entries.{nodes_of}
use Rattle.rooted_cactus.specs.Normal.{block_shape}
use Rattle.rooted_cactus.specs.Trees.{blocks, blocks_in}
use Rattle.rooted_cactus.specs.declared.tree.Node.{Node}
use Rattle.rooted_cactus.proofs.AllFine.{all_fine, block_fine, is_fine, one_more, one_not}
use Rattle.rooted_cactus.proofs.Orders.{entered_out}
use Rattle.rooted_cactus.proofs.Shapes.{node_fine}
use Rattle.rooted_cactus.proofs.Tallies.{one_of_all}
use Rattle.rooted_cactus.proofs.Walks.{entered_nodes}
use Rattle.rooted_cactus.proofs.tree.normal.+normal.Goals as goal

abbrev below : Node → Bool
below x = list_all (λ b. (block_shape b).fine) (blocks x)

pub block_is_normal-nodes_are_normal-requires : goal.block_is_normal-nodes_are_normal-requires
block_is_normal-nodes_are_normal-requires t c = omega (arith, ap length (entered_nodes c.args.block.now), ap (λ xs. length (flat_map entered xs)) c.nodes.ensures)

pub block_is_normal-returns-then-block_is_placed : goal.block_is_normal-returns-then-block_is_placed
block_is_normal-returns-then-block_is_placed t c =
    let b = c.args.block.now in
    c.nodes_are_normal.ensures ∙ ap all_fine c.nodes.ensures ∙ sym (block_fine b ∙ ap (λ k. k && all_fine (nodes_of b)) (sym c.block_is_placed.ensures ∙ c.if-block_is_placed.true))

pub block_is_normal-returns-else-block_is_placed : goal.block_is_normal-returns-else-block_is_placed
block_is_normal-returns-else-block_is_placed t c =
    let b = c.args.block.now in
    c.if-block_is_placed.false ∙ sym (block_fine b ∙ ap (λ k. k && all_fine (nodes_of b)) (sym c.block_is_placed.ensures ∙ c.if-block_is_placed.false))

pub blocks_are_normal-block_is_normal-requires : goal.blocks_are_normal-block_is_normal-requires
blocks_are_normal-block_is_normal-requires t c =
    let bs = blocks_in c.args.blocks.now in
    let b = c.index.result.now in
    omega (arith, one_of_all entered_block bs c.each_block.i b (slice_get_read bs _ c.each_block.i b c.each_block.invariant.end (omega arith) c.index.ensures))

pub nodes_are_normal-blocks_are_normal-requires : goal.nodes_are_normal-blocks_are_normal-requires
nodes_are_normal-blocks_are_normal-requires t c =
    let xs = c.args.nodes.now in
    let x = c.index-nodes-i.result in
    let at = slice_get_read xs _ c.each_node.i x refl c.each_node-test.true c.index-nodes-i.is in
    omega (arith, one_of_all entered xs c.each_node.i x at, ap length (entered_out x), ap (λ y. length (flat_map entered_block (blocks y))) c.index-nodes-i.is)

pub nodes_are_normal-returns-then-not-blocks_are_normal : goal.nodes_are_normal-returns-then-not-blocks_are_normal
nodes_are_normal-returns-then-not-blocks_are_normal t c =
    let xs = c.args.nodes.now in
    let x = c.index-nodes-i.result in
    let at = slice_get_read xs _ c.each_node.i x refl c.each_node-test.true c.index-nodes-i.is in
    sym (one_not is_fine xs c.each_node.i x at (node_fine x ∙ ap below c.index-nodes-i.is ∙ sym c.blocks_are_normal.ensures ∙ c.if-not-blocks_are_normal.true))

pub nodes_are_normal-each_node-preserved : goal.nodes_are_normal-each_node-preserved
nodes_are_normal-each_node-preserved t c =
    let xs = c.args.nodes.now in
    let x = c.index-nodes-i.result in
    let at = slice_get_read xs _ c.each_node.i x refl c.each_node-test.true c.index-nodes-i.is in
    record {
      end = c.each_node.invariant.end;
      so_far = one_more is_fine xs c.each_node.i x at (node_fine x ∙ ap below c.index-nodes-i.is ∙ sym c.blocks_are_normal.ensures ∙ c.if-not-blocks_are_normal.false) c.each_node.invariant.so_far;
    }
