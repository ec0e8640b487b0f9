use Rattle.std.proofs.Common.{length, ap, refl, arith}
use Rattle.std.specs.List.{flat_map}
use Rattle.std.proofs.lemmas.Option.{slice_get_read}
use Rattle.rooted_cactus.specs.Trees.{blocks_in}
use Rattle.rooted_cactus.specs.Entered.{entered, entered_block}
use Rattle.rooted_cactus.specs.Numbers.{Tally}
use Rattle.rooted_cactus.proofs.Orders.{entered_out}
use Rattle.rooted_cactus.proofs.Tallies.{all_numbers, number_out, own_small, part_step, part_next, node_step, node_next, one_of_all, under_is}
use Rattle.rooted_cactus.proofs.Walks.{entered_nodes}
use Rattle.rooted_cactus.proofs.tree.number.+number.Goals as goal

pub number_of-own_cuts-requires : goal.number_of-own_cuts-requires
number_of-own_cuts-requires t c = omega (arith, own_small c.args.node.now, c.requires)

pub number_of-number_below-requires : goal.number_of-number_below-requires
number_of-number_below-requires t c = omega (arith, number_out c.args.node.now, ap length (entered_out c.args.node.now), c.requires)

pub number_of-overflow_add-result : goal.number_of-overflow_add-result
number_of-overflow_add-result t c = omega (arith, number_out c.args.node.now, c.own_cuts.ensures, c.number_below.ensures, c.requires)

pub number_of-returns : goal.number_of-returns
number_of-returns t c = omega (arith, number_out c.args.node.now, c.own_cuts.ensures, c.number_below.ensures)

pub number_below-number_of_all-count-requires : goal.number_below-number_of_all-count-requires
number_below-number_of_all-count-requires t c =
    let bs = blocks_in c.args.blocks.now in
    let b = c.index.result.now in
    let at = slice_get_read bs _ c.each_block.i b c.each_block.invariant.end (omega arith) c.index.ensures in
    omega (
      arith,
      (part_step (λ (t : Tally). t.under) bs c.each_block.i b at).1,
      under_is b,
      ap all_numbers c.nodes.ensures,
      one_of_all entered_block bs c.each_block.i b at,
      ap length (entered_nodes b),
      ap (λ xs. length (flat_map entered xs)) c.nodes.ensures,
      c.requires,
    )

pub number_below-overflow_add-count : goal.number_below-overflow_add-count
number_below-overflow_add-count t c =
    let bs = blocks_in c.args.blocks.now in
    let b = c.index.result.now in
    let at = slice_get_read bs _ c.each_block.i b c.each_block.invariant.end (omega arith) c.index.ensures in
    omega (arith, (part_step (λ (t : Tally). t.under) bs c.each_block.i b at).1, under_is b, ap all_numbers c.nodes.ensures, c.requires, c.each_block.invariant.count, c.number_of_all-count.ensures)

pub number_below-each_block-preserved : goal.number_below-each_block-preserved
number_below-each_block-preserved t c =
    let bs = blocks_in c.args.blocks.now in
    let b = c.index.result.now in
    let at = slice_get_read bs _ c.each_block.i b c.each_block.invariant.end (omega arith) c.index.ensures in
    record {
      end = c.each_block.invariant.end;
      count = omega (arith, part_next (λ (t : Tally). t.under) bs c.each_block.i b at, under_is b, ap all_numbers c.nodes.ensures, c.each_block.invariant.count, c.number_of_all-count.ensures);
    }

pub number_of_all-number_of-count-requires : goal.number_of_all-number_of-count-requires
number_of_all-number_of-count-requires t c =
    let xs = c.args.nodes.now in
    let x = c.index-nodes-i.result in
    let at = slice_get_read xs _ c.each_node.i x refl c.each_node-test.true c.index-nodes-i.is in
    omega (arith, (node_step xs c.each_node.i x at).1, one_of_all entered xs c.each_node.i x at, c.requires)

pub number_of_all-overflow_add-count : goal.number_of_all-overflow_add-count
number_of_all-overflow_add-count t c =
    let xs = c.args.nodes.now in
    let x = c.index-nodes-i.result in
    let at = slice_get_read xs _ c.each_node.i x refl c.each_node-test.true c.index-nodes-i.is in
    omega (arith, (node_step xs c.each_node.i x at).1, c.requires, c.each_node.invariant.count, c.number_of-count.ensures)

pub number_of_all-each_node-preserved : goal.number_of_all-each_node-preserved
number_of_all-each_node-preserved t c =
    let xs = c.args.nodes.now in
    let x = c.index-nodes-i.result in
    let at = slice_get_read xs _ c.each_node.i x refl c.each_node-test.true c.index-nodes-i.is in
    record {
      end = c.each_node.invariant.end;
      count = omega (arith, node_next xs c.each_node.i x at, c.each_node.invariant.count, c.number_of-count.ensures);
    }
