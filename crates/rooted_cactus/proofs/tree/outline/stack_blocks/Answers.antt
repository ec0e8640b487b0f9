use Rattle.std.proofs.Common.{◌++◌, length, map, ◌∙◌, ap, sym, arith}
use Rattle.std.proofs.lemmas.List.{length-map}
use Rattle.rooted_cactus.specs.Trees.{blocks_in}
use Rattle.rooted_cactus.specs.Heads.{entries_waiting}
use Rattle.rooted_cactus.specs.Outlines.{block_entries, outline}
use Rattle.rooted_cactus.proofs.Stacked.{outline_nodes, stacked_block, stacked_length}
use Rattle.rooted_cactus.proofs.tree.outline.stack_blocks.Goals as goal

pub back-preserved : goal.back-preserved
back-preserved c =
    let block = c.index.result.now in
    let outlines = ap (map outline) c.nodes.ensures ∙ sym (outline_nodes block) in
    record {
      within = omega (arith, c.back.invariant.within);
      length = stacked_length (blocks_in c.args.blocks.now) c.back.i _ _ _ block (omega (arith, c.back-test.true)) c.back.invariant.within c.index.ensures c.back.invariant.length
          (omega (arith, c.in_ok-stack_nodes.ensures.length, length-map c.nodes.result.now outline, ap length outlines));
      entries = stacked_block (blocks_in c.args.blocks.now) c.back.i block (entries_waiting c.back.stack.items) _ _ (omega (arith, c.back-test.true)) c.back.invariant.within c.index.ensures c.back.invariant.entries
          (c.in_ok-stack_nodes.ensures.entries ∙ ap (λ os. block_entries os ++ entries_waiting c.back.stack.items) outlines);
    }
