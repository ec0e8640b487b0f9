use Rattle.std.proofs.Common.{◌∙◌, ◌++◌, ◌≤◌, ap, subst}
use Rattle.std.specs.List.{filter, flat_map}
use Rattle.std.proofs.lemmas.List.{take_all}
use Rattle.rooted_cactus.specs.Entries.{nodes_of}
use Rattle.rooted_cactus.specs.Numbers.{seen, is_inner}
use Rattle.rooted_cactus.specs.Trees.{blocks_in}
use Rattle.rooted_cactus.proofs.Tallies.{inner_block}
use Rattle.rooted_cactus.proofs.tree.number.stack_inner.Goals as goal

pub each_block-preserved : goal.each_block-preserved
each_block-preserved c = record {
  end = c.each_block.invariant.end;
  stacked = inner_block _ _ _ (blocks_in c.args.blocks.now) c.each_block.i c.at.result.now
      (c.in_ok-stack_nodes.ensures ∙ ap (λ l. seen c.each_block.stack.items ++ filter is_inner l) c.nodes.ensures) c.at.ensures c.each_block.invariant.stacked;
}

pub returns : goal.returns
returns c =
    let i = c.each_block.i in
    let before = seen c.args.stack.now.items in
    let all = take_all i (blocks_in c.args.blocks.now) (subst (λ n. n ≤ i) c.each_block.invariant.end c.each_block-test.false) in
    c.each_block.invariant.stacked ∙ ap (λ l. before ++ filter is_inner (flat_map nodes_of l)) all
