use Rattle.std.proofs.Common.{◌≡◌, ◌+◌, ◌∷◌, [], ◌++◌, refl, sym, ◌∙◌, ap, arith}
use Rattle.std.proofs.lemmas.List.FromFn.{map-range_with_len_more}
use Rattle.tree_tests.specs.Sketches.{own_of}
use Rattle.tree_tests.proofs.trees.trees_of.Goals as goal

pub nodes-preserved : goal.nodes-preserved
nodes-preserved c =
    let homes = c.args.sketch.now.homes.now in
    let i = c.nodes.i in
    let from_zero : 0 + i ≡ i = omega arith in
    record {
      end = refl;
      entered = c.in_ok-close_blocks.ensures.entered ∙ c.in_ok-push_node.ensures.entered
          ∙ ap (λ ls. ls ++ own_of homes i ∷ []) c.nodes.invariant.entered ∙ sym (map-range_with_len_more (own_of homes) 0 i i from_zero);
      wide = c.in_ok-close_blocks.ensures.wide (c.in_ok-push_node.ensures.wide c.nodes.invariant.wide);
    }
