use Rattle.std.proofs.Common.{◌≡◌, ◌+◌, ◌-◌, ◌<◌, ◌∙◌, ◌++◌, [], length, map, set, ap, sym, subst, arith}
use Rattle.std.specs.Prelude.{slice_index, slice_index_or}
use Rattle.std.specs.List.{Contains}
use Rattle.std.proofs.lemmas.Bool.{false≢true}
use Rattle.std.proofs.lemmas.List.{length-set, get_or-set_same, get_or-set_other}
use Rattle.cut_definitions.specs.Cuts.{least}
use Rattle.cut_definitions.proofs.ListLaws.{All-from_each}
use Rattle.tree_flattening.proofs.LeastSteps.{same_from, set_before, nodes_step, blocks_step}
use Rattle.tree_flattening.proofs.leasts.find_leasts.Goals as goal

pub least_of_node-requires-clause-known : goal.least_of_node-requires-clause-known
least_of_node-requires-clause-known c =
    All-from_each (λ head. head < length c.nodes.blocks) c.at-in-nodes.result.now
    (λ h k. omega (arith, (c.requires.below (c.nodes.node - 1) h (omega (arith, c.nodes-test.true, c.nodes.invariant.within)) (subst (λ l. Contains l h) c.at-in-nodes.ensures k)).1, c.nodes.invariant.long))

pub nodes-preserved-then-not-is_follower : goal.nodes-preserved-then-not-is_follower
nodes-preserved-then-not-is_follower c =
    let i = c.nodes.invariant in
    let k = c.nodes.node - 1 in
    let next : k + 1 ≡ c.nodes.node = omega (arith, c.nodes-test.true) in
    let a = c.least_of_node.result in
    let b = c.least_of_block.result in
    let within : k < length c.args.tree.now.uppers = omega (arith, c.nodes-test.true, i.within) in
    let is : a ≡ least (slice_index_or c.args.members.now k [] ++ map (slice_index c.nodes.blocks) (slice_index_or c.args.heads.now k [])) =
    c.least_of_node.ensures ∙ ap (λ l. least (l ++ map (slice_index c.nodes.blocks) c.at-in-nodes.result.now)) c.at.ensures
    ∙ ap (λ l. least (slice_index_or c.args.members.now k [] ++ map (slice_index c.nodes.blocks) l)) c.at-in-nodes.ensures in
    record {
      len = length-set c.nodes.nodes k a ∙ i.len;
      long = length-set c.nodes.blocks k b ∙ i.long;
      within = omega (arith, within);
      nodes = nodes_step c.args.members.now c.args.heads.now (length c.args.tree.now.uppers) k a c.nodes.nodes c.nodes.blocks (set c.nodes.blocks k b) c.requires.below i.len
          (set_before (k + 1) k b c.nodes.blocks (omega arith)) is (λ j l m. i.nodes j (omega (arith, l, next)) m);
      blocks = blocks_step c.args.tree.now k a c.nodes.nodes c.nodes.blocks (set c.nodes.blocks k b)
          (λ h l. get_or-set_other c.nodes.blocks k h b 0 (λ e. omega (arith, e, l)))
          (λ apart. get_or-set_same c.nodes.blocks k b 0 (omega (arith, within, i.long)) ∙ c.least_of_block.ensures)
          (λ h l m. i.blocks h (omega (arith, l, next)) m);
    }

pub nodes-preserved : goal.nodes-preserved
nodes-preserved c =
    let i = c.nodes.invariant in
    let k = c.nodes.node - 1 in
    let next : k + 1 ≡ c.nodes.node = omega (arith, c.nodes-test.true) in
    let a = c.least_of_node.result in
    let within : k < length c.args.tree.now.uppers = omega (arith, c.nodes-test.true, i.within) in
    let is : a ≡ least (slice_index_or c.args.members.now k [] ++ map (slice_index c.nodes.blocks) (slice_index_or c.args.heads.now k [])) =
    c.least_of_node.ensures ∙ ap (λ l. least (l ++ map (slice_index c.nodes.blocks) c.at-in-nodes.result.now)) c.at.ensures
    ∙ ap (λ l. least (slice_index_or c.args.members.now k [] ++ map (slice_index c.nodes.blocks) l)) c.at-in-nodes.ensures in
    record {
      len = length-set c.nodes.nodes k a ∙ i.len;
      long = i.long;
      within = omega (arith, within);
      nodes = nodes_step c.args.members.now c.args.heads.now (length c.args.tree.now.uppers) k a c.nodes.nodes c.nodes.blocks c.nodes.blocks c.requires.below i.len
          (same_from (k + 1) c.nodes.blocks) is (λ j l m. i.nodes j (omega (arith, l, next)) m);
      blocks = blocks_step c.args.tree.now k a c.nodes.nodes c.nodes.blocks c.nodes.blocks (λ h l. same_from (k + 1) c.nodes.blocks h l)
          (λ apart. absurd (false≢true (sym apart ∙ sym c.is_follower.ensures ∙ c.if-not-is_follower.false)))
          (λ h l m. i.blocks h (omega (arith, l, next)) m);
    }
