use Rattle.std.proofs.Common.{◌∙◌, ◌++◌, ◌∷◌, [], ap, sym, arith, drop, length, reverse}
use Rattle.node_tree.proofs.ForestChanges.{reverse_more}
use Rattle.node_tree.proofs.ForestBlocks.{taken}
use Rattle.node_tree.proofs.into_cactus.take_cycle.Goals as goal

pub taken-preserved : goal.taken-preserved
taken-preserved c =
    let all = c.args.nodes.now.items in
    let node = c.unwrap-node.result in
    let t = taken all c.taken.nodes.items c.pop.new.self.items c.pop.result node c.taken.invariant.front c.pop.ensures.items c.unwrap-node.ensures in
    record {
      enough = omega (arith, t.fewer, c.taken-test.true);
      few = omega (arith, t.fewer, c.taken.invariant.few);
      front = t.front;
      taken = c.in_ok-push.ensures.ok ∙ ap (λ l. l ++ node ∷ []) c.taken.invariant.taken ∙ sym (ap reverse t.behind ∙ reverse_more node (drop (length c.taken.nodes.items) all));
    }
