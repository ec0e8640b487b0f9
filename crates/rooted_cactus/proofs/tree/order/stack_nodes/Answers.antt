use Rattle.std.proofs.Common.{◌++◌, ◌∷◌, ◌∙◌, ap, arith, sym}
use Rattle.rooted_cactus.specs.Numbers.{waiting}
use Rattle.rooted_cactus.proofs.Drops.{drop_at}
use Rattle.rooted_cactus.proofs.Walks.{waiting_push}
use Rattle.rooted_cactus.proofs.tree.order.stack_nodes.Goals as goal

pub back-preserved : goal.back-preserved
back-preserved c =
    let node = c.index-nodes-i.result in
    let here = drop_at c.args.nodes.now c.back.i node (omega arith) c.back.invariant.within c.index-nodes-i.is in
    record {
      within = omega arith;
      stacked = ap waiting c.in_ok-push.ensures.items ∙ waiting_push c.back.stack.items _ ∙ ap (λ l. node ∷ l) c.back.invariant.stacked ∙ ap (λ l. l ++ waiting c.args.stack.now.items) (sym here);
    }
