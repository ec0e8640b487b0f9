use Rattle.std.proofs.Common.{[], ◌∷◌, ℕ, ◌∙◌, ap, sym, subst, length, ◌+◌, length-append}
use Rattle.node_tree.specs.Forest.{AreFrom, IsPlaced}
use Rattle.node_tree.proofs.ForestChanges.{from_append}
use Rattle.node_tree.proofs.into_cactus.empty_nodes.Goals as goal

pub nodes-preserved : goal.nodes-preserved
nodes-preserved c =
    let node = c.in_ok-node.node in
    record {
      len = ap length c.in_ok-push.ensures.items ∙ length-append c.nodes.nodes.items (node ∷ []) ∙ ap (λ (k : ℕ). k + 1) c.nodes.invariant.len;
      empty = λ homes. subst (AreFrom (IsPlaced 0 homes) 0) (sym c.in_ok-push.ensures.items)
          (from_append (IsPlaced 0 homes) 0 c.nodes.nodes.items (node ∷ []) (c.nodes.invariant.empty homes) ((c.in_ok-node.ensures.vertices, c.in_ok-node.ensures.blocks), tt));
    }
