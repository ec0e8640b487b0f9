use Rattle.std.proofs.Common.{[], ◌∷◌, ◌++◌, ◌∙◌, ap, sym}
use Rattle.rooted_cactus.specs.Trees.{vertices, blocks}
use Rattle.rooted_cactus.specs.declared.tree.Node.{Node}
use Rattle.node_tree.specs.Forest.{AddsVertex}
use Rattle.node_tree.proofs.ForestChanges.{changed}
use Rattle.node_tree.proofs.into_cactus.put.Goals as goal

pub returns : goal.returns
returns c = changed c.args.nodes.now c.args.home c.index-nodes-home.result _ (AddsVertex c.args.vertex) c.requires c.index-nodes-home.is
    (c.in_ok-push.ensures.ok ∙ ap (λ (x : Node). vertices x ++ c.args.vertex ∷ []) (sym c.index-nodes-home.is), ap blocks (sym c.index-nodes-home.is))
