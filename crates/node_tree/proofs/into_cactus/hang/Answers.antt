use Rattle.std.proofs.Common.{[], ◌∷◌, ◌++◌, ◌∙◌, ap, sym}
use Rattle.rooted_cactus.specs.Trees.{vertices, blocks}
use Rattle.rooted_cactus.specs.declared.tree.Node.{Node}
use Rattle.node_tree.specs.Forest.{AddsBlock}
use Rattle.node_tree.proofs.ForestChanges.{changed}
use Rattle.node_tree.proofs.into_cactus.hang.Goals as goal

pub returns : goal.returns
returns c = changed c.args.nodes.now c.args.upper c.index-nodes-upper.result _ (AddsBlock c.args.block) c.requires c.index-nodes-upper.is
    (ap vertices (sym c.index-nodes-upper.is), c.in_ok-push.ensures.ok ∙ ap (λ (x : Node). blocks x ++ c.args.block ∷ []) (sym c.index-nodes-upper.is))
