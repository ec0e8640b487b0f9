use Rattle.std.proofs.Common.{◌∙◌, ap, sym}
use Rattle.std.specs.List.{list_all}
use Rattle.rooted_cactus.specs.Normal.{block_shape}
use Rattle.rooted_cactus.specs.Trees.{blocks}
use Rattle.rooted_cactus.specs.declared.tree.Node.{Node}
use Rattle.rooted_cactus.proofs.Shapes.{root_normal}
use Rattle.rooted_cactus.proofs.cactus.Cactus.is_normal_within.Goals as goal

pub returns : goal.returns
returns c = c.in_ok-is_normal.ensures ∙ ap (λ (x : Node). list_all (λ b. (block_shape b).fine) (blocks x)) c.root.ensures.value ∙ sym (root_normal c.args.self.now.root 1 c.root.ensures.cactus.root_has_one)
