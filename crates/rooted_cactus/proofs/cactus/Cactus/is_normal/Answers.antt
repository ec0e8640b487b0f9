use Rattle.std.proofs.Common.{◌∙◌, ap, sym}
use Rattle.rooted_cactus.specs.Rooted.{Rooted}
use Rattle.rooted_cactus.specs.Normal.{is_normal}
use Rattle.rooted_cactus.proofs.Shapes.{root_normal}
use Rattle.rooted_cactus.proofs.cactus.Cactus.is_normal.Goals as goal

pub returns : goal.returns
returns c = c.blocks_are_normal.ensures ∙ sym (root_normal c.self.inside.root 1 c.self.invariant.root_has_one) ∙ ap (λ (r : Rooted). is_normal r.root) c.self.view_is
