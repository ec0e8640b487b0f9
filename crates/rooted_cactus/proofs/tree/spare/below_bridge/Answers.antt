use Rattle.std.proofs.Common.{◌∙◌, ap, sym}
use Rattle.std.proofs.lemmas.Bool.{false≢true}
use Rattle.rooted_cactus.specs.Normal.{BlockShape, block_shape}
use Rattle.rooted_cactus.proofs.Shapes.{cycle_shape}
use Rattle.rooted_cactus.proofs.tree.spare.below_bridge.Goals as goal

pub unreachable-requires : goal.unreachable-requires
unreachable-requires c =
    absurd (false≢true (sym c.requires ∙ ap (λ b. (block_shape b).is_cycle) c.in-Cycle.is ∙ ap (λ (s : BlockShape). s.is_cycle) (cycle_shape _)))
