use Rattle.std.proofs.Common.{◌∷◌, ap, ◌∙◌, sym, map}
use Rattle.std.specs.Prelude.{slice_index}
use Rattle.cut_definitions.specs.Cuts.{least}
use Rattle.tree_flattening.proofs.Smallest.{least_of_first}
use Rattle.tree_flattening.proofs.leasts.least_of_node.Goals as goal

pub returns : goal.returns
returns c =
    let below = map (slice_index c.args.blocks.now) c.args.heads.now in
    c.least_at.ensures ∙ ap (λ k. least (k ∷ below)) c.least_among-least.ensures ∙ sym (least_of_first c.args.own.now below c.requires.some)
