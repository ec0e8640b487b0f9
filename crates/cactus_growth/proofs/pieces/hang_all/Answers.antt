use Rattle.std.proofs.Common.{◌≡◌, ◌++◌, ◌∷◌, [], ◌∙◌, ap, sym, subst}
use Rattle.rooted_cactus.specs.Trees.{blocks_in}
use Rattle.cactus_growth.specs.Growth.{AreHung}
use Rattle.cactus_growth.proofs.Pulled.{none_left, more_done, hung_step}
use Rattle.std.proofs.lemmas.Bool.{false≢true}
use Rattle.cut_definitions.proofs.ListLaws.{popped_is}
use Rattle.cactus_growth.proofs.pieces.hang_all.Goals as goal

pub each_block-preserved : goal.each_block-preserved
each_block-preserved c =
    let b = c.in-Some.block in
    let inv = c.each_block.invariant in (
      b ∷ inv.0,
      more_done (blocks_in c.args.blocks) (blocks_in c.each_block.blocks) (blocks_in c.pop.new.self) inv.0 b inv.1 (popped_is (blocks_in c.each_block.blocks) (blocks_in c.pop.new.self) c.pop.result b c.pop.ensures.items c.in-Some.is),
      hung_step c.args.node c.each_block.node c.in_ok-node.node b inv.0 c.in_ok-node.ensures.part c.in_ok-node.ensures.entered c.in_ok-node.ensures.widths c.in_ok-node.ensures.vertices inv.2,
    )

pub returns : goal.returns
returns c =
    let inv = c.each_block.invariant in
    let empty : blocks_in c.each_block.blocks ≡ [] = none_left (blocks_in c.each_block.blocks) (λ lt. false≢true (c.in_default.ensures.some.1 lt)) in
    let whole : inv.0 ≡ blocks_in c.args.blocks = sym (inv.1 ∙ ap (λ bs. bs ++ inv.0) empty) in
    subst (λ bs. AreHung c.args.node bs c.each_block.node) whole inv.2
