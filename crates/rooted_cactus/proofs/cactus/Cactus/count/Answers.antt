use Rattle.std.proofs.Common.{◌≡◌, ◌+◌, map, ◌∙◌, ◌<◌, ◌^◌, ap, sym, subst}
use Rattle.rooted_cactus.specs.Rooted.{sides_of}
use Rattle.rooted_cactus.specs.declared.tree.Node.{Node}
use Rattle.rooted_cactus.specs.Widths.{widths}
use Rattle.rooted_cactus.specs.Numbers.{number, total, triangle}
use Rattle.rooted_cactus.specs.Formula.{census}
use Rattle.rooted_cactus.proofs.Formula.{formula}
use Rattle.rooted_cactus.specs.Different.{HasDifferent}
use Rattle.rooted_cactus.proofs.Bounds.{number_small}
use Rattle.rooted_cactus.proofs.Distinct.{number_of_sides}
use Rattle.rooted_cactus.proofs.cactus.Cactus.count.Goals as goal

pub number_of-requires : goal.number_of-requires
number_of-requires c =
    subst (λ (x : Node). number x < 2 ^ 62) (sym c.root.ensures.value)
    (number_small c.args.self.now.vertices c.args.self.now.root c.root.ensures.cactus c.requires.normal c.requires.few)

pub returns-clause-sides : goal.returns-clause-sides
returns-clause-sides c =
    subst (λ k. HasDifferent k (sides_of c.args.self.now)) (sym (c.number_of.ensures ∙ ap number c.root.ensures.value))
    (number_of_sides c.args.self.now.vertices c.args.self.now.root c.root.ensures.cactus c.requires.normal)

pub returns-clause-blocks : goal.returns-clause-blocks
returns-clause-blocks c =
    let root = c.args.self.now.root in
    subst (λ k. k + (census root).empties ≡ (census root).bridges + total (map triangle (widths root))) (sym (c.number_of.ensures ∙ ap number c.root.ensures.value))
    (formula c.args.self.now.vertices root c.root.ensures.cactus c.requires.normal)
