use Rattle.std.proofs.Common.{◌∙◌, ap, sym, subst, map}
use Rattle.cut_definitions.specs.Contraction.{lift}
use Rattle.rooted_cactus.specs.Rooted.{Rooted, sides_of}
use Rattle.rooted_cactus.specs.Sides.{cuts}
use Rattle.rooted_cactus.specs.Spread.{AreClasses, spread_set}
use Rattle.rooted_cactus.proofs.Spreads.{spread_cuts, spread_sides, spread_cactus}
use Rattle.rooted_cactus.proofs.cactus.Cactus.spread.Goals as goal

pub invariant_of-result : goal.invariant_of-result
invariant_of-result c =
    let classes = c.args.classes.now in
    let are = subst (λ (r : Rooted). AreClasses c.args.n r.vertices classes) (sym c.self.view_is) c.requires in
    spread_cactus c.args.n c.self.inside.n classes are c.self.inside.root c.in_ok-root.root c.self.invariant
    c.in_ok-root.ensures.lists c.in_ok-root.ensures.widths

pub returns-clause-cuts : goal.returns-clause-cuts
returns-clause-cuts c =
    let classes = c.args.classes.now in
    let are = subst (λ (r : Rooted). AreClasses c.args.n r.vertices classes) (sym c.self.view_is) c.requires in
    spread_cuts c.args.n c.self.inside.n classes are c.self.inside.root c.in_ok-root.root c.in_ok-root.ensures.sides
    ∙ ap (λ (r : Rooted). map (spread_set c.args.n classes) (cuts r.root)) c.self.view_is

pub returns-clause-sides : goal.returns-clause-sides
returns-clause-sides c =
    let classes = c.args.classes.now in
    let are = subst (λ (r : Rooted). AreClasses c.args.n r.vertices classes) (sym c.self.view_is) c.requires in
    spread_sides c.args.n c.self.inside.n classes are c.self.inside.root c.in_ok-root.root
    (spread_cuts c.args.n c.self.inside.n classes are c.self.inside.root c.in_ok-root.root c.in_ok-root.ensures.sides)
    ∙ ap (λ (r : Rooted). map (lift classes) (sides_of r)) c.self.view_is
