use Rattle.std.proofs.Common.{◌∙◌, ap}
use Rattle.std.specs.List.{flat_map}
use Rattle.std.proofs.lemmas.List.{take_all}
use Rattle.rooted_cactus.specs.Spread.{group_at}
use Rattle.rooted_cactus.proofs.Steps.{flat_next}
use Rattle.rooted_cactus.proofs.tree.spread.add_classes.Goals as goal

pub classes-preserved : goal.classes-preserved
classes-preserved c =
    c.in_ok-add_class.ensures ∙ flat_next (group_at c.args.groups.now) c.args.classes.now c.classes.i 0 c.classes.out.items c.classes-test.true c.classes.invariant

pub returns : goal.returns
returns c = c.classes.invariant ∙ ap (flat_map (group_at c.args.groups.now)) (take_all c.classes.i c.args.classes.now c.classes-test.false)
