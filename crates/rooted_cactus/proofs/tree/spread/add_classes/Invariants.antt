use Rattle.std.proofs.Common.{◌≡◌, take}
use Rattle.std.specs.List.{flat_map}
use Rattle.rooted_cactus.specs.Spread.{group_at}
use Rattle.rooted_cactus.proofs.tree.spread.add_classes.Given as goal

abbrev pub invariant-classes : goal.invariant-classes
invariant-classes l = l.out.items ≡ flat_map (group_at l.groups) (take l.i l.classes)
