use Rattle.std.proofs.Common.{◌≡◌, ◌∷◌, map, take}
use Rattle.std.specs.Prelude.{slice_index}
use Rattle.node_tree.proofs.homed_tree.homes_of_classes.Given as goal

abbrev pub invariant-loop-class : goal.invariant-loop-class
invariant-loop-class l = l.all.items ≡ 0 ∷ map (slice_index l.homes) (take l.class-index l.classes)
