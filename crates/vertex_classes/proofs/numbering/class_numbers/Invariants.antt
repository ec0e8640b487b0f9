-- The vertices so far have numbers.
use Rattle.vertex_classes.proofs.Numbered.{AreNumbered}
use Rattle.vertex_classes.proofs.numbering.class_numbers.Given as goal

abbrev pub invariant-loop-v : goal.invariant-loop-v
invariant-loop-v l = AreNumbered l.parents l.numbers.items l.count l.v
