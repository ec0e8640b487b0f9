use Rattle.std.proofs.Common.{◌≡◌, ◌++◌, map, take}
use Rattle.component_cuts.specs.Doubling.{joined_with}
use Rattle.component_cuts.proofs.unions.double.Given as goal

abbrev pub invariant-loop-i : goal.invariant-loop-i
invariant-loop-i l = l.sides.items ≡ l.initial.sides.items ++ map (joined_with l.fn.part) (take l.i l.initial.sides.items)
